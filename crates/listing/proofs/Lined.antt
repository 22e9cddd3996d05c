-- The lines of rows, one row more.
use Rattle.std.proofs.Common.{◌≡◌, ℕ, ◌+◌, ◌<◌, List, [], ◌∷◌, ◌++◌, length, get_or, take, sym, ap, ◌∙◌, append_assoc}
use Rattle.std.proofs.lemmas.List.{take_more, append-nil}
use Rattle.listing.specs.Listing.{lines_of}

module _ {R : Type 0} (line : R → List ℕ) where
  lines_push : (rs : List R) (r : R) → lines_of line (rs ++ r ∷ []) ≡ lines_of line rs ++ line r
  lines_push [] r = append-nil (line r)
  lines_push (s ∷ rs) r = ap (λ (l : List ℕ). line s ++ l) (lines_push rs r) ∙ sym (append_assoc (line s) (lines_of line rs) (line r))

  pub lines_more : (rs : List R) (i : ℕ) (d : R) → i < length rs → lines_of line (take i rs) ++ line (get_or rs i d) ≡ lines_of line (take (i + 1) rs)
  lines_more rs i d lt = sym (ap (lines_of line) (take_more rs i d lt) ∙ lines_push (take i rs) (get_or rs i d))
