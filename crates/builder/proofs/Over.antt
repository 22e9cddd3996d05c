-- A change of the rows from one index to another, row by row.
use Rattle.std.proofs.Common.{◌≡◌, ℕ, zero, suc, ◌+◌, ◌-◌, ◌<◌, ◌≤◌, List, [], ◌∷◌, ◌++◌, length, get_or, min, ⊎_elim, take, drop, set, sym, refl, ap, ◌∙◌, add-one, arith}
use Rattle.std.proofs.lemmas.Bool.{cases_lt}
use Rattle.std.proofs.Math.Nat.{sub-zero, suc-sub-suc}
use borrow.Rule.Slice.PartMut.{put_mid, mid_of}
use Rattle.builder.specs.Rows.{over}

module _ {R : Type 0} (f : R → R) where
  pub over_none : (from to : ℕ) (rows : List R) → to ≤ from → over f from to rows ≡ rows
  over_none from zero rows le = refl
  over_none from (suc to) [] le = refl
  over_none zero (suc to) (r ∷ rs) le = absurd (omega arith)
  over_none (suc from) (suc to) (r ∷ rs) le = ap (λ (l : List R). r ∷ l) (over_none from to rs (omega arith))

  over_suc : (to : ℕ) (rows : List R) (d : R) → to < length rows → set (over f 0 to rows) to (f (get_or (over f 0 to rows) to d)) ≡ over f 0 (suc to) rows
  over_suc to [] d lt = absurd (omega arith)
  over_suc zero (r ∷ rs) d lt = refl
  over_suc (suc to) (r ∷ rs) d lt = ap (λ (l : List R). f r ∷ l) (over_suc to rs d (omega arith))

  -- one row more
  pub over_more : (to : ℕ) (rows : List R) (d : R) → to < length rows → set (over f 0 to rows) to (f (get_or (over f 0 to rows) to d)) ≡ over f 0 (to + 1) rows
  over_more to rows d lt = over_suc to rows d lt ∙ ap (λ (k : ℕ). over f 0 k rows) (sym (add-one to))

  over_front : (k : ℕ) (rows : List R) → over f 0 k (take k rows) ++ drop k rows ≡ over f 0 k rows
  over_front zero rows = refl
  over_front (suc k) [] = refl
  over_front (suc k) (r ∷ rs) = ap (λ (l : List R). f r ∷ l) (over_front k rs)

  -- the rows between, changed and put back
  pub over_part : (from to : ℕ) (rows : List R) → from ≤ to → to ≤ length rows → put_mid from (to - from) rows (over f 0 (to - from) (mid_of from (to - from) rows)) ≡ over f from to rows
  over_part zero to rows le within = rw sub-zero (over_front to rows)
  over_part (suc from) to [] le within = absurd (omega arith)
  over_part (suc from) zero (r ∷ rs) le within = absurd (omega arith)
  over_part (suc from) (suc to) (r ∷ rs) le within = rw suc-sub-suc (ap (λ (l : List R). r ∷ l) (over_part from to rs (omega arith) (omega arith)))

  -- an index past the other changes nothing
  pub over_min : (from to : ℕ) (rows : List R) → over f (min from to) to rows ≡ over f from to rows
  over_min from to rows = ⊎_elim
      (λ (some : from < to). let e : min from to ≡ from = omega arith in ap (λ (k : ℕ). over f k to rows) e)
      (λ (none : to ≤ from). over_none (min from to) to rows (omega arith) ∙ sym (over_none from to rows none))
      (cases_lt from to)
