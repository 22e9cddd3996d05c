-- What stands at the end of a text, so many times.
use Rattle.std.proofs.Common.{◌≡◌, ℕ, zero, suc, ◌+◌, ◌-◌, ◌<◌, ◌≤◌, List, ◌++◌, length, take, drop, Some, None, Option, sym, ap, ◌∙◌, append_assoc, arith}
use Rattle.std.proofs.Math.Seq.{take-append_seam, drop-append_seam}
use Rattle.std.proofs.lemmas.List.{append-nil, drop-append-le, length-append, length-drop, take-append-drop}
use Rattle.std.specs.List.{repeat, slice_range}
use Rattle.cases.specs.Fields.{multiplied}
use Rattle.cases.proofs.Pairs.{after}

-- the last of them is as good as the first
pub last_first : (k : ℕ) (once : List ℕ) → repeat k once ++ once ≡ once ++ repeat k once
last_first zero once = sym (append-nil once)
last_first (suc k) once = append_assoc once (repeat k once) once ∙ ap (λ ys. once ++ ys) (last_first k once)

module _ (text : List ℕ) (from : ℕ) where
  -- what is added leaves it where it stands
  stays : from ≤ length text → (more : List ℕ) → slice_range (text ++ more) from (length text) ≡ drop from text
  stays within more =
      ap (take (length text - from)) (drop-append-le from text more within)
      ∙ ap (λ k. take k (drop from text ++ more)) (sym (length-drop from text))
      ∙ take-append_seam (drop from text) more

  -- once more
  pub turn : from ≤ length text → (i : ℕ) → 0 < i → (now then : List ℕ) → now ≡ text ++ repeat (i - 1) (drop from text) → then ≡ now ++ slice_range now from (length text) → then ≡ text ++ repeat (i + 1 - 1) (drop from text)
  turn within i some now then is copied =
      let last = drop from text in
      let so_many : suc (i - 1) ≡ i + 1 - 1 = omega arith in
      copied
      ∙ ap (λ xs. xs ++ slice_range xs from (length text)) is
      ∙ ap (λ ys. (text ++ repeat (i - 1) last) ++ ys) (stays within (repeat (i - 1) last))
      ∙ append_assoc text (repeat (i - 1) last) last
      ∙ ap (λ ys. text ++ ys) (last_first (i - 1) last)
      ∙ ap (λ k. text ++ repeat k last) so_many

  -- with what stood there already
  pub end : (n i : ℕ) → 0 < n → i ≡ n → text ++ repeat (i - 1) (drop from text) ≡ take from text ++ repeat n (drop from text)
  end n i some e =
      let last = drop from text in
      let so_many : suc (i - 1) ≡ n = omega arith in
      ap (λ xs. xs ++ repeat (i - 1) last) (sym (take-append-drop from text))
      ∙ append_assoc (take from text) last (repeat (i - 1) last)
      ∙ ap (λ k. take from text ++ repeat k last) so_many

-- a text to which bytes were added is no shorter
pub no_shorter : (text all : List ℕ) (o : Option (List ℕ)) → after text o ≡ Some all → length text ≤ length all
no_shorter text all (Some bs) e =
    let whole : text ++ bs ≡ all = cc in
    omega (arith, length-append text bs, ap length whole)
no_shorter text all None e = cc

-- the bytes that were added, so many times
pub repeated : (text once all : List ℕ) (n : ℕ) (o : Option (List ℕ)) → after text o ≡ Some once → all ≡ take (length text) once ++ repeat n (drop (length text) once) → after text (multiplied (Some n) o) ≡ Some all
repeated text once all n (Some bs) e is =
    let whole : text ++ bs ≡ once = cc in
    ap (λ ys. Some ys)
    (ap (λ xs. xs ++ repeat n bs) (sym (take-append_seam text bs))
    ∙ ap (λ ys. take (length text) (text ++ bs) ++ repeat n ys) (sym (drop-append_seam text bs))
    ∙ ap (λ xs. take (length text) xs ++ repeat n (drop (length text) xs)) whole
    ∙ sym is)
repeated text once all n None e is = cc
