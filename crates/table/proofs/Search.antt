-- A binary search by the starts of rows.
use Rattle.std.proofs.Common.{◌≡◌, ℕ, ◌<◌, List, [], ◌∷◌, map, length, get_or, Result, Ok, Err, sym, ap, ◌∙◌, arith}
use Rattle.std.specs.List.Sorted.{IsSearchInRange, IsBinarySearchResult, IsNonDecreasingBy}
use Rattle.std.specs.Ordering.{nat_cmp, ordering_index}
use Rattle.std.specs.Result.{result_ok}
use Rattle.std.proofs.lemmas.Cmp.{ranked}
use Rattle.std.proofs.lemmas.List.{length-map, get_or-map}
use Rattle.std.proofs.lemmas.List.Sorted.{IsNonDecreasingBy-from_default}
use Rattle.std.proofs.lemmas.Bool.Decides.{nat_tests}
use Rattle.table.specs.Order.{Rising, Found}

module _ {R : Type 0} (at : R → ℕ) (d : R) (kept : List R) (start : ℕ) where
  start_at : (i : ℕ) → i < length kept → get_or (map at kept) i 0 ≡ at (get_or kept i d)
  start_at i lt = get_or-map at kept i d 0 lt

  -- in rising starts the comparisons with a start rise, as a binary search asks
  comparisons_rise : Rising (map at kept) → IsNonDecreasingBy (λ row. ordering_index (nat_cmp (at row) start)) kept
  comparisons_rise rising = IsNonDecreasingBy-from_default (λ row. ordering_index (nat_cmp (at row) start)) kept d (λ i j le lt.
      grind (arith, nat_tests, rising i j, length-map kept at, start_at i, start_at j, λ (same : i ≡ j). ap (λ (k : ℕ). at (get_or kept k d)) same))

  found_by : (r : Result ℕ ℕ) → IsSearchInRange r (length kept) → IsBinarySearchResult (λ row. nat_cmp (at row) start) kept r → Found (map at kept) start (result_ok r)
  found_by (Ok i) lt equal = (omega (arith, length-map kept at), start_at i lt ∙ ranked _ start _ (sym (equal d)))
  found_by (Err i) le parted = λ rising k lt same.
      let cut = parted (comparisons_rise rising) in
      grind (arith, nat_tests, length-map kept at, start_at k, cut.0 k d, cut.1 k d)

-- what a binary search answers, `None` where it is an error
pub searched : {R : Type 0} (at : R → ℕ) (kept : List R) (start : ℕ) (r : Result ℕ ℕ) → IsSearchInRange r (length kept) → IsBinarySearchResult (λ row. nat_cmp (at row) start) kept r → Found (map at kept) start (result_ok r)
searched at [] start (Ok i) lt equal = absurd (omega arith)
searched at [] start (Err i) le parted = λ rising k lt. absurd (omega arith)
searched at (d ∷ rows) start r in_range is = found_by at d (d ∷ rows) start r in_range is
