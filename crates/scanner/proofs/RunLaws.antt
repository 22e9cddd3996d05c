-- The run of regular white space from a place on is the longest one, and has one end.
use Rattle.std.proofs.Common.{◌≡◌, ℕ, zero, suc, ◌+◌, ◌-◌, ◌<◌, ◌≤◌, Bool, true, false, List, [], ◌∷◌, length, get_or, drop, sym, ap, ◌∙◌, subst, inl, inr, ⊎_elim, one-add, arith, get_or-drop}
use Rattle.std.specs.List.{prefix_len}
use Rattle.std.proofs.lemmas.List.{length-drop}
use Rattle.std.proofs.lemmas.Bool.{both_ways, cases_lt, cases_order, cond_both}
use Rattle.source.specs.Search.{regular_whitespace}
use Rattle.scanner.specs.Ecma.{RunEnds}

-- the longest front of a list that passes a test
record Front (p : ℕ → Bool) (xs : List ℕ) (n : ℕ) : Type 0 where
  within : n ≤ length xs
  each : (k : ℕ) → k < n → p (get_or xs k 0) ≡ true
  stops : n < length xs → p (get_or xs n 0) ≡ false

longer : (p : ℕ → Bool) (x : ℕ) (xs : List ℕ) (n : ℕ) → p x ≡ true → Front p xs n → Front p (x ∷ xs) (suc n)
longer p x xs n e h = record { within = omega (arith, h.within); each = passes; stops = λ lt. h.stops (omega arith) }
  where
    passes : (k : ℕ) → k < suc n → p (get_or (x ∷ xs) k 0) ≡ true
    passes zero lt = e
    passes (suc k) lt = h.each k (omega arith)

leading_front : (p : ℕ → Bool) (xs : List ℕ) → Front p xs (prefix_len p xs)
leading_front p [] = record { within = omega arith; each = λ k lt. absurd (omega arith); stops = λ lt. absurd (omega arith) }
leading_front p (x ∷ xs) =
    cond_both (p x) (1 + prefix_len p xs) 0 (Front p (x ∷ xs))
    (λ e. subst (Front p (x ∷ xs)) (sym (one-add (prefix_len p xs))) (longer p x xs (prefix_len p xs) e (leading_front p xs)))
    (λ e. record { within = omega arith; each = λ k lt. absurd (omega arith); stops = λ _. e })

pub run_ends : (text : List ℕ) (from : ℕ) → from ≤ length text → RunEnds text from (from + prefix_len regular_whitespace (drop from text))
run_ends text from le =
    let n : ℕ = prefix_len regular_whitespace (drop from text) in
    let h = leading_front regular_whitespace (drop from text) in
    let long = length-drop from text in
    record {
      onward = omega arith;
      within = omega (arith, h.within);
      each = λ at on lt.
          let e : from + (at - from) ≡ at = omega arith in
          ap (λ (k : ℕ). regular_whitespace (get_or text k 0)) (sym e) ∙ ap regular_whitespace (sym (get_or-drop from text (at - from) 0)) ∙ h.each (at - from) (omega arith);
      stops = ⊎_elim
          (λ (lt : n < length (drop from text)). inr (ap regular_whitespace (sym (get_or-drop from text n 0)) ∙ h.stops lt))
          (λ (ge : length (drop from text) ≤ n). inl (omega (arith, h.within)))
          (cases_lt n (length (drop from text)));
    }

shorter : (text : List ℕ) (from a b : ℕ) → RunEnds text from a → RunEnds text from b → a < b → ⊥
shorter text from a b h k lt = ⊎_elim (λ e. omega (arith, k.within)) (λ e. both_ways _ e (k.each a h.onward lt)) h.stops

pub run_only : (text : List ℕ) (from a b : ℕ) → RunEnds text from a → RunEnds text from b → a ≡ b
run_only text from a b h k =
    ⊎_elim (λ e. e) (⊎_elim (λ lt. absurd (shorter text from a b h k lt)) (λ lt. absurd (shorter text from b a k h lt))) (cases_order a b)

-- the same of an end that was computed
pub run_is : (text : List ℕ) (from end : ℕ) → end ≡ from + prefix_len regular_whitespace (drop from text) → from ≤ length text → RunEnds text from end
run_is text from end e le = subst (RunEnds text from) (sym e) (run_ends text from le)

pub run_is_only : (text : List ℕ) (from end : ℕ) → end ≡ from + prefix_len regular_whitespace (drop from text) → (other : ℕ) → RunEnds text from other → other ≡ end
run_is_only text from end e other h = run_only text from other end h (run_is text from end e (omega (arith, h.onward, h.within)))
