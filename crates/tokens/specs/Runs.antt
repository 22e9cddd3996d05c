-- Where a run of bytes of a class ends.
use Rattle.std.specs.Prelude.{◌≡◌, ℕ, suc, ◌+◌, ◌<◌, ◌≤◌, Bool, true, false, cond, List, [], ◌∷◌, ◌++◌, length, drop, slice_index, refl}
use Rattle.std.proofs.Common.{sym, ap, ◌∙◌, arith}
use Rattle.std.specs.List.{prefix_len}
use Rattle.std.proofs.lemmas.List.{length-drop, get_or-drop}
use Rattle.std.proofs.lemmas.Bool.Decides.{nat_tests}
use Rattle.std.proofs.lemmas.List.Sums.{prefix_len-le-length}
use Rattle.tokens.specs.Grammar.{digit}
use Rattle.tokens.specs.Json.{run_end}
use Rattle.tokens.specs.Rules.{many}

-- a run lies within the text
pub run_inside : (class : ℕ → Bool) (text : List ℕ) (from : ℕ) → from ≤ length text → run_end class text from ≤ length text
run_inside class text from h = omega (arith, prefix_len-le-length class (drop from text), length-drop from text)

pub digit_ascii : (b : ℕ) → digit b ≡ true → (0 < b) × (b < 128)
digit_ascii b h = (grind (arith, nat_tests), grind (arith, nat_tests))

leading_over : (p : ℕ → Bool) (xs t : List ℕ) → many p xs → prefix_len p (xs ++ t) ≡ length xs + prefix_len p t
leading_over p [] t h = omega arith
leading_over p (x ∷ xs) t h =
    let ih = leading_over p xs t h.1 in
    let e : prefix_len p (x ∷ (xs ++ t)) ≡ 1 + prefix_len p (xs ++ t) = ap (λ v. cond v (1 + prefix_len p (xs ++ t)) 0) h.0 in
    omega (arith, e, ih)

pub leading_stops : (p : ℕ → Bool) (b : ℕ) (t : List ℕ) → p b ≡ false → prefix_len p (b ∷ t) ≡ 0
leading_stops p b t h = ap (λ v. cond v (1 + prefix_len p t) 0) h

-- a run goes over bytes of its class and on
pub run_over : (class : ℕ → Bool) (text : List ℕ) (from : ℕ) (xs t : List ℕ) → drop from text ≡ xs ++ t → many class xs
    → run_end class text from ≡ from + (length xs + prefix_len class t)
run_over class text from xs t h m = ap (λ z. from + prefix_len class z) h ∙ ap (λ n. from + n) (leading_over class xs t m)

pub leading_none : (p : ℕ → Bool) (xs : List ℕ) → p (slice_index xs 0) ≡ false → prefix_len p xs ≡ 0
leading_none p [] h = refl
leading_none p (x ∷ xs) h = leading_stops p x xs h

end_step : (p : ℕ → Bool) (x : ℕ) (xs : List ℕ) (v : Bool) → p x ≡ v → p (slice_index xs (prefix_len p xs)) ≡ false → p (slice_index (x ∷ xs) (cond v (1 + prefix_len p xs) 0)) ≡ false
end_step p x xs true e ih = let n : 1 + prefix_len p xs ≡ suc (prefix_len p xs) = omega arith in ap (λ k. p (slice_index (x ∷ xs) k)) n ∙ ih
end_step p x xs false e ih = e

leading_ends : (p : ℕ → Bool) → p 0 ≡ false → (xs : List ℕ) → p (slice_index xs (prefix_len p xs)) ≡ false
leading_ends p none [] = none
leading_ends p none (x ∷ xs) = end_step p x xs (p x) refl (leading_ends p none xs)

-- the byte after a run is not of its class
pub run_ends : (class : ℕ → Bool) (text : List ℕ) (from : ℕ) → class 0 ≡ false → class (slice_index text (run_end class text from)) ≡ false
run_ends class text from none =
    ap class (sym (get_or-drop from text (prefix_len class (drop from text)) 0)) ∙ leading_ends class none (drop from text)
