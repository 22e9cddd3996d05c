-- The code point that a text begins with.
use Rattle.std.proofs.Common.{◌≡◌, ℕ, ◌+◌, ◌-◌, ◌*◌, ◌/◌, ◌%◌, ◌<◌, ◌≤◌, Bool, true, false, cond, ltb, List, [], ◌∷◌, ◌++◌, refl, ◌∙◌, arith, ltb-false, ltb-true}
use native.Mathlib.Nat.{div-div-eq-div-mul}
use lib.Utf8.{encode}
use Rattle.std.proofs.lemmas.Bool.Decides.{nat_tests}
use Rattle.source.specs.Unicode.{char_of, first_char}

one_byte : (a b c d : ℕ) → a < 128 → char_of a b c d ≡ a
one_byte a b c d h = grind (arith, nat_tests)

two_bytes : (a b c d : ℕ) → 128 ≤ a → a < 224 → char_of a b c d ≡ (a - 192) * 64 + (b - 128)
two_bytes a b c d lo hi = grind (arith, nat_tests)

three_bytes : (a b c d : ℕ) → 224 ≤ a → a < 240 → char_of a b c d ≡ (a - 224) * 4096 + ((b - 128) * 64 + (c - 128))
three_bytes a b c d lo hi = grind (arith, nat_tests)

four_bytes : (a b c d : ℕ) → 240 ≤ a → char_of a b c d ≡ (a - 240) * 262144 + ((b - 128) * 4096 + ((c - 128) * 64 + (d - 128)))
four_bytes a b c d lo = grind (arith, nat_tests)

fourth : (c : ℕ) → (240 + c / 262144 - 240) * 262144 + ((128 + c / 4096 % 64 - 128) * 4096 + ((128 + c / 64 % 64 - 128) * 64 + (128 + c % 64 - 128))) ≡ c
fourth c =
    let a : c / 64 / 64 ≡ c / 4096 = div-div-eq-div-mul c 64 64 in
    let b : c / 4096 / 64 ≡ c / 262144 = div-div-eq-div-mul c 4096 64 in
    omega (arith, a, b)

by_width : (c : ℕ) (rest : List ℕ) (x y z : Bool) → ltb c 128 ≡ x → ltb c 2048 ≡ y → ltb c 65536 ≡ z → first_char (cond x (c ∷ []) (cond y ((192 + c / 64) ∷ (128 + c % 64) ∷ []) (cond z ((224 + c / 4096) ∷ (128 + c / 64 % 64) ∷ (128 + c % 64) ∷ []) ((240 + c / 262144) ∷ (128 + c / 4096 % 64) ∷ (128 + c / 64 % 64) ∷ (128 + c % 64) ∷ []))) ++ rest) ≡ c
by_width c rest true y z ex ey ez = one_byte c _ _ _ (omega (arith, ltb-true c 128 ex))
by_width c rest false true z ex ey ez = let lt = ltb-true c 2048 ey in let ge = ltb-false c 128 ex in two_bytes (192 + c / 64) (128 + c % 64) _ _ (omega arith) (omega arith) ∙ omega arith
by_width c rest false false true ex ey ez = let lt = ltb-true c 65536 ez in three_bytes (224 + c / 4096) (128 + c / 64 % 64) (128 + c % 64) _ (omega arith) (omega arith) ∙ omega arith
by_width c rest false false false ex ey ez = four_bytes (240 + c / 262144) (128 + c / 4096 % 64) (128 + c / 64 % 64) (128 + c % 64) (omega arith) ∙ fourth c

pub first_spelt : (c : ℕ) (rest : List ℕ) → first_char (encode c ++ rest) ≡ c
unfolding encode
first_spelt c rest = by_width c rest (ltb c 128) (ltb c 2048) (ltb c 65536) refl refl refl
