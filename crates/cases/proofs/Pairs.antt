-- Pairs of digits taken from the front one by one.
use Rattle.std.proofs.Common.{◌≡◌, ℕ, zero, suc, ◌+◌, ◌-◌, ◌*◌, ◌<◌, ◌≤◌, List, [], ◌∷◌, ◌++◌, length, get_or, drop, Some, None, Option, sym, refl, ap, ◌∙◌, append_assoc, arith}
use Rattle.std.specs.Option.{option_map}
use Rattle.std.specs.Simd.{first_chunks}
use Rattle.std.proofs.lemmas.List.{at_drop_more, at_drop_all, append-nil}
use Rattle.cases.specs.Hex.{hex_byte, hex_bytes, some_bytes, before}

before_none : (o : Option ℕ) → before o None ≡ None
before_none (Some b) = refl
before_none None = refl

-- an odd number of digits spells nothing
pub odd_none : (xs : List ℕ) (k : ℕ) → length xs ≡ 2 * k + 1 → hex_bytes xs ≡ None
odd_none [] k e = absurd (omega arith)
odd_none (x ∷ []) k e = refl
odd_none (x ∷ y ∷ xs) k e = ap (before (hex_byte x y)) (odd_none xs (k - 1) (omega arith)) ∙ before_none (hex_byte x y)

-- with a digit there, the pairs are what counts
pub some_pairs : (xs : List ℕ) → (length xs ≡ 0 → ⊥) → some_bytes xs ≡ hex_bytes xs
some_pairs [] h = absurd (h refl)
some_pairs (x ∷ xs) h = refl

-- the bytes of pairs
abbrev pub pair_bytes : List (List ℕ) → Option (List ℕ)
pair_bytes [] = Some []
pair_bytes (p ∷ ps) = before (hex_byte (get_or p 0 0) (get_or p 1 0)) (pair_bytes ps)

-- an even number of digits is so many pairs
pub even_pairs : (k : ℕ) (xs : List ℕ) → length xs ≡ 2 * k → hex_bytes xs ≡ pair_bytes (first_chunks 2 k xs)
even_pairs zero [] e = refl
even_pairs zero (x ∷ xs) e = absurd (omega arith)
even_pairs (suc k) [] e = absurd (omega arith)
even_pairs (suc k) (x ∷ []) e = absurd (omega arith)
even_pairs (suc k) (x ∷ y ∷ xs) e = ap (before (hex_byte x y)) (even_pairs k xs (omega arith))

-- bytes added to the end of a text
abbrev pub after : List ℕ → Option (List ℕ) → Option (List ℕ)
after text o = option_map (λ bs. text ++ bs) o

pub none_after : (text : List ℕ) (o : Option (List ℕ)) → after text o ≡ None → o ≡ None
none_after text (Some bs) e = cc
none_after text None e = refl

-- the byte of the first pair goes to the end of what was there
byte_added : (text : List ℕ) (b : ℕ) (o : Option (List ℕ)) → after text (before (Some b) o) ≡ after (text ++ (b ∷ [])) o
byte_added text b (Some bs) = ap (λ ys. Some ys) (sym (append_assoc text (b ∷ []) bs))
byte_added text b None = refl

module _ (ps : List (List ℕ)) (i : ℕ) (lt : i < length ps) (text : List ℕ) where
  pub stops : hex_byte (get_or (get_or ps i []) 0 0) (get_or (get_or ps i []) 1 0) ≡ None → after text (pair_bytes (drop i ps)) ≡ None
  stops e = ap (after text) (at_drop_more pair_bytes ps i [] lt ∙ ap (λ o. before o (pair_bytes (drop (i + 1) ps))) e)

  pub goes_on : (b : ℕ) → hex_byte (get_or (get_or ps i []) 0 0) (get_or (get_or ps i []) 1 0) ≡ Some b → after text (pair_bytes (drop i ps)) ≡ after (text ++ (b ∷ [])) (pair_bytes (drop (i + 1) ps))
  goes_on b e =
      ap (after text) (at_drop_more pair_bytes ps i [] lt ∙ ap (λ o. before o (pair_bytes (drop (i + 1) ps))) e)
      ∙ byte_added text b (pair_bytes (drop (i + 1) ps))

pub ends : (ps : List (List ℕ)) (i : ℕ) → length ps ≤ i → (text : List ℕ) → after text (pair_bytes (drop i ps)) ≡ Some text
ends ps i le text = ap (after text) (at_drop_all pair_bytes ps i le) ∙ ap (λ ys. Some ys) (append-nil text)
