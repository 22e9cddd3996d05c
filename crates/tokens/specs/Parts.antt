-- Bytes and parts of a text, and rules that hold of parts.
use Rattle.std.specs.Prelude.{◌≡◌, ℕ, ◌+◌, ◌-◌, ◌<◌, ◌≤◌, min, Bool, true, List, [], ◌∷◌, ◌++◌, length, take, drop, slice_index, refl}
use Rattle.std.proofs.Common.{inl, inr, sym, ap, ◌∙◌, add-zero, arith}
use Rattle.std.proofs.lemmas.List.{drop_at, drop-drop, drop_more, drop-take, get_or-drop, get_or_past, length-drop, length-take, nil_from_length, take_all, take-append-drop, take-take}
use Rattle.std.proofs.lemmas.Bool.{cases_lt}
use Rattle.tokens.specs.Rules.{between, byte_at, Rule, one, ◌then◌}

-- a byte that is not 0 stands in the text
pub byte_inside : (text : List ℕ) (place : ℕ) → 0 < byte_at text place → place < length text
byte_inside text place h = elim (cases_lt place (length text)) [ inl l ↦ l | inr past ↦ absurd (omega (arith, get_or_past text place 0 past)) ]

pub between_capped : (text : List ℕ) (from end : ℕ) → between text from (min end (length text)) ≡ between text from end
between_capped text from end =
    elim (cases_lt (length text) end) [
      | inl past ↦ take_all (min end (length text) - from) (drop from text) (omega (arith, length-drop from text))
          ∙ sym (take_all (end - from) (drop from text) (omega (arith, length-drop from text)))
      | inr fits ↦ let e : min end (length text) ≡ end = omega arith in ap (between text from) e
    ]

pub between_none : (text : List ℕ) (from end : ℕ) → min end (length text) ≤ from → between text from end ≡ []
between_none text from end h =
    nil_from_length (between text from end) (omega (arith, length-take (end - from) (drop from text), length-drop from text))

pub between_empty : (text : List ℕ) (place : ℕ) → between text place place ≡ []
between_empty text place =
    let e : place - place ≡ 0 = omega arith in
    ap (λ n. take n (drop place text)) e

pub between_one : (text : List ℕ) (place : ℕ) → place < length text → between text place (place + 1) ≡ byte_at text place ∷ []
between_one text place h =
    let e : place + 1 - place ≡ 1 = omega arith in
    ap (λ n. take n (drop place text)) e ∙ ap (take 1) (drop_more text place 0 h)

between_join : (text : List ℕ) (a b c : ℕ) → a ≤ b → b ≤ c → between text a c ≡ between text a b ++ between text b c
between_join text a b c ab bc =
    let n : c - a ≡ b - a + (c - b) = omega arith in
    let m : a + (b - a) ≡ b = omega arith in
    sym (take-append-drop (b - a) (between text a c))
    ∙ ap (λ z. z ++ drop (b - a) (between text a c)) (take-take (b - a) (c - a) (drop a text) (omega arith))
    ∙ ap (λ z. between text a b ++ z)
    (ap (λ k. drop (b - a) (take k (drop a text))) n ∙ drop-take (b - a) (c - b) (drop a text)
    ∙ ap (take (c - b)) (drop-drop (b - a) a text ∙ ap (λ k. drop k text) m))

pub between_length : (text : List ℕ) (from end : ℕ) → end ≤ length text → length (between text from end) ≡ end - from
between_length text from end inside = omega (arith, length-take (end - from) (drop from text), length-drop from text)

-- what stands at a place: the bytes between it and another, and what follows them
pub front : (text : List ℕ) (from end : ℕ) (bs : List ℕ) → between text from end ≡ bs → drop from text ≡ bs ++ drop (end - from) (drop from text)
front text from end bs e = sym (take-append-drop (end - from) (drop from text)) ∙ ap (λ z. z ++ drop (end - from) (drop from text)) e

pub first : (text : List ℕ) (p : ℕ) (t : List ℕ) → drop p text ≡ t → byte_at text p ≡ slice_index t 0
first text p t h = ap (byte_at text) (sym (add-zero p)) ∙ sym (get_or-drop p text 0 0) ∙ ap (λ z. slice_index z 0) h

pub over : (text : List ℕ) (p : ℕ) (xs t : List ℕ) → drop p text ≡ xs ++ t → drop (p + length xs) text ≡ t
over text p xs t h = sym (drop-drop (length xs) p text) ∙ ap (drop (length xs)) h ∙ drop_at xs t (length xs) refl

pub one_at : (p : ℕ → Bool) (text : List ℕ) (place : ℕ) → 0 < byte_at text place → p (byte_at text place) ≡ true → one p (between text place (place + 1))
one_at p text place h e = (byte_at text place, between_one text place (byte_inside text place h), e)

pub then_at : (P Q : Rule) (text : List ℕ) (a b c : ℕ) → a ≤ b → b ≤ c → P (between text a b) → Q (between text b c) → (P then Q) (between text a c)
then_at P Q text a b c ab bc p q = (between text a b, between text b c, between_join text a b c ab bc, p, q)
