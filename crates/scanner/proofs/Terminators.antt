-- A line terminator stands at a place exactly where the bytes there are those of one.
use Rattle.std.proofs.Common.{◌≡◌, ℕ, ◌+◌, ◌<◌, true, eqb, ◌⊎◌, List, [], ◌∷◌, ◌++◌, get_or, drop, sym, refl, ap, ◌∙◌, subst, inl, inr, ⊎_elim, add-zero, arith, lit<, get_or-drop}
use lib.Utf8.{encode}
use Rattle.std.specs.Char.{len_utf8}
use Rattle.std.proofs.lemmas.List.{drop_more}
use Rattle.std.proofs.lemmas.Bool.{eqb-true, or_cases}
use Rattle.std.proofs.lemmas.Str.{len_utf8_bounds}
use Rattle.std.proofs.lemmas.Bool.Decides.{nat_tests}
use Rattle.source.specs.Unicode.{line_terminator}
use Rattle.scanner.specs.Ecma.{BytesAt, OneFrom, LineTerminatorAt}
use Rattle.scanner.specs.Ends.{term, terminator}
use Rattle.scanner.proofs.Lines.{get_or-within, term-drop}
use Rattle.scanner.proofs.Cuts.{split, wide, ls, ps}

-- the byte at a place is the first of what the text goes on with there
pub head_byte : (text : List ℕ) (at b : ℕ) (rest : List ℕ) → drop at text ≡ b ∷ rest → get_or text at 0 ≡ b
head_byte text at b rest e = ap (λ (k : ℕ). get_or text k 0) (sym (add-zero at)) ∙ sym (get_or-drop at text 0 0) ∙ ap (λ (l : List ℕ). get_or l 0 0) e

-- the terminator of what begins with a line terminator's bytes is as wide as that
one_of : (c : ℕ) → line_terminator c ≡ true → (c ≡ 10) ⊎ ((c ≡ 13) ⊎ ((c ≡ 8232) ⊎ (c ≡ 8233)))
one_of c e =
    ⊎_elim (λ h. inl (eqb-true c 10 h)) (λ h. ⊎_elim (λ k. inr (inl (eqb-true c 13 k))) (λ k. ⊎_elim (λ l. inr (inr (inl (eqb-true c 8232 l)))) (λ l. inr (inr (inr (eqb-true c 8233 l)))) (or_cases _ _ k)) (or_cases _ _ h)) (or_cases _ _ e)

lf : encode 10 ≡ 10 ∷ []
unfolding encode
lf = refl

cr : encode 13 ≡ 13 ∷ []
unfolding encode
cr = refl

spelt_term : (c : ℕ) (rest : List ℕ) → line_terminator c ≡ true → terminator (encode c ++ rest) ≡ len_utf8 c
spelt_term c rest e =
    ⊎_elim (λ h. let T : ℕ → Type 0 = λ d. terminator (encode d ++ rest) ≡ len_utf8 d in subst T (sym h) (ap (λ (l : List ℕ). terminator (l ++ rest)) lf))
    (⊎_elim (λ h. let T : ℕ → Type 0 = λ d. terminator (encode d ++ rest) ≡ len_utf8 d in subst T (sym h) (ap (λ (l : List ℕ). terminator (l ++ rest)) cr))
    (⊎_elim (λ h. let T : ℕ → Type 0 = λ d. terminator (encode d ++ rest) ≡ len_utf8 d in subst T (sym h) (ap (λ (l : List ℕ). terminator (l ++ rest)) ls))
    (λ h. let T : ℕ → Type 0 = λ d. terminator (encode d ++ rest) ≡ len_utf8 d in subst T (sym h) (ap (λ (l : List ℕ). terminator (l ++ rest)) ps))))
    (one_of c e)

pub term_of : (text : List ℕ) (at c : ℕ) → line_terminator c ≡ true → BytesAt (encode c) text at → terminator (drop at text) ≡ len_utf8 c
term_of text at c is stands = ap terminator stands.1 ∙ spelt_term c stands.0 is

one_byte : (text : List ℕ) (at c : ℕ) → encode c ≡ c ∷ [] → 0 < c → get_or text at 0 ≡ c → BytesAt (encode c) text at
one_byte text at c spelt some e =
    (drop (at + 1) text, drop_more text at 0 (get_or-within text at (omega arith)) ∙ ap (λ (b : ℕ). b ∷ drop (at + 1) text) e ∙ ap (λ (l : List ℕ). l ++ drop (at + 1) text) (sym spelt))

-- where the bytes are those of a line terminator, one stands
pub stands_from : (text : List ℕ) (at : ℕ) → 0 < terminator (drop at text) → OneFrom line_terminator text at (at + terminator (drop at text))
stands_from text at some =
    let wide-as : (c : ℕ) → line_terminator c ≡ true → BytesAt (encode c) text at → OneFrom line_terminator text at (at + terminator (drop at text)) = λ c is stands. (c, is, stands, ap (λ (n : ℕ). at + n) (term_of text at c is stands)) in
    ⊎_elim
    (λ e. absurd (omega (arith, some, e, term-drop text at)))
    (⊎_elim
    (λ h. ⊎_elim (λ x. wide-as 10 refl (one_byte text at 10 lf (lit< tt) (eqb-true _ _ x))) (λ x. wide-as 13 refl (one_byte text at 13 cr (lit< tt) (eqb-true _ _ x))) h.1)
    (λ h. ⊎_elim
    (λ x. wide-as 8232 refl (wide text at 8232 ls (lit< tt) (eqb-true _ _ h.1.0) (eqb-true _ _ h.1.1) (eqb-true _ _ x)))
    (λ x. wide-as 8233 refl (wide text at 8233 ps (lit< tt) (eqb-true _ _ h.1.0) (eqb-true _ _ h.1.1) (eqb-true _ _ x)))
    h.1.2))
    (split (eqb (get_or text at 0) 10) (eqb (get_or text at 0) 13) (eqb (get_or text at 0) 226) (eqb (get_or text (at + 1) 0) 128) (eqb (get_or text (at + 2) 0) 168) (eqb (get_or text (at + 2) 0) 169))

pub stands_at : (text : List ℕ) (at : ℕ) → 0 < terminator (drop at text) → LineTerminatorAt text at
stands_at text at some = let h = stands_from text at some in (h.0, h.1, h.2)

-- and nowhere else
pub some_terminator : (text : List ℕ) (at : ℕ) → LineTerminatorAt text at → 0 < terminator (drop at text)
some_terminator text at h = omega (arith, term_of text at h.0 h.1 h.2, (len_utf8_bounds h.0).0)

no_terminator : (b c d : ℕ) → (b ≡ 10 → ⊥) → (b ≡ 13 → ⊥) → (b ≡ 226 → ⊥) → 0 < term b c d → ⊥
no_terminator b c d x y z some = grind (arith, nat_tests)

-- no line terminator begins with another byte
pub no_line_terminator : (text : List ℕ) (at : ℕ) → (get_or text at 0 ≡ 10 → ⊥) → (get_or text at 0 ≡ 13 → ⊥) → (get_or text at 0 ≡ 226 → ⊥) → LineTerminatorAt text at → ⊥
no_line_terminator text at x y z h = no_terminator (get_or text at 0) (get_or text (at + 1) 0) (get_or text (at + 2) 0) x y z (omega (arith, some_terminator text at h, term-drop text at))

-- the same of a width that was computed
pub terminator_is : (text : List ℕ) (at n : ℕ) → n ≡ term (get_or text at 0) (get_or text (at + 1) 0) (get_or text (at + 2) 0) → (0 < n → OneFrom line_terminator text at (at + n)) × (LineTerminatorAt text at → 0 < n)
terminator_is text at n e =
    let same : n ≡ terminator (drop at text) = e ∙ sym (term-drop text at) in
    let Wide : ℕ → Type 0 = λ k. 0 < k → OneFrom line_terminator text at (at + k) in
    (subst Wide (sym same) (stands_from text at), λ h. omega (arith, some_terminator text at h))
