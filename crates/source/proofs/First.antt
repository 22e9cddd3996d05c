-- The character that the rest of a text begins with.
use Rattle.std.proofs.Common.{◌≡◌, ℕ, ◌+◌, ◌<◌, ◌≤◌, Bool, cond, leb, List, ◌++◌, length, drop, Some, None, Option, sym, ap, ◌∙◌, arith, length-append, length-drop, le-leb, MatchOption}
use borrow.Author.Tests.{lt-leb}
use lib.Utf8.{encode}
use Rattle.std.specs.Char.{len_utf8}
use Rattle.std.proofs.lemmas.Str.{drop_past_char, length-encode, len_utf8_bounds}
use Rattle.source.specs.Unicode.{Spelt, char_at, first_char}
use Rattle.source.proofs.Spelt.{first_spelt}

pub first_char_is : (r : Option ℕ) (bs src rest : List ℕ) (i : ℕ) (X : Type 0) → i ≤ length bs → src ≡ drop i bs → MatchOption r ((length src ≡ 0) × X) (λ c. src ≡ encode c ++ rest) → Spelt bs i r
first_char_is None bs src rest i X le e h = omega (arith, h.0, ap length e ∙ length-drop i bs)
first_char_is (Some c) bs src rest i X le e h =
    let k = sym e ∙ h in
    k ∙ ap (λ l. encode c ++ l) (sym (drop_past_char bs rest i c k))

here : (n i c d : ℕ) → i < n → c ≡ d → Some c ≡ cond (leb n i) None (Some d)
here n i c d lt e = ap Some e ∙ ap (λ (b : Bool). cond b None (Some d)) (sym (lt-leb n i lt))

gone : (n i d : ℕ) → i ≡ n → None ≡ cond (leb n i) None (Some d)
gone n i d e = ap (λ (b : Bool). cond b None (Some d)) (sym (le-leb n i (omega arith)))

-- what is spelt at a place is the character there
pub spelt_char : (r : Option ℕ) (bs : List ℕ) (i : ℕ) → i ≤ length bs → Spelt bs i r → r ≡ char_at bs i
spelt_char None bs i le e = gone (length bs) i (first_char (drop i bs)) e
spelt_char (Some c) bs i le e =
    let long : length (drop i bs) ≡ len_utf8 c + length (drop (i + len_utf8 c) bs) = ap length e ∙ length-append (encode c) (drop (i + len_utf8 c) bs) ∙ ap (λ (n : ℕ). n + length (drop (i + len_utf8 c) bs)) (length-encode c) in
    here (length bs) i c (first_char (drop i bs)) (omega (arith, long, (len_utf8_bounds c).0, length-drop i bs)) (sym (first_spelt c (drop (i + len_utf8 c) bs)) ∙ ap first_char (sym e))
