-- Trimming a text trims its code points, and what is left is all that can be.
use Rattle.std.proofs.Common.{◌≡◌, ℕ, ◌<◌, ◌≤◌, true, List, [], ◌∷◌, ◌++◌, reverse, length, take, drop, IsUtf8, sym, refl, ap, ◌∙◌, subst, ⊎_elim, arith}
use mathlib.Core.List.{reverse_aux}
use lib.Utf8.{encode, encodes}
use Rattle.std.specs.Char.{is_whitespace, is_not_whitespace}
use Rattle.std.specs.Str.{NonePass, EmptyOrStartsWithPassing, EmptyOrEndsWithPassing, chars}
use Rattle.std.specs.List.{AllByRecursion}
use Rattle.std.proofs.ByRecursion.{All-append}
use Rattle.std.proofs.lemmas.List.{append-nil, reverse-append, reverse-reverse, take-append-drop, take_at, nil_from_length}
use Rattle.std.proofs.lemmas.Str.Pattern.{IsTrimResult}
use Rattle.std.proofs.lemmas.Bool.{cases_lt, not-true, not-false, both_ways}
use Rattle.std.proofs.lemmas.Str.{encodes-append, encodes-chars, chars-nil, chars_from_encodes, chars-append, chars_past_char, IsUtf8-encode, IsUtf8-take, IsCharBoundary-at_seam}
use Rattle.comments.specs.Classing.{past, dark_middle, trimmed}
use Rattle.comments.specs.Rules.{First, Last, Middle, WhiteSpace, TrimmedOf}
use Rattle.comments.proofs.Conditions.{decides_white, first_none, past_is, past_only}

all_turned : (P : ℕ → Type 0) (xs ys : List ℕ) → AllByRecursion P xs → AllByRecursion P ys → AllByRecursion P (reverse_aux xs ys)
all_turned P [] ys a b = b
all_turned P (x ∷ xs) ys a b = all_turned P xs (x ∷ ys) a.1 (a.0, b)

first_turned : (P : ℕ → Type 0) (xs : List ℕ) → First P (reverse xs) → Last P xs
first_turned P xs f =
    (reverse f.1, f.0, sym (reverse-reverse xs) ∙ ap (λ (ys : List ℕ). reverse ys) f.2 ∙ reverse-append (f.0 ∷ []) f.1, f.3)

last_turned : (P : ℕ → Type 0) (xs : List ℕ) → Last P xs → First P (reverse xs)
last_turned P xs l = (l.1, reverse l.0, ap (λ (ys : List ℕ). reverse ys) l.2 ∙ reverse-append l.0 (l.1 ∷ []), l.3)

first_left : (P : ℕ → Type 0) (xs ys : List ℕ) → First P xs → First P (xs ++ ys)
first_left P xs ys f = (f.0, f.1 ++ ys, ap (λ (zs : List ℕ). zs ++ ys) f.2, f.3)

-- the code points without the White_Space at both ends
middle_is : (xs : List ℕ) → Middle WhiteSpace xs (dark_middle xs)
middle_is xs =
    let ys = past is_whitespace xs in
    let a = past_is is_whitespace WhiteSpace decides_white xs in
    let b = past_is is_whitespace WhiteSpace decides_white (reverse ys) in
    let kept = reverse (past is_whitespace (reverse ys)) in
    let back = reverse b.0 in
    let parts : ys ≡ kept ++ back = sym (reverse-reverse ys) ∙ ap (λ (zs : List ℕ). reverse zs) b.1 ∙ reverse-append b.0 (past is_whitespace (reverse ys)) in (
      a.0,
      back,
      a.1 ∙ ap (λ (zs : List ℕ). a.0 ++ zs) parts,
      a.2,
      all_turned WhiteSpace b.0 [] b.2 tt,
      λ f. a.3 (subst (First WhiteSpace) (sym parts) (first_left WhiteSpace kept back f)),
      λ l. b.3 (subst (First WhiteSpace) (reverse-reverse (past is_whitespace (reverse ys))) (last_turned WhiteSpace kept l)),
    )

middle_only : (xs middle : List ℕ) → Middle WhiteSpace xs middle → middle ≡ dark_middle xs
middle_only xs [] h =
    let none : [] ≡ past is_whitespace xs =
    past_only is_whitespace WhiteSpace decides_white xs [] (h.0 ++ h.1, h.2 ∙ sym (append-nil (h.0 ++ h.1)), All-append WhiteSpace h.0 h.1 h.3 h.4, first_none WhiteSpace [] refl) in
    ap (λ (ys : List ℕ). reverse (past is_whitespace (reverse ys))) none
middle_only xs (c ∷ cs) h =
    let middle = c ∷ cs in
    let back = h.1 in
    let front-off : middle ++ back ≡ past is_whitespace xs =
    past_only is_whitespace WhiteSpace decides_white xs (middle ++ back) (h.0, h.2, h.3, λ f. h.5 (c, cs, refl, subst WhiteSpace (cc) f.3)) in
    let back-off : reverse middle ≡ past is_whitespace (reverse (middle ++ back)) =
    past_only is_whitespace WhiteSpace decides_white (reverse (middle ++ back)) (reverse middle)
    (reverse back, reverse-append middle back, all_turned WhiteSpace back [] h.4 tt, λ f. h.6 (first_turned WhiteSpace middle f)) in
    sym (reverse-reverse middle) ∙ ap (λ (ys : List ℕ). reverse ys) back-off ∙ ap (λ (ys : List ℕ). reverse (past is_whitespace (reverse ys))) front-off

-- the trimmed text is what is left of the content, and nothing else is
pub trimmed_is : (content : List ℕ) → IsUtf8 content → TrimmedOf content (trimmed content)
unfolding trimmed
trimmed_is content u = (chars content, dark_middle (chars content), sym (encodes-chars content u), refl, middle_is (chars content))

pub trimmed_only : (content word : List ℕ) → IsUtf8 content → TrimmedOf content word → word ≡ trimmed content
unfolding trimmed
trimmed_only content word u h =
    h.3 ∙ ap encodes (middle_only h.0 h.1 h.4) ∙ ap (λ (points : List ℕ). encodes (dark_middle points)) (chars_from_encodes h.0 content u (sym h.2))

-- the last character of a text is the last of its code points
decodes_last : (t front : List ℕ) (d : ℕ) → IsUtf8 t → t ≡ front ++ encode d → IsUtf8 (encode d) → chars t ≡ chars front ++ (d ∷ [])
decodes_last t front d u e ud =
    let cut : take (length front) t ≡ front = ap (take (length front)) e ∙ take_at front (encode d) (length front) refl in
    let uf : IsUtf8 front = subst IsUtf8 cut (IsUtf8-take t (length front) u (IsCharBoundary-at_seam t front (encode d) e ud)) in
    let one : chars (encode d) ≡ d ∷ [] = chars_past_char (encode d) [] d ud (sym (append-nil (encode d))) ∙ ap (λ (xs : List ℕ). d ∷ xs) chars-nil in
    ap chars e ∙ chars-append front (encode d) uf ∙ ap (λ (xs : List ℕ). chars front ++ xs) one

white_all : (xs : List ℕ) → NonePass is_not_whitespace xs → AllByRecursion WhiteSpace xs
white_all [] f = tt
white_all (x ∷ xs) f = ((decides_white x).0 (not-false (is_whitespace x) f.0), white_all xs f.1)

decodes_none : (t : List ℕ) → length t ≤ 0 → chars t ≡ []
decodes_none t none = ap chars (nil_from_length t (omega arith)) ∙ chars-nil

dark_first : (xs rest : List ℕ) (c : ℕ) → xs ≡ c ∷ rest → is_not_whitespace c ≡ true → First WhiteSpace xs → ⊥
dark_first xs rest c e d f = both_ways (is_whitespace c) (not-true (is_whitespace c) d) ((decides_white c).1 (subst WhiteSpace (cc) f.3))

-- a text that is empty, or else begins and ends with a dark character, does so by its code points
no_first : (t rest : List ℕ) → IsUtf8 t → EmptyOrStartsWithPassing is_not_whitespace t rest → First WhiteSpace (chars t) → ⊥
no_first t rest u opens f =
    ⊎_elim
    (λ (some : 0 < length t).
    let o = opens some in
    dark_first (chars t) (chars rest) o.0 (chars_past_char t rest o.0 u o.2) o.1 f)
    (λ (none : length t ≤ 0). first_none WhiteSpace (chars t) (decodes_none t none) f)
    (cases_lt 0 (length t))

no_last : (t : List ℕ) → IsUtf8 t → EmptyOrEndsWithPassing is_not_whitespace t → Last WhiteSpace (chars t) → ⊥
no_last t u shuts l =
    let f = last_turned WhiteSpace (chars t) l in
    ⊎_elim
    (λ (some : 0 < length t).
    let s = shuts some in
    let shut = decodes_last t s.1 s.0 u s.3 (IsUtf8-encode s.0 s.4) in
    dark_first (reverse (chars t)) (reverse (chars s.1)) s.0 (ap (λ (xs : List ℕ). reverse xs) shut ∙ reverse-append (chars s.1) (s.0 ∷ [])) s.2 f)
    (λ (none : length t ≤ 0). first_none WhiteSpace (reverse (chars t)) (ap (λ (xs : List ℕ). reverse xs) (decodes_none t none)) f)
    (cases_lt 0 (length t))

-- what `trim` gives is the trimmed text
pub trims_trimmed : (bs t : List ℕ) → IsUtf8 bs → IsUtf8 t → IsTrimResult bs t → t ≡ trimmed bs
trims_trimmed bs t u ut h =
    let front = h.3.0 in
    let back = h.4.0 in
    let parts : bs ≡ encodes (front ++ (chars t ++ back)) =
    let e1 = encodes-append front (chars t ++ back) in
    let e2 = encodes-append (chars t) back in
    let e3 = encodes-chars t ut in
    let e4 = take-append-drop h.0 bs in
    let e5 = take-append-drop h.1 (drop h.0 bs) in
    let e6 = h.3.1 in
    let e7 = h.4.1 in
    let e8 = h.2 in
    cc in
    trimmed_only bs t u (
      front ++ (chars t ++ back),
      chars t,
      parts,
      sym (encodes-chars t ut),
      (front, back, refl, white_all front h.3.2, white_all back h.4.2, no_first t h.5.0 ut h.5.1, no_last t ut h.6),
    )
