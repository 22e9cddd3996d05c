-- A list of bytes is UTF-8 as the library has it, the encodings of some scalar values, exactly if it is so by RFC 3629's syntax.
use Rattle.std.proofs.Common.{◌≡◌, ℕ, ◌+◌, ◌-◌, ◌*◌, ◌/◌, ◌%◌, ◌<◌, ◌≤◌, true, ltb, ◌⊎◌, List, [], ◌∷◌, IsUtf8, sym, ◌∙◌, subst, inl, inr, ⊎_elim, arith}
use lib.Utf8.{scalar, scalars, encode, encodes, low_scalar, scalar_cases}
use Rattle.std.specs.Int.{IsInRange}
use Rattle.std.proofs.lemmas.Bool.{and_from, and_parts, cases_lt, cond-false, cond-true, le-leb, le-ltb, lt-ltb}
use Rattle.std.proofs.lemmas.Str.{encode_ascii, IsUtf8-append, IsUtf8-encode, IsUtf8-nil}
use Rattle.source.specs.Rfc3629.{Utf8Tail, row_00_7f, row_c2_df, Utf8-3, row_e0, row_e1_ec, row_ed, row_ee_ef, Utf8-4, row_f0, row_f1_f3, row_f4, Utf8Char, utf8_1, utf8_2, utf8_3, utf8_4, Utf8Octets, no_char, one_more}

-- the encodings of two, three and four bytes
two : (c : ℕ) → 128 ≤ c → c < 2048 → encode c ≡ (192 + c / 64) ∷ (128 + c % 64) ∷ []
unfolding encode
two c lo hi = cond-false (ltb c 128) _ _ (le-ltb c 128 lo) ∙ cond-true (ltb c 2048) _ _ (lt-ltb c 2048 hi)

three : (c : ℕ) → 2048 ≤ c → c < 65536 → encode c ≡ (224 + c / 4096) ∷ (128 + c / 64 % 64) ∷ (128 + c % 64) ∷ []
unfolding encode
three c lo hi = cond-false (ltb c 128) _ _ (le-ltb c 128 (omega arith)) ∙ cond-false (ltb c 2048) _ _ (le-ltb c 2048 lo) ∙ cond-true (ltb c 65536) _ _ (lt-ltb c 65536 hi)

four : (c : ℕ) → 65536 ≤ c → encode c ≡ (240 + c / 262144) ∷ (128 + c / 4096 % 64) ∷ (128 + c / 64 % 64) ∷ (128 + c % 64) ∷ []
unfolding encode
four c lo = cond-false (ltb c 128) _ _ (le-ltb c 128 (omega arith)) ∙ cond-false (ltb c 2048) _ _ (le-ltb c 2048 (omega arith)) ∙ cond-false (ltb c 65536) _ _ (le-ltb c 65536 lo)

-- from the syntax to the encodings: the code point that the bytes of a row spell
high_scalar : (c : ℕ) → 57344 ≤ c → c < 1114112 → scalar c ≡ true
high_scalar c lo hi = cond-false (ltb c 55296) _ _ (le-ltb c 55296 (omega arith)) ∙ and_from _ _ (le-leb 57344 c lo) (lt-ltb c 1114112 hi)

spelt : (c : ℕ) (bs : List ℕ) → scalar c ≡ true → encode c ≡ bs → IsUtf8 bs
spelt c bs s e = subst IsUtf8 e (IsUtf8-encode c s)

from_1 : (a : ℕ) → IsInRange 0x00 0x7F a → IsUtf8 (a ∷ [])
from_1 a h = spelt a _ (low_scalar a (omega arith)) (encode_ascii a (omega arith))

from_2 : (a b : ℕ) → IsInRange 0xC2 0xDF a → Utf8Tail b → IsUtf8 (a ∷ b ∷ [])
from_2 a b h t =
    let c = (a - 192) * 64 + (b - 128) in
    let p : 192 + c / 64 ≡ a = omega arith in
    let q : 128 + c % 64 ≡ b = omega arith in
    spelt c _ (low_scalar c (omega arith)) (two c (omega arith) (omega arith) ∙ (λ k. p k ∷ q k ∷ []))

from_3 : (a b d : ℕ) → IsInRange 0xE0 0xEF a → Utf8Tail b → Utf8Tail d → let c = (a - 224) * 4096 + ((b - 128) * 64 + (d - 128)) in 2048 ≤ c → (c < 55296) ⊎ (57344 ≤ c) → IsUtf8 (a ∷ b ∷ d ∷ [])
from_3 a b d h t u lo s =
    let c = (a - 224) * 4096 + ((b - 128) * 64 + (d - 128)) in
    let p : 224 + c / 4096 ≡ a = omega arith in
    let q : 128 + c / 64 % 64 ≡ b = omega arith in
    let r : 128 + c % 64 ≡ d = omega arith in
    spelt c _ (⊎_elim (low_scalar c) (λ l. high_scalar c l (omega arith)) s) (three c lo (omega arith) ∙ (λ k. p k ∷ q k ∷ r k ∷ []))

from_4 : (a b d e : ℕ) → Utf8Tail b → Utf8Tail d → Utf8Tail e → 240 ≤ a → let high = (a - 240) * 64 + (b - 128) in 16 ≤ high → high < 272 → IsUtf8 (a ∷ b ∷ d ∷ e ∷ [])
from_4 a b d e t u v h lo hi =
    let c = (a - 240) * 262144 + ((b - 128) * 4096 + ((d - 128) * 64 + (e - 128))) in
    let p : 240 + c / 262144 ≡ a = omega arith in
    let q : 128 + c / 4096 % 64 ≡ b = omega arith in
    let m : c / 64 ≡ (a - 240) * 4096 + ((b - 128) * 64 + (d - 128)) = omega arith in
    let r : 128 + c / 64 % 64 ≡ d = rw m (omega arith) in
    let s : 128 + c % 64 ≡ e = omega arith in
    spelt c _ (high_scalar c (omega arith) (omega arith)) (four c (omega arith) ∙ (λ k. p k ∷ q k ∷ r k ∷ s k ∷ []))

char_utf8 : {char : List ℕ} → Utf8Char char → IsUtf8 char
char_utf8 (utf8_1 (row_00_7f h)) = from_1 _ h
char_utf8 (utf8_2 (row_c2_df h t)) = from_2 _ _ h t
char_utf8 (utf8_3 (row_e0 h t)) = from_3 0xE0 _ _ (omega arith, omega arith) (omega arith, omega arith) t (omega arith) (inl (omega arith))
char_utf8 (utf8_3 (row_e1_ec h t u)) = from_3 _ _ _ (omega arith, omega arith) t u (omega arith) (inl (omega arith))
char_utf8 (utf8_3 (row_ed h t)) = from_3 0xED _ _ (omega arith, omega arith) (omega arith, omega arith) t (omega arith) (inl (omega arith))
char_utf8 (utf8_3 (row_ee_ef h t u)) = from_3 _ _ _ (omega arith, omega arith) t u (omega arith) (inr (omega arith))
char_utf8 (utf8_4 (row_f0 h t u)) = from_4 0xF0 _ _ _ (omega arith, omega arith) t u (omega arith) (omega arith) (omega arith)
char_utf8 (utf8_4 (row_f1_f3 h t u v)) = from_4 _ _ _ _ t u v (omega arith) (omega arith) (omega arith)
char_utf8 (utf8_4 (row_f4 h t u)) = from_4 0xF4 _ _ _ (omega arith, omega arith) t u (omega arith) (omega arith) (omega arith)

pub utf8_from_octets : {bs : List ℕ} → Utf8Octets bs → IsUtf8 bs
utf8_from_octets no_char = IsUtf8-nil
utf8_from_octets (one_more c r) = IsUtf8-append _ _ (char_utf8 c) (utf8_from_octets r)

-- from the encodings to the syntax: the row of a code point
to_3 : (c : ℕ) → 2048 ≤ c → c < 65536 → (c < 55296) ⊎ (57344 ≤ c) → Utf8-3 (encode c)
to_3 c lo hi s = subst Utf8-3 (sym (three c lo hi)) (by (cases_lt c 4096) (cases_lt c 53248) s)
  where
    tail : Utf8Tail (128 + c % 64)
    tail = (omega arith, omega arith)

    by : (c < 4096) ⊎ (4096 ≤ c) → (c < 53248) ⊎ (53248 ≤ c) → (c < 55296) ⊎ (57344 ≤ c) → Utf8-3 ((224 + c / 4096) ∷ (128 + c / 64 % 64) ∷ (128 + c % 64) ∷ [])
    by (inl x) y z = let a : 224 + c / 4096 ≡ 0xE0 = omega arith in rw a (row_e0 {b = 128 + c / 64 % 64} (omega arith, omega arith) tail)
    by (inr x) (inl y) z = row_e1_ec (omega arith, omega arith) (omega arith, omega arith) tail
    by (inr x) (inr y) (inl z) = let a : 224 + c / 4096 ≡ 0xED = omega arith in rw a (row_ed {b = 128 + c / 64 % 64} (omega arith, omega arith) tail)
    by (inr x) (inr y) (inr z) = row_ee_ef (omega arith, omega arith) (omega arith, omega arith) tail

to_4 : (c : ℕ) → 65536 ≤ c → c < 1114112 → Utf8-4 (encode c)
to_4 c lo hi = subst Utf8-4 (sym (four c lo)) (by (cases_lt c 262144) (cases_lt c 1048576))
  where
    third : Utf8Tail (128 + c / 64 % 64)
    third = (omega arith, omega arith)

    fourth : Utf8Tail (128 + c % 64)
    fourth = (omega arith, omega arith)

    by : (c < 262144) ⊎ (262144 ≤ c) → (c < 1048576) ⊎ (1048576 ≤ c) → Utf8-4 ((240 + c / 262144) ∷ (128 + c / 4096 % 64) ∷ (128 + c / 64 % 64) ∷ (128 + c % 64) ∷ [])
    by (inl x) y = let a : 240 + c / 262144 ≡ 0xF0 = omega arith in rw a (row_f0 {b = 128 + c / 4096 % 64} (omega arith, omega arith) third fourth)
    by (inr x) (inl y) = row_f1_f3 (omega arith, omega arith) (omega arith, omega arith) third fourth
    by (inr x) (inr y) = let a : 240 + c / 262144 ≡ 0xF4 = omega arith in rw a (row_f4 {b = 128 + c / 4096 % 64} (omega arith, omega arith) third fourth)

encode_char : (c : ℕ) → (c < 55296) ⊎ ((57344 ≤ c) × (c < 1114112)) → Utf8Char (encode c)
encode_char c s = by (cases_lt c 128) (cases_lt c 2048) (cases_lt c 65536)
  where
    by : (c < 128) ⊎ (128 ≤ c) → (c < 2048) ⊎ (2048 ≤ c) → (c < 65536) ⊎ (65536 ≤ c) → Utf8Char (encode c)
    by (inl x) y z = subst Utf8Char (sym (encode_ascii c x)) (utf8_1 (row_00_7f (omega arith, omega arith)))
    by (inr x) (inl y) z = subst Utf8Char (sym (two c x y)) (utf8_2 (row_c2_df (omega arith, omega arith) (omega arith, omega arith)))
    by (inr x) (inr y) (inl z) = utf8_3 (to_3 c y z (⊎_elim inl (λ h. inr h.0) s))
    by (inr x) (inr y) (inr z) = utf8_4 (to_4 c z (⊎_elim (λ h. omega arith) (λ h. h.1) s))

encodes_octets : (cs : List ℕ) → scalars cs ≡ true → Utf8Octets (encodes cs)
encodes_octets [] s = no_char
encodes_octets (c ∷ cs) s =
    let both = and_parts (scalar c) (scalars cs) s in
    one_more (encode_char c (scalar_cases c both.0)) (encodes_octets cs both.1)

pub octets_from_utf8 : (bs : List ℕ) → IsUtf8 bs → Utf8Octets bs
octets_from_utf8 bs u = subst Utf8Octets u.1.1 (encodes_octets u.0 u.1.0)
