-- A string's end, one byte on, and that it closes a string of the grammar.
use Rattle.std.specs.Prelude.{◌≡◌, ℕ, suc, ◌+◌, ◌<◌, ◌≤◌, Bool, true, false, cond, List, [], ◌∷◌, ◌++◌, length, take, drop, IfSome, Some, None, Option, ◌==◌, nat_lt, slice_index, refl}
use Rattle.std.proofs.Common.{sym, ap, ◌∙◌, add-zero, arith}
use Rattle.std.proofs.lemmas.List.{at_drop_more, at_drop_all}
use Rattle.std.proofs.lemmas.Bool.{cond_both, eqb-true}
use Rattle.std.proofs.lemmas.Bool.Decides.{nat_tests}
use Rattle.tokens.specs.Grammar.{escape, quote, Chars, no_char, unescaped_char, escaped_char}
use Rattle.tokens.specs.Json.{control, string_from}

pub string_more : (escaped : Bool) (place : ℕ) (bs : List ℕ) (i : ℕ) → i < length bs
    → string_from escaped place (drop i bs)
    ≡ cond escaped (string_from false (place + 1) (drop (i + 1) bs)) (cond (slice_index bs i == 34) (Some (place + 1))
    (cond (nat_lt (slice_index bs i) 32) None (string_from (slice_index bs i == 92) (place + 1) (drop (i + 1) bs))))
string_more escaped place bs i h = at_drop_more (string_from escaped place) bs i 0 h

pub string_all : (escaped : Bool) (place : ℕ) (bs : List ℕ) (i : ℕ) → length bs ≤ i → string_from escaped place (drop i bs) ≡ None
string_all escaped place bs i h = at_drop_all (string_from escaped place) bs i h

-- the characters up to the closing quote; the first byte may be escaped
abbrev Body : Bool → List ℕ → Type 0
Body true [] = ⊥
Body true (b ∷ bs) = Chars bs
Body false bs = Chars bs

-- a string that begins before these bytes ends right after a quote among them, and what stands before that quote is characters
abbrev pub Closes : Bool → ℕ → List ℕ → ℕ → Type 0
Closes escaped i bs end = (k : ℕ) × (end ≡ i + k + 1) × (k < length bs) × (slice_index bs k ≡ 34) × Body escaped (take k bs)

-- one byte before
later : (was is : Bool) (i b : ℕ) (bs : List ℕ) → ((cs : List ℕ) → Body is cs → Body was (b ∷ cs)) → (o : Option ℕ) → IfSome o (Closes is (i + 1) bs) → IfSome o (Closes was i (b ∷ bs))
later was is i b bs on None h = tt
later was is i b bs on (Some end) h = (suc h.0, omega (arith, h.1), omega (arith, h.2), h.3, on (take h.0 bs) h.4)

taken : (b : ℕ) (v : Bool) → escape b ≡ v → quote b ≡ false → control b ≡ false → (cs : List ℕ) → Body v cs → Chars (b ∷ cs)
taken b true e q c [] h = absurd h
taken b true e q c (x ∷ cs) h = escaped_char e h
taken b false e q c cs h = unescaped_char (grind (arith, nat_tests)) h

pub string_closes : (escaped : Bool) (i : ℕ) (bs : List ℕ) → IfSome (string_from escaped i bs) (Closes escaped i bs)
string_closes escaped i [] = tt
string_closes true i (b ∷ bs) = later true false i b bs (λ cs h. h) (string_from false (i + 1) bs) (string_closes false (i + 1) bs)
string_closes false i (b ∷ bs) =
    cond_both (b == 34) _ _ (λ o. IfSome o (Closes false i (b ∷ bs)))
    (λ e. (0, omega arith, omega arith, eqb-true b 34 e, no_char))
    (λ q. cond_both (nat_lt b 32) _ _ (λ o. IfSome o (Closes false i (b ∷ bs)))
    (λ _. tt)
    (λ c. later false (b == 92) i b bs (taken b (b == 92) refl q c) (string_from (b == 92) (i + 1) bs) (string_closes (b == 92) (i + 1) bs)))

-- where characters and a quote stand, the string ends after the quote
pub string_over : (i : ℕ) {cs : List ℕ} (t : List ℕ) → Chars cs → string_from false i (cs ++ (34 ∷ t)) ≡ Some (i + length cs + 1)
string_over i t no_char = ap (λ n. Some (n + 1)) (sym (add-zero i))
string_over i t (unescaped_char {b} {bs} u h) =
    let q : quote b ≡ false = grind (arith, nat_tests) in
    let c : control b ≡ false = grind (arith, nat_tests) in
    let e : escape b ≡ false = grind (arith, nat_tests) in
    let n : i + 1 + length bs ≡ i + length (b ∷ bs) = omega arith in
    ap (λ v. cond v (Some (i + 1)) (cond (control b) None (string_from (escape b) (i + 1) (bs ++ (34 ∷ t))))) q
    ∙ ap (λ v. cond v None (string_from (escape b) (i + 1) (bs ++ (34 ∷ t)))) c
    ∙ ap (λ v. string_from v (i + 1) (bs ++ (34 ∷ t))) e
    ∙ string_over (i + 1) t h ∙ ap (λ n. Some (n + 1)) n
string_over i t (escaped_char {b} {c} {bs} u h) =
    let q : quote b ≡ false = grind (arith, nat_tests) in
    let l : control b ≡ false = grind (arith, nat_tests) in
    let n : i + 1 + 1 + length bs ≡ i + length (b ∷ (c ∷ bs)) = omega arith in
    ap (λ v. cond v (Some (i + 1)) (cond (control b) None (string_from (escape b) (i + 1) (c ∷ (bs ++ (34 ∷ t)))))) q
    ∙ ap (λ v. cond v None (string_from (escape b) (i + 1) (c ∷ (bs ++ (34 ∷ t))))) l
    ∙ ap (λ v. string_from v (i + 1) (c ∷ (bs ++ (34 ∷ t)))) u
    ∙ string_over (i + 1 + 1) t h ∙ ap (λ n. Some (n + 1)) n
