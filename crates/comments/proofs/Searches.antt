-- A word at the front of the bytes, and the search for a license word.
use Rattle.std.proofs.Common.{◌≡◌, ℕ, ◌+◌, Bool, true, false, eqb, ◌&&◌, ◌||◌, List, [], ◌∷◌, ◌++◌, length, take, drop, drop-drop, codes, Some, None, Option, Bor, MatchOption, sym, refl, ap, ◌∙◌, arith}
use Rattle.std.specs.Cmp.Lexicographic.{pointwise}
use Rattle.std.specs.List.{list_any, enumerate_from}
use Rattle.std.proofs.lemmas.Slice.Eq.{starts_is, strip_prefix_is}
use Rattle.std.proofs.lemmas.Bool.Decides.{Decides-eqb, nat_tests}
use Rattle.comments.specs.Classing.{begins, holds, license_ahead, licensed, after}

pub begins_front : (word bytes : List ℕ) → begins word bytes ≡ true → bytes ≡ word ++ drop (length word) bytes
begins_front word bytes h = (starts_is Decides-eqb bytes word (begins word bytes) refl).0 h

pub front_begins : (word rest : List ℕ) → begins word (word ++ rest) ≡ true
front_begins word rest = (starts_is Decides-eqb (word ++ rest) word (begins word (word ++ rest)) refl).1 rest refl

-- a word that `strip_prefix` takes off, and then a test of what it leaves
pub begins_then : (word bytes : List ℕ) (q : List ℕ → Bool) (r : Option (Bor (List ℕ))) (t : Bool) {P : Bor (List ℕ) → Type 0} → MatchOption r (pointwise eqb (take (length word) bytes) word ≡ false) (λ x. (pointwise eqb (take (length word) bytes) word ≡ true) × (x.now ≡ after word bytes) × (length x.now + length word ≡ length bytes)) → MatchOption r (t ≡ false) P → ((x : Bor (List ℕ)) → P x → t ≡ q x.now) → t ≡ (begins word bytes && q (after word bytes))
begins_then word bytes q None t h f each = f ∙ by_test (begins word bytes) refl
  where
    by_test : (b : Bool) → begins word bytes ≡ b → false ≡ (b && q (after word bytes))
    by_test true e = absurd (strip_prefix_is Decides-eqb bytes word None h (after word bytes) (begins_front word bytes e))
    by_test false e = refl
begins_then word bytes q (Some x) t h f each =
    let here : begins word bytes ≡ true = ap (begins word) (strip_prefix_is Decides-eqb bytes word (Some x) h) ∙ front_begins word x.now in
    each x f ∙ ap q h.1 ∙ rw here refl

-- either word here or later is a word here or later
turned : (a x b y : Bool) → ((a || b) || (x || y)) ≡ ((a || x) || (b || y))
turned true x b y = refl
turned false true true y = refl
turned false true false y = refl
turned false false b y = refl

licensed_from : (b : ℕ) (bytes : List ℕ) → (license_ahead (b ∷ bytes) || licensed bytes) ≡ licensed (b ∷ bytes)
licensed_from b bytes =
    turned (begins (codes "@license") (b ∷ bytes)) (holds (codes "@license") bytes) (begins (codes "@preserve") (b ∷ bytes)) (holds (codes "@preserve") bytes)

-- what each license word begins with
abbrev pub at_sign : ℕ → Bool
at_sign b = eqb b 64

sign_ahead : (b : ℕ) (bytes : List ℕ) → (at_sign b && license_ahead (b ∷ bytes)) ≡ license_ahead (b ∷ bytes)
sign_ahead b bytes = by_test (eqb b 64) refl
  where
    by_test : (t : Bool) → eqb b 64 ≡ t → (t && license_ahead (b ∷ bytes)) ≡ license_ahead (b ∷ bytes)
    by_test true h = refl
    by_test false h = let other : eqb 64 b ≡ false = grind (arith, nat_tests, h) in rw other refl

-- the search for a license word at each sign
pub searched : (xs ys : List ℕ) (i : ℕ) → drop i xs ≡ ys → list_any (λ (p : ℕ × ℕ). at_sign p.1 && license_ahead (drop p.0 xs)) (enumerate_from i ys) ≡ licensed ys
searched xs [] i e = refl
searched xs (y ∷ ys) i e =
    let next : drop (i + 1) xs ≡ ys = sym (drop-drop 1 i xs) ∙ ap (drop 1) e in
    rw e (rw (sign_ahead y ys) (ap (λ (t : Bool). license_ahead (y ∷ ys) || t) (searched xs ys (i + 1) next) ∙ licensed_from y ys))
