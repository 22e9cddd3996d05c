-- Each test of classing decides its condition.
use Rattle.std.proofs.Common.{◌≡◌, ℕ, ◌≤◌, Bool, true, false, cond, ◌&&◌, ◌||◌, eqb, leb, ◌⊎◌, List, [], ◌∷◌, ◌++◌, length, get_or, drop, codes, Decides, sym, refl, ap, ◌∙◌, subst, ⊎_elim, arith}
use Rattle.std.specs.Int.{IsInRange}
use Rattle.std.specs.Char.{is_whitespace}
use Rattle.std.specs.List.{AllByRecursion}
use Rattle.std.proofs.lemmas.List.{drop_at}
use Rattle.std.proofs.lemmas.Bool.{true≢false, false≢true, leb-true, le-leb, cases_Bool, cond-true, cond-false, or_cases, or_left, or_right, and_parts, and_from}
use Rattle.std.proofs.lemmas.Bool.Decides.{nat_tests, Decides-eqb, Decides-and, Decides-or, Decides-at, Decides-like, same_from_decides, not_from_Decides}
use Rattle.std.proofs.ByRecursion.{Decides-by_and}
use Rattle.comments.specs.Classing.{begins, holds, licensed, empty, stars, blank, capital, past, marked, after, capital_after, directive}
use Rattle.comments.specs.Rules.{First, Past, Begins, BeginsThen, Holds, Licensed, Blank, Capital, WhiteSpace, BlankOrEnd}
use Rattle.comments.proofs.Searches.{begins_front, front_begins}

pub decides_leb : (a b : ℕ) → Decides (leb a b) (a ≤ b)
decides_leb a b = (leb-true a b, le-leb a b)

pub decides_empty : (xs : List ℕ) → Decides (empty xs) (xs ≡ [])
decides_empty [] = (λ h. refl, λ e. refl)
decides_empty (x ∷ xs) = (λ h. absurd (false≢true h), λ e. cc)

pub decides_begins : (word bytes : List ℕ) → Decides (begins word bytes) (Begins word bytes)
decides_begins word bytes = (
  λ h. (drop (length word) bytes, begins_front word bytes h),
  λ b. ap (begins word) b.1 ∙ front_begins word b.0,
)

holds_finds : (word bytes : List ℕ) → holds word bytes ≡ true → Holds word bytes
holds_finds word [] h = ([], drop (length word) [], begins_front word [] h)
holds_finds word (b ∷ bytes) h =
    ⊎_elim
    (λ (here : begins word (b ∷ bytes) ≡ true). ([], drop (length word) (b ∷ bytes), begins_front word (b ∷ bytes) here))
    (λ (later : holds word bytes ≡ true).
    let found = holds_finds word bytes later in
    (b ∷ found.0, found.1, ap (λ (xs : List ℕ). b ∷ xs) found.2))
    (or_cases (begins word (b ∷ bytes)) (holds word bytes) h)

holds_front : (word bytes : List ℕ) → begins word bytes ≡ true → holds word bytes ≡ true
holds_front word [] h = h
holds_front word (b ∷ bytes) h = or_left (begins word (b ∷ bytes)) (holds word bytes) h

holds_between : (before word after : List ℕ) → holds word (before ++ (word ++ after)) ≡ true
holds_between [] word after = holds_front word (word ++ after) (front_begins word after)
holds_between (b ∷ before) word after =
    or_right (begins word (b ∷ (before ++ (word ++ after)))) (holds word (before ++ (word ++ after))) (holds_between before word after)

decides_holds : (word bytes : List ℕ) → Decides (holds word bytes) (Holds word bytes)
decides_holds word bytes = (holds_finds word bytes, λ h. ap (holds word) h.2 ∙ holds_between h.0 word h.1)

pub decides_licensed : (content : List ℕ) → Decides (licensed content) (Licensed content)
decides_licensed content =
    Decides-or (holds (codes "@license") content) (holds (codes "@preserve") content)
    (decides_holds (codes "@license") content) (decides_holds (codes "@preserve") content)

pub decides_stars : (bytes : List ℕ) → Decides (stars bytes) (AllByRecursion (λ b. b ≡ 0x2A) bytes)
decides_stars bytes = Decides-by_and (λ b. eqb b 42) (λ b. b ≡ 42) stars (λ b. Decides-eqb b 42) refl (λ _ _. refl) bytes

decides_in : (low high c : ℕ) → Decides (leb low c && leb c high) (IsInRange low high c)
decides_in low high c = Decides-and (leb low c) (leb c high) (decides_leb low c) (decides_leb c high)

pub decides_blank : (b : ℕ) → Decides (blank b) (Blank b)
decides_blank b =
    Decides-or _ _ (Decides-eqb b 32) (Decides-or _ _ (Decides-eqb b 9) (Decides-or _ _ (Decides-eqb b 10) (Decides-or _ _ (Decides-eqb b 12) (Decides-eqb b 13))))

pub decides_capital : (b : ℕ) → Decides (capital b) (Capital b)
decides_capital b = decides_in 65 90 b

-- the library's test for White_Space
pub decides_white : (c : ℕ) → Decides (is_whitespace c) (WhiteSpace c)
decides_white c = (λ h. grind (arith, nat_tests), λ h. grind (arith, nat_tests))

-- a test of the first byte, which 0 past the end fails
pub decides_first : (p : ℕ → Bool) (P : ℕ → Type 0) → ((x : ℕ) → Decides (p x) (P x)) → p 0 ≡ false → (xs : List ℕ) → Decides (p (get_or xs 0 0)) (First P xs)
decides_first p P each none [] = (λ h. absurd (true≢false (sym h ∙ none)), λ f. cc)
decides_first p P each none (x ∷ xs) = (λ h. (x, xs, refl, (each x).0 h), λ f. (each x).1 (subst P (cc) f.3))

-- a word, and then a test of what follows it
decides_then : (word bytes : List ℕ) (q : List ℕ → Bool) (Q : List ℕ → Type 0) → ((rest : List ℕ) → Decides (q rest) (Q rest)) → Decides (begins word bytes && q (after word bytes)) (BeginsThen word Q bytes)
decides_then word bytes q Q each = (
  λ h.
      let both = and_parts (begins word bytes) (q (after word bytes)) h in
      (after word bytes, begins_front word bytes both.0, (each (after word bytes)).0 both.1),
  λ b.
      let rest : after word bytes ≡ b.0 = ap (after word) b.1 ∙ drop_at word b.0 (length word) refl in
      and_from (begins word bytes) (q (after word bytes)) ((decides_begins word bytes).1 (b.0, b.1)) (ap q rest ∙ (each b.0).1 b.2),
)

pub decides_capital_after : (word bytes : List ℕ) → Decides (capital_after word bytes) (BeginsThen word (First Capital) bytes)
decides_capital_after word bytes =
    decides_then word bytes (λ rest. capital (get_or rest 0 0)) (First Capital) (decides_first capital Capital decides_capital refl)

pub decides_directive : (word bytes : List ℕ) → Decides (directive word bytes) (BeginsThen word BlankOrEnd bytes)
decides_directive word bytes =
    decides_then word bytes (λ rest. empty rest || blank (get_or rest 0 0)) BlankOrEnd
    (λ rest. Decides-or (empty rest) (blank (get_or rest 0 0)) (decides_empty rest) (decides_first blank Blank decides_blank refl rest))

turned : (a b : ℕ) → eqb a b ≡ eqb b a
turned a b = same_from_decides (eqb a b) (eqb b a) (Decides-eqb a b) (Decides-like (eqb b a) sym sym (Decides-eqb b a))

marked_either : (a b c : Bool) → ((a || b) && c) ≡ ((a && c) || (b && c))
marked_either true true true = refl
marked_either true true false = refl
marked_either true false true = refl
marked_either true false false = refl
marked_either false b c = refl

marked_begins : (word bytes : List ℕ) → marked word bytes ≡ (begins (64 ∷ word) bytes || begins (35 ∷ word) bytes)
marked_begins word [] = refl
marked_begins word (b ∷ bytes) = rw (turned 64 b, turned 35 b) (marked_either (eqb b 64) (eqb b 35) (begins word bytes))

pub decides_marked : (word bytes : List ℕ) → Decides (marked word bytes) (Begins (64 ∷ word) bytes ⊎ Begins (35 ∷ word) bytes)
decides_marked word bytes =
    Decides-at (marked word bytes) (begins (64 ∷ word) bytes || begins (35 ∷ word) bytes) (marked_begins word bytes)
    (Decides-or (begins (64 ∷ word) bytes) (begins (35 ∷ word) bytes) (decides_begins (64 ∷ word) bytes) (decides_begins (35 ∷ word) bytes))

pub first_none : (P : ℕ → Type 0) (xs : List ℕ) → xs ≡ [] → First P xs → ⊥
first_none P xs e f = let z : ◌≡◌ {A = ℕ} 0 1 = cc in omega arith

-- what stands past a front that passes a test
module _ (p : ℕ → Bool) (P : ℕ → Type 0) (each : (x : ℕ) → Decides (p x) (P x)) where
  pub past_only : (xs rest : List ℕ) → Past P xs rest → rest ≡ past p xs
  past_only xs rest h = sym (ap (past p) h.1 ∙ past_front h.0 rest h.2 h.3)
    where
      past_front : (front rest : List ℕ) → AllByRecursion P front → (First P rest → ⊥) → past p (front ++ rest) ≡ rest
      past_front [] [] a n = refl
      past_front [] (x ∷ rest) a n =
          ⊎_elim (λ (t : p x ≡ true). absurd (n (x, rest, refl, (each x).0 t))) (λ f. cond-false (p x) (past p rest) (x ∷ rest) f) (cases_Bool (p x))
      past_front (x ∷ front) rest a n =
          cond-true (p x) (past p (front ++ rest)) (x ∷ (front ++ rest)) ((each x).1 a.0) ∙ past_front front rest a.1 n

  past_on : (x : ℕ) (xs : List ℕ) (t : Bool) → p x ≡ t → Past P xs (past p xs) → Past P (x ∷ xs) (cond t (past p xs) (x ∷ xs))
  past_on x xs true e h = (x ∷ h.0, ap (λ (ys : List ℕ). x ∷ ys) h.1, ((each x).0 e, h.2), h.3)
  past_on x xs false e h = ([], refl, tt, λ f. not_from_Decides (p x) (each x) e (subst P (cc) f.3))

  pub past_is : (xs : List ℕ) → Past P xs (past p xs)
  past_is [] = ([], refl, tt, first_none P [] refl)
  past_is (x ∷ xs) = past_on x xs (p x) refl (past_is xs)
