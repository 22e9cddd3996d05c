-- A line that is cut at its first byte c.
use Rattle.std.proofs.Common.{◌≡◌, ℕ, ◌+◌, ◌<◌, Bool, true, false, cond, not, eqb, ◌||◌, List, [], ◌∷◌, length, Some, None, Option, Bor, MatchOption, sym, refl, ◌∙◌, arith}
use Rattle.std.specs.List.{list_any, position_or_len}
use Rattle.std.specs.Option.{unwrap_or}
use Rattle.std.proofs.lemmas.List.{take_all, drop_all}
use Rattle.std.proofs.lemmas.Str.Pattern.{IsSplitOnceResult, split_once_first}
use Rattle.cases.specs.Fields.{word_of, rest_of, has}

-- no c, and so no cut
pub record Whole (c : ℕ) (xs : List ℕ) : Type 0 where
  pub word : word_of c xs ≡ xs
  pub rest : rest_of c xs ≡ []
  pub found : has c xs ≡ false

-- a cut into two parts
pub record Parted (c : ℕ) (xs front back : List ℕ) : Type 0 where
  pub word : word_of c xs ≡ front
  pub rest : rest_of c xs ≡ back
  pub found : has c xs ≡ true

module _ (p : ℕ → Bool) where
  any_some : (xs : List ℕ) → position_or_len p xs < length xs → list_any p xs ≡ true
  any_some [] h = absurd (omega arith)
  any_some (x ∷ xs) h = by_test (p x) (any_some xs) h
    where
      by_test : (t : Bool) → (position_or_len p xs < length xs → list_any p xs ≡ true) → cond (not t) (1 + position_or_len p xs) 0 < length (x ∷ xs) → (t || list_any p xs) ≡ true
      by_test true f h = refl
      by_test false f h = f (omega arith)

  any_none : (xs : List ℕ) → position_or_len p xs ≡ length xs → list_any p xs ≡ false
  any_none [] h = refl
  any_none (x ∷ xs) h = by_test (p x) (any_none xs) h
    where
      by_test : (t : Bool) → (position_or_len p xs ≡ length xs → list_any p xs ≡ false) → cond (not t) (1 + position_or_len p xs) 0 ≡ length (x ∷ xs) → (t || list_any p xs) ≡ false
      by_test true f h = absurd (omega arith)
      by_test false f h = f (omega arith)

module _ (c : ℕ) where
  pub cut : (bs : List ℕ) (r : Option (Bor (List ℕ) × Bor (List ℕ))) → IsSplitOnceResult c bs r → c < 128 → MatchOption r (Whole c bs) (λ x. Parted c bs x.0.now x.1.now)
  cut bs r h small = by_cases r (split_once_first c bs r h small)
    where
      by_cases : (r : Option (Bor (List ℕ) × Bor (List ℕ))) → MatchOption r (position_or_len (λ b. eqb b c) bs ≡ length bs) (λ x. (position_or_len (λ b. eqb b c) bs < length bs) × (x.0.now ≡ word_of c bs) × (x.1.now ≡ rest_of c bs)) → MatchOption r (Whole c bs) (λ x. Parted c bs x.0.now x.1.now)
      by_cases None e = record { word = take_all (position_or_len (λ b. eqb b c) bs) bs (omega arith); rest = drop_all (position_or_len (λ b. eqb b c) bs + 1) bs (omega arith); found = any_none (λ b. eqb b c) bs e }
      by_cases (Some x) p = record { word = sym p.1; rest = sym p.2; found = any_some (λ b. eqb b c) bs p.0 }

  -- a cut that leaves the whole as the word where there is none
  pub cut_or : (bs : List ℕ) (r : Option (Bor (List ℕ) × Bor (List ℕ))) (d : Bor (List ℕ) × Bor (List ℕ)) → IsSplitOnceResult c bs r → c < 128 → d.0.now ≡ bs → d.1.now ≡ [] → ((unwrap_or r d).0.now ≡ word_of c bs) × ((unwrap_or r d).1.now ≡ rest_of c bs)
  cut_or bs r d h small word rest = by_cases r (cut bs r h small)
    where
      by_cases : (r : Option (Bor (List ℕ) × Bor (List ℕ))) → MatchOption r (Whole c bs) (λ x. Parted c bs x.0.now x.1.now) → ((unwrap_or r d).0.now ≡ word_of c bs) × ((unwrap_or r d).1.now ≡ rest_of c bs)
      by_cases None w = (word ∙ sym w.word, rest ∙ sym w.rest)
      by_cases (Some x) p = (sym p.word, sym p.rest)
