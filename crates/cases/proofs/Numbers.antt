-- How often a field is repeated, read from its digits.
use Rattle.std.proofs.Common.{◌≡◌, ℕ, ◌^◌, ◌<◌, Bool, true, false, cond, ◌&&◌, leb, ltb, List, [], ◌∷◌, length, get_or, Some, None, Ok, Err, Option, Result, MatchOption, sym, refl, ap, ◌∙◌, arith, rules}
use Rattle.std.specs.Str.Parse.{ParsesUnsigned, without_leading_plus}
use Rattle.std.specs.Str.{all_ascii_digits}
use Rattle.std.specs.Result.{result_ok}
use Rattle.std.proofs.lemmas.Str.Parse.{IsNumeralModel, numerals_by_fold, without_leading_plus_none}
use Rattle.std.proofs.lemmas.Bool.{leb-true, ltb-true, lt-ltb}
use Rattle.cases.specs.Fields.{decimal_from, times, loose_times}

own : IsNumeralModel (λ ds. all_ascii_digits ds ≡ true) (decimal_from 0)
own = numerals_by_fold _ (search rules) decimal_from (search rules)

-- what is made of what `parse` answered
abbrev pub limited : Option ℕ → Option ℕ
limited (Some n) = cond (leb n 40000) (Some n) None
limited None = None

-- what `filter` leaves of it
pub filtered : (o r : Option ℕ) {P : ℕ → Type 0} → MatchOption o (r ≡ None) P → ((n : ℕ) → P n → r ≡ cond (leb n 40000) (Some n) None) → r ≡ limited o
filtered (Some n) r h each = each n h
filtered None r h each = h

module _ (ds : List ℕ) where
  refused : (s a b : Bool) → ltb 0 (length ds) ≡ s → all_ascii_digits ds ≡ a → leb (decimal_from 0 ds) 40000 ≡ b → ((all_ascii_digits ds ≡ true) × (0 < length ds) × (decimal_from 0 ds < 2 ^ 64) → ⊥) → (s && (a && b)) ≡ false
  refused true true true es ea eb f = absurd (f (ea, ltb-true 0 (length ds) es, omega (arith, leb-true (decimal_from 0 ds) 40000 eb)))
  refused true true false es ea eb f = refl
  refused true false b es ea eb f = refl
  refused false a b es ea eb f = refl

pub read_loose : {E : Type 0} (count : List ℕ) (r : Result ℕ E) → ParsesUnsigned 64 10 count r → limited (result_ok r) ≡ loose_times count
read_loose count (Ok n) h =
    let ds = without_leading_plus count in
    let digits : all_ascii_digits ds ≡ true = own.from ds h.0.0.1 in
    let some : ltb 0 (length ds) ≡ true = lt-ltb 0 (length ds) h.0.0.0 in
    let is : n ≡ decimal_from 0 ds = h.1 ∙ sym (own.same ds h.0.0.1) in
    ap (λ m. cond (leb m 40000) (Some m) None) is ∙ sym (ap (λ (b : Bool). cond (b && (all_ascii_digits ds && leb (decimal_from 0 ds) 40000)) (Some (decimal_from 0 ds)) None) some ∙ ap (λ (b : Bool). cond (b && leb (decimal_from 0 ds) 40000) (Some (decimal_from 0 ds)) None) digits)
read_loose count (Err e) h =
    let ds = without_leading_plus count in
    sym (ap (λ (b : Bool). cond b (Some (decimal_from 0 ds)) None)
    (refused ds (ltb 0 (length ds)) (all_ascii_digits ds) (leb (decimal_from 0 ds) 40000) refl refl refl
    (λ k. h ((k.1, own.to ds k.0), omega (arith, k.2, own.same ds (own.to ds k.0))))))

long : (ds : List ℕ) → 48 < get_or ds 0 0 → 0 < length ds
long [] h = absurd (omega arith)
long (d ∷ ds) h = omega arith

-- a count that begins above zero has no plus sign, and a digit
pub strict_loose : (count : List ℕ) → ltb 48 (get_or count 0 0) ≡ true → loose_times count ≡ times count
strict_loose count e =
    let first : 48 < get_or count 0 0 = ltb-true 48 (get_or count 0 0) e in
    let plain : without_leading_plus count ≡ count = without_leading_plus_none count (λ z. omega arith) in
    let some : ltb 0 (length count) ≡ true = lt-ltb 0 (length count) (long count first) in
    ap (λ (ds : List ℕ). cond (ltb 0 (length ds) && (all_ascii_digits ds && leb (decimal_from 0 ds) 40000)) (Some (decimal_from 0 ds)) None) plain
    ∙ ap (λ (b : Bool). cond (b && (all_ascii_digits count && leb (decimal_from 0 count) 40000)) (Some (decimal_from 0 count)) None) (some ∙ sym e)
