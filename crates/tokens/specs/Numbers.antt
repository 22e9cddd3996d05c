-- What JSON's telling tells as a number is a number of the grammar, of the kind that is told.
use Rattle.std.specs.Prelude.{◌≡◌, ℕ, suc, ◌+◌, ◌-◌, ◌<◌, ◌≤◌, Bool, true, false, cond, ◌&&◌, ◌||◌, ◌⊎◌, List, [], ◌∷◌, length, take, drop, IfSome, Some, None, Option, ◌==◌, ◌≢◌, refl}
use Rattle.std.proofs.Common.{inl, inr, sym, ap, subst, ◌∙◌, arith}
use Rattle.std.specs.List.{prefix_len}
use Rattle.std.proofs.lemmas.List.Sums.{prefix_len-drop_yes}
use Rattle.std.proofs.lemmas.Bool.{cond_both, eqb-true, eqb-false, eq-eqb, ne_eqb, and_parts}
use Rattle.std.proofs.lemmas.Bool.Decides.{nat_tests}
use Rattle.kinds.specs.declared.kind.Kind.TheVariants.{Decimal, Float, PositiveExponential, NegativeExponential}
use Rattle.tokens.specs.declared.token_reader.Told.{Told}
use Rattle.tokens.specs.Json.{run_end, int_start, int_end, frac_end, after_sign, exp_at, told_number, number_from, number_at}
use Rattle.tokens.specs.Grammar.{digit, minus, plus, zero_digit, decimal_point, digit1_9, exp_mark, Digits, Int, Frac, NumberOf, decimal, float, negative, positive}
use Rattle.tokens.specs.Rules.{byte_at, between, Rule, one, many, ◌then◌, optional, Stands}
use Rattle.tokens.specs.Parts.{byte_inside, between_empty, one_at, then_at}
use Rattle.tokens.specs.Runs.{digit_ascii, run_inside}

step : (p : ℕ → Bool) (x : ℕ) (xs : List ℕ) (v : Bool) → p x ≡ v → many p (take (prefix_len p xs) xs) → many p (take (cond v (1 + prefix_len p xs) 0) (x ∷ xs))
step p x xs true e ih =
    let n : suc (prefix_len p xs) ≡ 1 + prefix_len p xs = omega arith in
    subst (λ k. many p (take k (x ∷ xs))) n (e, ih)
step p x xs false e ih = tt

leading_many : (p : ℕ → Bool) (xs : List ℕ) → many p (take (prefix_len p xs) xs)
leading_many p [] = tt
leading_many p (x ∷ xs) = step p x xs (p x) refl (leading_many p xs)

many_at : (text : List ℕ) (from : ℕ) → many digit (between text from (run_end digit text from))
many_at text from =
    let n : prefix_len digit (drop from text) ≡ run_end digit text from - from = omega arith in
    subst (λ k. many digit (take k (drop from text))) n (leading_many digit (drop from text))

digits_at : (text : List ℕ) (from : ℕ) → digit (byte_at text from) ≡ true → Digits (between text from (run_end digit text from))
digits_at text from h =
    let some = (digit_ascii (byte_at text from) h).0 in
    let on = prefix_len-drop_yes digit text from 0 (byte_inside text from some) h in
    let e : run_end digit text (from + 1) ≡ run_end digit text from = omega (arith, on) in
    subst (λ n. Digits (between text from n)) e
    (then_at (one digit) (many digit) text from (from + 1) (run_end digit text (from + 1)) (omega arith) (omega arith) (one_at digit text from some h) (many_at text (from + 1)))

digits_inside : (text : List ℕ) (from : ℕ) → digit (byte_at text from) ≡ true → run_end digit text from ≤ length text
digits_inside text from h = let some = byte_inside text from (digit_ascii (byte_at text from) h).0 in run_inside digit text from (omega arith)

abbrev IsInt : List ℕ → ℕ → ℕ → Type 0
IsInt text start end = (end ≢ start) → Int (between text start end) × (start < end) × (end ≤ length text)

int_is : (text : List ℕ) (start : ℕ) → IsInt text start (int_end text start)
int_is text start =
    cond_both (zero_digit (byte_at text start)) _ _ (IsInt text start)
    (λ e _. let some : 0 < byte_at text start = omega (arith, eqb-true (byte_at text start) 48 e) in
    (inl (one_at zero_digit text start some e), omega arith, omega (arith, byte_inside text start some)))
    (λ _. cond_both (digit1_9 (byte_at text start)) _ _ (IsInt text start)
    (λ e _. let some : 0 < byte_at text start = grind (arith, nat_tests) in (
      inr (then_at (one digit1_9) (many digit) text start (start + 1) (run_end digit text (start + 1)) (omega arith) (omega arith) (one_at digit1_9 text start some e) (many_at text (start + 1))),
      omega arith,
      run_inside digit text (start + 1) (omega (arith, byte_inside text start some)),
    ))
    (λ _ apart. absurd (apart refl)))

-- a fraction, or none
abbrev IsFrac : List ℕ → ℕ → ℕ → Type 0
IsFrac text int end = (end ≡ int) ⊎ (Frac (between text int end) × (int < end) × (end ≤ length text))

frac_is : (text : List ℕ) (int : ℕ) → IsFrac text int (frac_end text int)
frac_is text int =
    cond_both (decimal_point (byte_at text int) && digit (byte_at text (int + 1))) _ _ (IsFrac text int)
    (λ e. let b = and_parts (decimal_point (byte_at text int)) (digit (byte_at text (int + 1))) e in inr (
      then_at (one decimal_point) Digits text int (int + 1) (run_end digit text (int + 1)) (omega arith) (omega arith)
          (one_at decimal_point text int (omega (arith, eqb-true (byte_at text int) 46 b.0)) b.0) (digits_at text (int + 1) b.1),
      omega arith,
      digits_inside text (int + 1) b.1,
    ))
    (λ _. inl refl)

on : (text : List ℕ) (int end : ℕ) → IsFrac text int end → int ≤ end
on text int end (inl e) = omega arith
on text int end (inr f) = omega (arith, f.1)

pub frac_on : (text : List ℕ) (int : ℕ) → int ≤ frac_end text int
frac_on text int = on text int (frac_end text int) (frac_is text int)

frac_optional : (text : List ℕ) (int end : ℕ) → IsFrac text int end → optional Frac (between text int end)
frac_optional text int end (inl e) = inl (ap (between text int) e ∙ between_empty text int)
frac_optional text int end (inr f) = inr f.0

-- the sign of an exponent: minus, or plus or none
abbrev pub SignOf : Bool → Rule
SignOf true = one minus
SignOf false = optional (one plus)

-- an exponent by its sign
abbrev pub ExpOf : Bool → Rule
ExpOf v = one exp_mark then SignOf v then Digits

sign_by : (text : List ℕ) (place : ℕ) (v w : Bool) → minus (byte_at text place) ≡ v → plus (byte_at text place) ≡ w
    → SignOf v (between text place (cond (v || w) (place + 1) place)) × (place ≤ cond (v || w) (place + 1) place)
sign_by text place true w m p = (one_at minus text place (omega (arith, eqb-true (byte_at text place) 45 m)) m, omega arith)
sign_by text place false true m p = (inr (one_at plus text place (omega (arith, eqb-true (byte_at text place) 43 p)) p), omega arith)
sign_by text place false false m p = (inl (between_empty text place), omega arith)

sign_is : (text : List ℕ) (place : ℕ) → SignOf (minus (byte_at text place)) (between text place (after_sign text place)) × (place ≤ after_sign text place)
sign_is text place = sign_by text place (minus (byte_at text place)) (plus (byte_at text place)) refl refl

-- a number that is told of an exponent from there on: of the kind of its sign
abbrev pub IsExp : List ℕ → ℕ → Told → Type 0
IsExp text frac t =
    (v : Bool) × (t.kind ≡ cond v NegativeExponential PositiveExponential) × ExpOf v (between text frac t.end) × (frac < t.end) × (t.end ≤ length text)

pub exp_is : (text : List ℕ) (frac : ℕ) → IfSome (exp_at text frac) (IsExp text frac)
exp_is text frac =
    let s = sign_is text (frac + 1) in
    cond_both (exp_mark (byte_at text frac) && digit (byte_at text (after_sign text (frac + 1)))) _ None (λ o. IfSome o (IsExp text frac))
    (λ e. let b = and_parts (exp_mark (byte_at text frac)) (digit (byte_at text (after_sign text (frac + 1)))) e in
    let mark = b.0 in
    let some : 0 < byte_at text frac = grind (arith, nat_tests) in
    let end = run_end digit text (after_sign text (frac + 1)) in
    let on : frac + 1 ≤ after_sign text (frac + 1) = s.1 in (
      minus (byte_at text (frac + 1)),
      refl,
      then_at (one exp_mark) (SignOf (minus (byte_at text (frac + 1))) then Digits) text frac (frac + 1) end (omega arith) (omega arith) (one_at exp_mark text frac some mark)
          (then_at (SignOf (minus (byte_at text (frac + 1)))) Digits text (frac + 1) (after_sign text (frac + 1)) end (omega arith) (omega arith) s.0 (digits_at text (after_sign text (frac + 1)) b.1)),
      omega arith,
      digits_inside text (after_sign text (frac + 1)) b.1,
    ))
    (λ _. tt)

abbrev IsStart : List ℕ → ℕ → ℕ → Type 0
IsStart text place start = optional (one minus) (between text place start) × (place ≤ start)

start_is : (text : List ℕ) (place : ℕ) → IsStart text place (int_start text place)
start_is text place =
    cond_both (minus (byte_at text place)) _ _ (IsStart text place)
    (λ e. (inr (one_at minus text place (omega (arith, eqb-true (byte_at text place) 45 e)) e), omega arith))
    (λ _. (inl (between_empty text place), omega arith))

-- a number by its parts: where its int begins and ends, and its fraction
record Begun (text : List ℕ) (place start int frac : ℕ) : Type 0 where
  sign : IsStart text place start
  int_is : Int (between text start int)
  some : start < int
  inside : int ≤ length text
  frac_is : IsFrac text int frac

abbrev IsNumber : List ℕ → ℕ → Told → Type 0
IsNumber text place t = Stands (NumberOf t.kind) text place t.end

bare_number : (text : List ℕ) (place start int frac : ℕ) → Begun text place start int frac → IsFrac text int frac → Stands (NumberOf (cond (frac == int) Decimal Float)) text place frac
bare_number text place start int frac h (inl e) =
    let s = h.sign.1 in
    let i = h.some in
    let inside = h.inside in
    subst (λ v. Stands (NumberOf (cond v Decimal Float)) text place frac) (sym (eq-eqb frac int e))
    (omega arith, decimal (then_at (optional (one minus)) Int text place start frac s (omega arith) h.sign.0 (subst (λ n. Int (between text start n)) (sym e) h.int_is)))
bare_number text place start int frac h (inr f) =
    let s = h.sign.1 in
    let i = h.some in
    let more = f.1 in
    subst (λ v. Stands (NumberOf (cond v Decimal Float)) text place frac) (sym (ne_eqb frac int (λ z. omega arith))) (
      f.2,
      float (then_at (optional (one minus)) (Int then Frac) text place start frac s (omega arith) h.sign.0
          (then_at Int Frac text start int frac (omega arith) (omega arith) h.int_is f.0)),
    )

whole : (X : Rule) (text : List ℕ) (place start int frac end : ℕ) → Begun text place start int frac → X (between text frac end) → frac < end
    → (optional (one minus) then Int then optional Frac then X) (between text place end)
whole X text place start int frac end h x more =
    let s = h.sign.1 in
    let i = h.some in
    let f = on text int frac h.frac_is in
    then_at (optional (one minus)) (Int then optional Frac then X) text place start end s (omega arith) h.sign.0
    (then_at Int (optional Frac then X) text start int end (omega arith) (omega arith) h.int_is
    (then_at (optional Frac) X text int frac end f (omega arith) (frac_optional text int frac h.frac_is) x))

exp_number : (text : List ℕ) (place start int frac end : ℕ) (v : Bool) → Begun text place start int frac → ExpOf v (between text frac end) → frac < end
    → NumberOf (cond v NegativeExponential PositiveExponential) (between text place end)
exp_number text place start int frac end true h x more = negative (whole (ExpOf true) text place start int frac end h x more)
exp_number text place start int frac end false h x more = positive (whole (ExpOf false) text place start int frac end h x more)

number_told : (text : List ℕ) (place start int frac : ℕ) → Begun text place start int frac → (o : Option Told) → IfSome o (IsExp text frac) → IsNumber text place (told_number int frac o)
number_told text place start int frac h None x = bare_number text place start int frac h h.frac_is
number_told text place start int frac h (Some t) x =
    (x.4, subst (λ kind. NumberOf kind (between text place t.end)) (sym x.1) (exp_number text place start int frac t.end x.0 h x.2 x.3))

number_from_is : (text : List ℕ) (place start int : ℕ) → IsStart text place start → IsInt text start int → IfSome (number_from text start int) (IsNumber text place)
number_from_is text place start int s i =
    cond_both (int == start) None _ (λ o. IfSome o (IsNumber text place))
    (λ _. tt)
    (λ e. let h = i (eqb-false int start e) in
    number_told text place start int (frac_end text int) (record { sign = s; int_is = h.0; some = h.1; inside = h.2; frac_is = frac_is text int })
    (exp_at text (frac_end text int)) (exp_is text (frac_end text int)))

pub number_sound : (text : List ℕ) (place : ℕ) → IfSome (number_at text place) (λ t. Stands (NumberOf t.kind) text place t.end)
number_sound text place =
    number_from_is text place (int_start text place) (int_end text (int_start text place)) (start_is text place) (int_is text (int_start text place))
