-- What JSON's telling tells is fair: each token of the grammar begins with an ASCII byte and ends with one.
use Rattle.std.specs.Prelude.{◌≡◌, ℕ, ◌+◌, ◌-◌, ◌<◌, ◌≤◌, Bool, true, List, [], ◌∷◌, ◌++◌, length, drop, IfSome, Some, None, IsUtf8, Option, slice_index}
use Rattle.std.proofs.Common.{inl, inr, sym, ap, subst, ◌∙◌, arith}
use Rattle.std.specs.Str.{IsCharBoundary}
use Rattle.std.proofs.lemmas.List.{append-nil, get_or-append-add, get_or_append_left, get_or-drop, get_or-take, length-append}
use Rattle.std.proofs.lemmas.Str.{IsCharBoundary-before_ascii, IsCharBoundary-after_ascii}
use Rattle.std.proofs.lemmas.Bool.Decides.{nat_tests}
use Rattle.kinds.specs.Kinds.{number_of}
use Rattle.kinds.specs.declared.kind.Kind.{Kind}
use Rattle.tokens.specs.declared.token_reader.Told.{Told}
use Rattle.tokens.specs.Telling.{Fair, FairAt}
use Rattle.tokens.specs.Grammar.{quote, digit, digit1_9, zero_digit, minus, Structural, begin_array, begin_object, end_array, end_object, name_separator, value_separator, LiteralName, name_true, name_false, name_null, String, Digits, Int, Frac, Exp, Number, NumberOf, decimal, float, negative, positive, JsonToken, structural_character, literal_name, string, number}
use Rattle.tokens.specs.Json.{json_telling}
use Rattle.tokens.specs.Rules.{between, byte_at, Rule, one, many, ◌then◌, optional, Stands}
use Rattle.tokens.specs.Grammatical.{sound}
use Rattle.tokens.specs.Longest.{is_number}
use Rattle.tokens.specs.Parts.{between_length}
use Rattle.tokens.specs.Runs.{digit_ascii}

-- a kind that a token may have
abbrev Tokens : Kind → Type 0
Tokens kind = (4 ≤ number_of kind) × (number_of kind ≤ 168)

-- bytes of which the first is ASCII, and of which the last is
abbrev First : Rule
First bs = (0 < length bs) × (slice_index bs 0 < 128)

abbrev Last : Rule
Last bs = (0 < length bs) × (slice_index bs (length bs - 1) < 128)

abbrev Ascii : Rule
Ascii bs = First bs × Last bs

fair : (text : List ℕ) → IsUtf8 text → (place : ℕ) (t : Told) → Tokens t.kind → t.end ≤ length text → Ascii (between text place t.end) → Fair text place t
fair text u place t k inside h =
    let n = between_length text place t.end inside in
    let some = h.0.0 in
    let onward : place < t.end = omega arith in
    let last-at : place + (length (between text place t.end) - 1) ≡ t.end - 1 = omega arith in
    let at = λ (i : ℕ) (lt : i < t.end - place). get_or-take (t.end - place) (drop place text) i 0 lt ∙ get_or-drop place text i 0 in
    let e : t.end - 1 + 1 ≡ t.end = omega arith in
    let zero : place + 0 ≡ place = omega arith in
    let a = at 0 (omega arith) ∙ ap (byte_at text) zero in
    let b = at (length (between text place t.end) - 1) (omega arith) ∙ ap (byte_at text) last-at in
    record {
      low = k.0;
      high = k.1;
      onward = onward;
      inside = inside;
      begins = IsCharBoundary-before_ascii text place (omega arith) (subst (λ x. x < 128) a h.0.1);
      lands = subst (λ n. IsCharBoundary text n) e (IsCharBoundary-after_ascii text (t.end - 1) u (omega arith) (subst (λ x. x < 128) b h.1.1));
    }

first_then : (xs ys : List ℕ) → First xs → First (xs ++ ys)
first_then xs ys h =
    let some = h.0 in
    (omega (arith, length-append xs ys), subst (λ b. b < 128) (sym (get_or_append_left xs ys 0 0 some)) h.1)

last_then : (xs ys : List ℕ) → Last ys → Last (xs ++ ys)
last_then xs ys h =
    let some = h.0 in
    let n = length-append xs ys in
    let e : length (xs ++ ys) - 1 ≡ length xs + (length ys - 1) = omega arith in
    (omega arith, subst (λ b. b < 128) (sym (ap (λ k. slice_index (xs ++ ys) k) e ∙ get_or-append-add xs ys (length ys - 1) 0)) h.1)

one_ascii : (b : ℕ) → b < 128 → Ascii (b ∷ [])
one_ascii b h = ((omega arith, h), (omega arith, h))

-- structural characters and literal names
structural_ascii : {kind : Kind} {bs : List ℕ} → Structural kind bs → Tokens kind × Ascii bs
structural_ascii begin_array = ((omega arith, omega arith), one_ascii _ (omega arith))
structural_ascii begin_object = ((omega arith, omega arith), one_ascii _ (omega arith))
structural_ascii end_array = ((omega arith, omega arith), one_ascii _ (omega arith))
structural_ascii end_object = ((omega arith, omega arith), one_ascii _ (omega arith))
structural_ascii name_separator = ((omega arith, omega arith), one_ascii _ (omega arith))
structural_ascii value_separator = ((omega arith, omega arith), one_ascii _ (omega arith))

literal_ascii : {kind : Kind} {bs : List ℕ} → LiteralName kind bs → Tokens kind × Ascii bs
literal_ascii name_true = ((omega arith, omega arith), ((omega arith, omega arith), (omega arith, omega arith)))
literal_ascii name_false = ((omega arith, omega arith), ((omega arith, omega arith), (omega arith, omega arith)))
literal_ascii name_null = ((omega arith, omega arith), ((omega arith, omega arith), (omega arith, omega arith)))

-- one byte of a class of ASCII bytes
class_ascii : (p : ℕ → Bool) → ((b : ℕ) → p b ≡ true → b < 128) → (bs : List ℕ) → one p bs → Ascii bs
class_ascii p ascii bs h = subst Ascii (sym h.1) (one_ascii h.0 (ascii h.0 h.2))

-- strings
quote_ascii : (bs : List ℕ) → one quote bs → Ascii bs
quote_ascii = class_ascii quote (λ b h. grind (arith, nat_tests))

string_ascii : (bs : List ℕ) → String bs → Ascii bs
string_ascii bs h =
    let q = h.4 in
    subst Ascii (sym h.2) (first_then h.0 h.1 (quote_ascii h.0 h.3).0, last_then h.0 h.1 (subst Last (sym q.2) (last_then q.0 q.1 (quote_ascii q.1 q.4).1)))

-- numbers
digits_last : (b : ℕ) (bs : List ℕ) → b < 128 → many digit bs → Last (b ∷ bs)
digits_last b [] h m = (omega arith, h)
digits_last b (c ∷ bs) h m = last_then (b ∷ []) (c ∷ bs) (digits_last c bs (digit_ascii c m.0).1 m.1)

led_ascii : (p : ℕ → Bool) → ((b : ℕ) → p b ≡ true → b < 128) → (bs : List ℕ) → (one p then many digit) bs → Ascii bs
led_ascii p ascii bs h =
    let b = h.3 in
    let low = ascii b.0 b.2 in
    subst Ascii (sym (h.2 ∙ ap (λ z. z ++ h.1) b.1)) ((omega arith, low), digits_last b.0 h.1 low h.4)

digits_ascii : (bs : List ℕ) → Digits bs → Ascii bs
digits_ascii = led_ascii digit (λ b h. (digit_ascii b h).1)

int_ascii : (bs : List ℕ) → Int bs → Ascii bs
int_ascii bs (inl h) = class_ascii zero_digit (λ b h. grind (arith, nat_tests)) bs h
int_ascii bs (inr h) = led_ascii digit1_9 (λ b h. grind (arith, nat_tests)) bs h

frac_last : (bs : List ℕ) → optional Frac bs → optional Last bs
frac_last bs (inl none) = inl none
frac_last bs (inr h) = inr (subst Last (sym h.2) (last_then h.0 h.1 (digits_ascii h.1 h.4).1))

exp_last : (bs : List ℕ) → optional Exp bs → optional Last bs
exp_last bs (inl none) = inl none
exp_last bs (inr h) =
    let q = h.4 in
    inr (subst Last (sym h.2) (last_then h.0 h.1 (subst Last (sym q.2) (last_then q.0 q.1 (digits_ascii q.1 q.4).1))))

last_optional : (xs ys : List ℕ) → Last xs → optional Last ys → Last (xs ++ ys)
last_optional xs ys h (inl none) = subst Last (sym (ap (λ z. xs ++ z) none ∙ append-nil xs)) h
last_optional xs ys h (inr k) = last_then xs ys k

optional_both : (xs ys : List ℕ) → optional Last xs → optional Last ys → optional Last (xs ++ ys)
optional_both xs ys (inl none) (inl nil) = inl (ap (λ z. z ++ ys) none ∙ nil)
optional_both xs ys (inl none) (inr k) = inr (last_then xs ys k)
optional_both xs ys (inr h) k = inr (last_optional xs ys h k)

sign_first : (xs ys : List ℕ) → optional (one minus) xs → First ys → First (xs ++ ys)
sign_first xs ys (inl none) h = subst First (sym (ap (λ z. z ++ ys) none)) h
sign_first xs ys (inr m) h = first_then xs ys (class_ascii minus (λ b h. grind (arith, nat_tests)) xs m).0

number_ascii : (bs : List ℕ) → Number bs → Ascii bs
number_ascii bs h =
    let q = h.4 in
    let r = q.4 in
    let int = int_ascii q.0 q.3 in
    let rest = subst (optional Last) (sym r.2) (optional_both r.0 r.1 (frac_last r.0 r.3) (exp_last r.1 r.4)) in
    let on : Ascii h.1 = subst Ascii (sym q.2) (first_then q.0 q.1 int.0, last_optional q.0 q.1 int.1 rest) in
    subst Ascii (sym h.2) (sign_first h.0 h.1 h.3 on.0, last_then h.0 h.1 on.1)

number_kind : {kind : Kind} {bs : List ℕ} → NumberOf kind bs → Tokens kind
number_kind (decimal h) = (omega arith, omega arith)
number_kind (float h) = (omega arith, omega arith)
number_kind (negative h) = (omega arith, omega arith)
number_kind (positive h) = (omega arith, omega arith)

token_ascii : {text : List ℕ} {place : ℕ} {kind : Kind} {end : ℕ} → JsonToken text place kind end → Tokens kind × Stands Ascii text place end
token_ascii (structural_character (inside, h)) = ((structural_ascii h).0, (inside, (structural_ascii h).1))
token_ascii (literal_name (inside, h) stops) = ((literal_ascii h).0, (inside, (literal_ascii h).1))
token_ascii (string (inside, h)) = ((omega arith, omega arith), (inside, string_ascii _ h))
token_ascii (number (inside, h) most) = (number_kind h, (inside, number_ascii _ (is_number h)))

fair_told : (text : List ℕ) → IsUtf8 text → (place : ℕ) (o : Option Told) → IfSome o (λ t. JsonToken text place t.kind t.end) → FairAt text place o
fair_told text u place None h = tt
fair_told text u place (Some t) h = let a = token_ascii h in fair text u place t a.0 a.1.0 a.1.1

pub fair_json : (text : List ℕ) → IsUtf8 text → (place : ℕ) → FairAt text place (json_telling text place)
fair_json text u place = fair_told text u place (json_telling text place) (sound text place)
