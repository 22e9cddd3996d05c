-- The tokens of JSON as RFC 8259's grammar has them, and what is owed to it where a token is told.
use Rattle.std.specs.Prelude.{◌≡◌, ℕ, ◌<◌, ◌≤◌, Bool, true, false, ◌&&◌, ◌||◌, List, [], ◌∷◌, length, IfSome, Some, codes, Option, ◌==◌, nat_le}
use Rattle.kinds.specs.Kinds.{number_of}
use Rattle.kinds.specs.declared.kind.Kind.{Kind}
use Rattle.kinds.specs.declared.kind.Kind.TheVariants.{LCurly, RCurly, LBrack, RBrack, Colon, Comma, True, False, Null, Str, Decimal, Float, PositiveExponential, NegativeExponential}
use Rattle.tokens.specs.declared.token_reader.Told.{Told}
use Rattle.tokens.specs.Rules.{byte_at, between, Rule, one, many, ◌or◌, ◌then◌, optional, Stands}

-- the six structural characters, without the white space around them, each with its kind
pub data Structural : Kind → List ℕ → Type 0 where
  begin_array : Structural LBrack (codes "[")
  begin_object : Structural LCurly (codes "{")
  end_array : Structural RBrack (codes "]")
  end_object : Structural RCurly (codes "}")
  name_separator : Structural Colon (codes ":")
  value_separator : Structural Comma (codes ",")

-- the three literal names, each with its kind
pub data LiteralName : Kind → List ℕ → Type 0 where
  name_true : LiteralName True (codes "true")
  name_false : LiteralName False (codes "false")
  name_null : LiteralName Null (codes "null")

-- an ASCII letter, A to Z or a to z
abbrev pub letter : ℕ → Bool
letter b = (nat_le 0x41 b && nat_le b 0x5A) || (nat_le 0x61 b && nat_le b 0x7A)

-- quotation-mark = %x22
abbrev pub quote : ℕ → Bool
quote b = b == 0x22

-- escape = %x5C
abbrev pub escape : ℕ → Bool
escape b = b == 0x5C

-- unescaped = %x20-21 / %x23-5B / %x5D-10FFFF, byte by byte: each byte of a character above %x7F is above %x7F
abbrev pub unescaped : ℕ → Bool
unescaped b = (nat_le 0x20 b && nat_le b 0x21) || ((nat_le 0x23 b && nat_le b 0x5B) || nat_le 0x5D b)

-- *char, where char = unescaped / escape and the byte after it, whatever that is: the escapes are not told apart
pub data Chars : List ℕ → Type 0 where
  no_char : Chars []
  unescaped_char : {b : ℕ} {bs : List ℕ} → unescaped b ≡ true → Chars bs → Chars (b ∷ bs)
  escaped_char : {b c : ℕ} {bs : List ℕ} → escape b ≡ true → Chars bs → Chars (b ∷ (c ∷ bs))

-- string = quotation-mark *char quotation-mark
abbrev pub String : Rule
String = one quote then Chars then one quote

-- DIGIT = %x30-39
abbrev pub digit : ℕ → Bool
digit b = nat_le 0x30 b && nat_le b 0x39

-- digit1-9 = %x31-39
abbrev pub digit1_9 : ℕ → Bool
digit1_9 b = nat_le 0x31 b && nat_le b 0x39

-- zero = %x30
abbrev pub zero_digit : ℕ → Bool
zero_digit b = b == 0x30

-- minus = %x2D
abbrev pub minus : ℕ → Bool
minus b = b == 0x2D

-- plus = %x2B
abbrev pub plus : ℕ → Bool
plus b = b == 0x2B

-- decimal-point = %x2E
abbrev pub decimal_point : ℕ → Bool
decimal_point b = b == 0x2E

-- e = %x65 / %x45
abbrev pub exp_mark : ℕ → Bool
exp_mark b = b == 0x65 || b == 0x45

-- 1*DIGIT
abbrev pub Digits : Rule
Digits = one digit then many digit

-- int = zero / ( digit1-9 *DIGIT )
abbrev pub Int : Rule
Int = one zero_digit or (one digit1_9 then many digit)

-- frac = decimal-point 1*DIGIT
abbrev pub Frac : Rule
Frac = one decimal_point then Digits

-- exp = e [ minus / plus ] 1*DIGIT
abbrev pub Exp : Rule
Exp = one exp_mark then optional (one minus or one plus) then Digits

-- number = [ minus ] int [ frac ] [ exp ]
abbrev pub Number : Rule
Number = optional (one minus) then Int then optional Frac then optional Exp

-- a kind that numbers have
abbrev pub of_number : Kind → Bool
of_number kind =
    (number_of kind == number_of Decimal) || (number_of kind == number_of Float
    || (number_of kind == number_of PositiveExponential || number_of kind == number_of NegativeExponential))

-- what is told at a place: a token of a number's kind is a number, and where a number stands, one at least as long is told
pub record Numbers (text : List ℕ) (place : ℕ) (o : Option Told) : Type 0 where
  pub told : IfSome o (λ t. of_number t.kind ≡ true → Number (between text place t.end))
  pub longest : (end : ℕ) → end ≤ length text → Number (between text place end) → (t : Told) × (o ≡ Some t) × (of_number t.kind ≡ true) × (end ≤ t.end)

-- the numbers of each kind, by what stands after the int
pub data NumberOf : Kind → List ℕ → Type 0 where
  -- nothing
  decimal : {bs : List ℕ} → (optional (one minus) then Int) bs → NumberOf Decimal bs
  -- frac
  float : {bs : List ℕ} → (optional (one minus) then Int then Frac) bs → NumberOf Float bs
  -- [ frac ] e minus 1*DIGIT
  negative : {bs : List ℕ} → (optional (one minus) then Int then optional Frac then one exp_mark then one minus then Digits) bs → NumberOf NegativeExponential bs
  -- [ frac ] e [ plus ] 1*DIGIT
  positive : {bs : List ℕ} → (optional (one minus) then Int then optional Frac then one exp_mark then optional (one plus) then Digits) bs → NumberOf PositiveExponential bs

-- no number that begins at the place goes on beyond the end
abbrev pub Longest : List ℕ → ℕ → ℕ → Type 0
Longest text place end = (further : ℕ) → end < further → Stands Number text place further → ⊥

-- a token of a kind stands in a text from a place to an end
pub data JsonToken (text : List ℕ) (place : ℕ) : Kind → ℕ → Type 0 where
  structural_character : {kind : Kind} {end : ℕ} → Stands (Structural kind) text place end → JsonToken text place kind end
  -- no letter follows a literal name
  literal_name : {kind : Kind} {end : ℕ} → Stands (LiteralName kind) text place end → letter (byte_at text end) ≡ false → JsonToken text place kind end
  string : {end : ℕ} → Stands String text place end → JsonToken text place Str end
  -- a number goes on as far as one can
  number : {kind : Kind} {end : ℕ} → Stands (NumberOf kind) text place end → Longest text place end → JsonToken text place kind end

-- what is told at a place is a token that stands there, and each token that stands there is what is told: there is at most one
pub record Tells (text : List ℕ) (place : ℕ) (o : Option Told) : Type 0 where
  pub sound : IfSome o (λ t. JsonToken text place t.kind t.end)
  pub complete : (kind : Kind) (end : ℕ) → JsonToken text place kind end → o ≡ Some (record { kind = kind; end = end })
