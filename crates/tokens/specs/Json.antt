-- The token of a JSON text that begins at a place, as a computation.
use Rattle.std.specs.Prelude.{ℕ, ◌+◌, Bool, false, cond, ◌&&◌, ◌||◌, List, [], ◌∷◌, drop, Some, None, codes, Option, unwrap_or, ◌==◌, nat_lt}
use Rattle.std.specs.Option.{option_or}
use Rattle.std.specs.List.{prefix_len}
use Rattle.std.specs.Str.{bytes_eq}
use Rattle.kinds.specs.declared.kind.Kind.{Kind}
use Rattle.kinds.specs.declared.kind.Kind.TheVariants.{LCurly, RCurly, LBrack, RBrack, Colon, Comma, True, False, Null, Str, Decimal, Float, PositiveExponential, NegativeExponential}
use Rattle.tokens.specs.Grammar.{decimal_point, digit, digit1_9, escape, exp_mark, letter, minus, plus, quote, zero_digit}
use Rattle.tokens.specs.Rules.{between, byte_at}
use Rattle.tokens.specs.Telling.{Telling}
use Rattle.tokens.specs.declared.token_reader.Told.{Told}

-- where a run of bytes of a class ends that goes on from a place
abbrev pub run_end : (ℕ → Bool) → List ℕ → ℕ → ℕ
run_end class text from = from + prefix_len class (drop from text)

abbrev pub told : Option Kind → ℕ → Option Told
told None end = None
told (Some kind) end = Some (record { kind = kind; end = end })

-- begin-array [, begin-object {, end-array ], end-object }, name-separator :, value-separator ,
abbrev pub structural : ℕ → Option Kind
structural b =
    cond (b == 91) (Some LBrack) (cond (b == 123) (Some LCurly) (cond (b == 93) (Some RBrack)
    (cond (b == 125) (Some RCurly) (cond (b == 58) (Some Colon) (cond (b == 44) (Some Comma) None)))))

abbrev pub structural_at : Telling
structural_at text place = told (structural (byte_at text place)) (place + 1)

-- the three literal names
abbrev pub literal : List ℕ → Option Kind
literal word =
    cond (bytes_eq word (codes "true")) (Some True) (cond (bytes_eq word (codes "false")) (Some False)
    (cond (bytes_eq word (codes "null")) (Some Null) None))

-- a literal name is told where it is the whole run of letters from the place
abbrev pub literal_at : Telling
literal_at text place = told (literal (between text place (run_end letter text place))) (run_end letter text place)

-- below %x20
abbrev pub control : ℕ → Bool
control b = nat_lt b 32

-- where a string ends, from what follows its opening quote: after the next quote that no backslash escapes.
-- A backslash takes the next byte with it, whatever that is; any other control character is not in a string.
abbrev pub string_from : Bool → ℕ → List ℕ → Option ℕ
string_from escaped place [] = None
string_from escaped place (b ∷ bs) =
    cond escaped (string_from false (place + 1) bs) (cond (quote b) (Some (place + 1))
    (cond (control b) None (string_from (escape b) (place + 1) bs)))

abbrev pub told_string : Option ℕ → Option Told
told_string None = None
told_string (Some end) = Some (record { kind = Str; end = end })

abbrev pub string_at : Telling
string_at text place = cond (quote (byte_at text place)) (told_string (string_from false (place + 1) (drop (place + 1) text))) None

-- [ minus ]: where the int is to begin
abbrev pub int_start : List ℕ → ℕ → ℕ
int_start text place = cond (minus (byte_at text place)) (place + 1) place

-- int = zero / ( digit1-9 *DIGIT ): where it ends; the place itself if none stands there
abbrev pub int_end : List ℕ → ℕ → ℕ
int_end text place =
    cond (zero_digit (byte_at text place)) (place + 1) (cond (digit1_9 (byte_at text place)) (run_end digit text (place + 1)) place)

-- frac = decimal-point 1*DIGIT: where it ends; the place itself if none stands there
abbrev pub frac_end : List ℕ → ℕ → ℕ
frac_end text place = cond (decimal_point (byte_at text place) && digit (byte_at text (place + 1))) (run_end digit text (place + 1)) place

-- [ minus / plus ]: the place after a sign, if one stands there
abbrev pub after_sign : List ℕ → ℕ → ℕ
after_sign text place = cond (minus (byte_at text place) || plus (byte_at text place)) (place + 1) place

-- exp = e [ minus / plus ] 1*DIGIT: what is told of a number that ends with it
abbrev pub exp_at : Telling
exp_at text place =
    cond (exp_mark (byte_at text place) && digit (byte_at text (after_sign text (place + 1))))
    (Some (record {
      kind = cond (minus (byte_at text (place + 1))) NegativeExponential PositiveExponential;
      end = run_end digit text (after_sign text (place + 1));
    }))
    None

-- a number whose int and frac end at these places: int [ frac ] [ exp ]
abbrev pub told_number : ℕ → ℕ → Option Told → Told
told_number int frac exp = unwrap_or exp (record { kind = cond (frac == int) Decimal Float; end = frac })

abbrev pub number_from : List ℕ → ℕ → ℕ → Option Told
number_from text start int =
    cond (int == start) None (Some (told_number int (frac_end text int) (exp_at text (frac_end text int))))

-- number = [ minus ] int [ frac ] [ exp ], each optional part taken where it stands whole
abbrev pub number_at : Telling
number_at text place = number_from text (int_start text place) (int_end text (int_start text place))

-- a structural character, a literal name, a string or a number
abbrev pub json_telling : Telling
json_telling text place =
    option_or (structural_at text place) (option_or (literal_at text place) (option_or (string_at text place) (number_at text place)))
