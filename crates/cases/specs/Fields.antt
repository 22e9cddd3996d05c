-- The fields of a case line, as docs/FORMATS.md has them.
use Rattle.std.specs.Prelude.{◌≡◌, ℕ, ◌+◌, ◌-◌, ◌*◌, Bool, cond, ◌&&◌, ◌||◌, List, [], ◌∷◌, ◌++◌, length, Some, None, Option, ◌==◌, nat_le, nat_lt, slice_index}
use Rattle.std.specs.List.{after_first, before_first, list_any, repeat, slice_split}
use Rattle.std.specs.Str.{all_ascii_digits}
use Rattle.std.specs.Str.Parse.{without_leading_plus}
use Rattle.cases.specs.Hex.{hex_bytes, some_bytes}

-- a line that is blank or begins with #
abbrev pub skipped : List ℕ → Bool
skipped line = length line == 0 || slice_index line 0 == 35

-- what stands before the first byte c
abbrev pub word_of : ℕ → List ℕ → List ℕ
word_of c line = before_first (λ b. b == c) line

-- what stands after it
abbrev pub rest_of : ℕ → List ℕ → List ℕ
rest_of c line = after_first (λ b. b == c) line

-- the byte c stands somewhere
abbrev pub has : ℕ → List ℕ → Bool
has c line = list_any (λ b. b == c) line

-- the number that decimal digits write after those of n
abbrev pub decimal_from : ℕ → List ℕ → ℕ
decimal_from n [] = n
decimal_from n (d ∷ ds) = decimal_from (10 * n + (d - 48)) ds

-- how often: a decimal number from 1 to 40000 with no leading zero
abbrev pub times : List ℕ → Option ℕ
times ds = cond (nat_lt 48 (slice_index ds 0) && (all_ascii_digits ds && nat_le (decimal_from 0 ds) 40000)) (Some (decimal_from 0 ds)) None

-- how often, loosely: a decimal number up to 40000, before which zeros may stand, and before them a plus sign
abbrev pub loose_times : List ℕ → Option ℕ
loose_times count =
    let ds = without_leading_plus count in
    cond (nat_lt 0 (length ds) && (all_ascii_digits ds && nat_le (decimal_from 0 ds) 40000)) (Some (decimal_from 0 ds)) None

-- how often a field stands: as often as the count after * says, or once
abbrev pub counted : (List ℕ → Option ℕ) → List ℕ → Option ℕ
counted count field = cond (has 42 field) (count (rest_of 42 field)) (Some 1)

abbrev pub times_of : List ℕ → Option ℕ
times_of field = counted times field

-- each call gives what the definition has
abbrev pub Gives : (List ℕ → Option ℕ → Type 0) → (List ℕ → Option ℕ) → Type 0
Gives call t = (count : List ℕ) (r : Option ℕ) → call count r → r ≡ t count

-- so many times these bytes, if both are there
abbrev pub multiplied : Option ℕ → Option (List ℕ) → Option (List ℕ)
multiplied (Some n) (Some bs) = Some (repeat n bs)
multiplied (Some n) None = None
multiplied None o = None

-- the bytes of a field
abbrev pub field_bytes : List ℕ → Option (List ℕ)
field_bytes field = multiplied (times_of field) (some_bytes (word_of 42 field))

-- so many times the bytes that the digits spell, if there is a count; none of them, whatever the digits, where that is 0
abbrev pub loosely : Option ℕ → List ℕ → Option (List ℕ)
loosely (Some n) digits = cond (n == 0) (Some []) (multiplied (Some n) (hex_bytes digits))
loosely None digits = None

-- the bytes of a field, read loosely
abbrev pub loose_bytes : List ℕ → Option (List ℕ)
loose_bytes field = loosely (counted loose_times field) (word_of 42 field)

-- the fields of a line, cut at each space
abbrev pub fields_of : List ℕ → List (List ℕ)
fields_of line = slice_split (λ b. b == 32) line

-- bytes and then others, if both are there
abbrev pub joined : Option (List ℕ) → Option (List ℕ) → Option (List ℕ)
joined (Some xs) (Some ys) = Some (xs ++ ys)
joined (Some xs) None = None
joined None o = None

-- the bytes of all the fields in a row, if none is malformed
abbrev pub gathered : (List ℕ → Option (List ℕ)) → List (List ℕ) → Option (List ℕ)
gathered bytes [] = Some []
gathered bytes (field ∷ fields) = joined (bytes field) (gathered bytes fields)

-- the text of a case; one without a field has the empty text
abbrev pub text_of : List ℕ → Option (List ℕ)
text_of [] = Some []
text_of (b ∷ bs) = gathered field_bytes (fields_of (b ∷ bs))
