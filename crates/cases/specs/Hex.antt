-- Bytes spelt as pairs of hexadecimal digits (RFC 5234, HEXDIG).
use Rattle.std.specs.Prelude.{ℕ, ◌+◌, ◌-◌, ◌*◌, cond, ◌&&◌, List, [], ◌∷◌, Some, None, Option, nat_le}

-- the value of a digit: 0 to 9, or A to F
abbrev pub hex_digit : ℕ → Option ℕ
hex_digit b = cond (nat_le 48 b && nat_le b 57) (Some (b - 48)) (cond (nat_le 65 b && nat_le b 70) (Some (b - 65 + 10)) None)

-- the byte of two values, if both are there
abbrev pub two_digits : Option ℕ → Option ℕ → Option ℕ
two_digits (Some h) (Some l) = Some (h * 16 + l)
two_digits (Some h) None = None
two_digits None l = None

-- the byte that two digits spell
abbrev pub hex_byte : ℕ → ℕ → Option ℕ
hex_byte high low = two_digits (hex_digit high) (hex_digit low)

-- a byte before others, if both are there
abbrev pub before : Option ℕ → Option (List ℕ) → Option (List ℕ)
before (Some b) (Some bs) = Some (b ∷ bs)
before (Some b) None = None
before None bs = None

-- the bytes that pairs of digits spell
abbrev pub hex_bytes : List ℕ → Option (List ℕ)
hex_bytes [] = Some []
hex_bytes (high ∷ []) = None
hex_bytes (high ∷ low ∷ rest) = before (hex_byte high low) (hex_bytes rest)

-- the bytes that pairs of digits spell, one pair at least
abbrev pub some_bytes : List ℕ → Option (List ℕ)
some_bytes [] = None
some_bytes (d ∷ ds) = hex_bytes (d ∷ ds)
