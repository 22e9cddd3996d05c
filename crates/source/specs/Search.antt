-- The rules of the byte-match tables, and what a search over one finds.
use Rattle.std.specs.Prelude.{ℕ, Bool, false, not, ◌||◌, List, ◌==◌, slice_index_or}

-- LF, CR, or the first byte of U+2028 and U+2029
abbrev pub begins_line_break : ℕ → Bool
begins_line_break b = b == 10 || (b == 13 || b == 226)

-- what may end a block comment or a line in it
abbrev pub begins_multiline_stop : ℕ → Bool
begins_multiline_stop b = b == 42 || begins_line_break b

-- space, tab, CR or LF
abbrev pub regular_whitespace : ℕ → Bool
regular_whitespace b = b == 32 || (b == 9 || (b == 13 || b == 10))

abbrev pub ends_regular_whitespace : ℕ → Bool
ends_regular_whitespace b = not (regular_whitespace b)

-- what a table says of a byte
abbrev pub hits : List Bool → ℕ → Bool
hits t b = slice_index_or t b false

abbrev pub misses : List Bool → ℕ → Bool
misses t b = not (hits t b)
