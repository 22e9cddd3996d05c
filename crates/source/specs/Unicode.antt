-- White space and line terminators of ECMA-262, over code points.
use Rattle.std.specs.Prelude.{◌≡◌, ℕ, ◌+◌, ◌-◌, ◌*◌, Bool, cond, ◌&&◌, ◌||◌, List, ◌++◌, length, drop, Some, None, Option, ◌==◌, nat_le, nat_lt, slice_index}
use Rattle.std.proofs.Math.Utf8.{encode}
use Rattle.std.specs.Char.{len_utf8}

-- WhiteSpace besides space and tab: VT, FF, ZWNBSP and the characters of the category Space_Separator
abbrev pub irregular_whitespace : ℕ → Bool
irregular_whitespace c =
    (c == 0xB) || (c == 0xC || (c == 0xA0 || (c == 0x1680 || ((nat_le 0x2000 c && nat_le c 0x200A) || (c == 0x202F || (c == 0x205F || (c == 0x3000 || c == 0xFEFF)))))))

abbrev pub irregular_line_terminator : ℕ → Bool
irregular_line_terminator c = c == 0x2028 || c == 0x2029

-- LineTerminator: LF, CR, LS and PS
abbrev pub line_terminator : ℕ → Bool
line_terminator c = c == 0xA || (c == 0xD || irregular_line_terminator c)

-- RFC 3629: the code point that one to four bytes spell
abbrev pub char_of : ℕ → ℕ → ℕ → ℕ → ℕ
char_of a b c d =
    cond (nat_lt a 128) a (cond (nat_lt a 224) ((a - 192) * 64 + (b - 128)) (cond (nat_lt a 240) ((a - 224) * 4096 + ((b - 128) * 64 + (c - 128))) ((a - 240) * 262144 + ((b - 128) * 4096 + ((c - 128) * 64 + (d - 128))))))

-- the code point that a text begins with
abbrev pub first_char : List ℕ → ℕ
first_char bs = char_of (slice_index bs 0) (slice_index bs 1) (slice_index bs 2) (slice_index bs 3)

-- the character whose first byte is at a place, or none at the end of the text
abbrev pub char_at : List ℕ → ℕ → Option ℕ
char_at text at = cond (nat_le (length text) at) None (Some (first_char (drop at text)))

-- the bytes from a place on are those of the character and then the rest
abbrev pub Spelt : List ℕ → ℕ → Option ℕ → Type 0
Spelt text at None = at ≡ length text
Spelt text at (Some c) = drop at text ≡ encode c ++ drop (at + len_utf8 c) text
