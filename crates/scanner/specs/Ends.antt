-- Where comments end, byte by byte: the line terminator at the front of a text, the end of a line and of a block.
use Rattle.std.specs.Prelude.{◌≡◌, ℕ, ◌+◌, ◌-◌, ◌≤◌, Bool, cond, ◌&&◌, ◌||◌, List, [], ◌∷◌, length, Ok, Err, Result, ◌==◌, nat_lt, slice_index}
use Rattle.scanner.specs.declared.comment.Block.{Block}
use Rattle.scanner.specs.declared.comment.Unterminated.{Unterminated}

-- how many bytes the line terminator takes that begins with these three bytes, or 0: LF, CR, U+2028, U+2029
abbrev pub term : ℕ → ℕ → ℕ → ℕ
term b c d = cond (b == 10 || b == 13) 1 (cond (b == 226 && (c == 128 && (d == 168 || d == 169))) 3 0)

-- how many bytes the line terminator takes that stands at the front, or 0
abbrev pub terminator : List ℕ → ℕ
terminator xs = term (slice_index xs 0) (slice_index xs 1) (slice_index xs 2)

-- how many bytes stand before the first line terminator, or before the end
abbrev pub line_end : List ℕ → ℕ
line_end [] = 0
line_end (b ∷ bs) = cond (terminator (b ∷ bs) == 0) (1 + line_end bs) 0

-- the two bytes are `*/`
abbrev pub closes : ℕ → ℕ → Bool
closes b c = b == 42 && c == 47

-- where the first `*/` ends, and whether a line terminator stands before it, or in all of the text where there is none; the list begins at the place `at`
abbrev pub block_from : ℕ → Bool → List ℕ → Result Block Unterminated
block_from at multi [] = Err (record { multi = multi })
block_from at multi (b ∷ bs) = cond (closes b (slice_index bs 0)) (Ok (record { end = at + 2; multi = multi })) (block_from (at + 1) (multi || nat_lt 0 (terminator (b ∷ bs))) bs)

-- a block's end lies in the text, right after a `/`
abbrev pub BlockWithin : List ℕ → ℕ → Result Block Unterminated → Type 0
BlockWithin text from (Ok b) = (from + 2 ≤ b.end) × (b.end ≤ length text) × (slice_index text (b.end - 1) ≡ 47)
BlockWithin text from (Err b) = Unit {0}
