-- The piece that stands at a place of a text, by the first rule that fits. The place is to be a boundary: elsewhere no character stands.
use Rattle.std.specs.Prelude.{ℕ, ◌+◌, ◌<◌, false, cond, ◌||◌, List, length, drop, Ok, Err, Result, ◌==◌, nat_le, slice_index}
use Rattle.std.specs.Char.{len_utf8}
use Rattle.std.specs.Str.{IsCharBoundary}
use Rattle.std.specs.List.{prefix_len}
use Rattle.source.specs.Search.{regular_whitespace}
use Rattle.source.specs.Unicode.{irregular_whitespace, irregular_line_terminator, first_char}
use Rattle.scanner.specs.declared.comment.Block.{Block}
use Rattle.scanner.specs.declared.comment.Unterminated.{Unterminated}
use Rattle.scanner.specs.Ecma.{space, newline, irregular_space, irregular_newline, line, block, Standing, piece, unterminated, nothing, cut}
use Rattle.scanner.specs.Ends.{terminator, line_end, block_from}

-- a line comment ends before the first line terminator, and the text goes on after it
abbrev pub line_to : List ℕ → ℕ → ℕ → Standing
line_to text at end = piece at (end + terminator (drop end text)) (line (cut text at end))

abbrev pub line_from : List ℕ → ℕ → Standing
line_from text at = line_to text at (at + 2 + line_end (drop (at + 2) text))

abbrev pub block_piece : List ℕ → ℕ → Result Block Unterminated → Standing
block_piece text at (Ok b) = piece at b.end (block b.multi (cut text at b.end))
block_piece text at (Err b) = unterminated b.multi

-- after a `/`: the next byte says which comment, if any
abbrev pub comment_from : List ℕ → ℕ → ℕ → Standing
comment_from text at next =
    cond (next == 47) (line_from text at)
    (cond (next == 42) (block_piece text at (block_from (at + 2) false (drop (at + 2) text)))
    nothing)

-- white space and line terminators, by the character at the place; a line break takes along the spaces, tabs, CRs and LFs after it
abbrev pub white_from : List ℕ → ℕ → ℕ → Standing
white_from text at c =
    cond (c == 0x20 || c == 0x9) (piece at (at + 1) space)
    (cond (c == 0xA || c == 0xD) (piece at (at + 1 + prefix_len regular_whitespace (drop (at + 1) text)) newline)
    (cond (irregular_whitespace c) (piece at (at + len_utf8 c) irregular_space)
    (cond (irregular_line_terminator c) (piece at (at + len_utf8 c) irregular_newline)
    nothing)))

abbrev pub piece_from : List ℕ → ℕ → ℕ → Standing
piece_from text at c = cond (c == 0x2F) (comment_from text at (slice_index text (at + 1))) (white_from text at c)

abbrev pub piece_at : List ℕ → ℕ → Standing
piece_at text at = cond (nat_le (length text) at) nothing (piece_from text at (first_char (drop at text)))

-- a piece goes on, to where the text may be cut
abbrev pub Lands : List ℕ → ℕ → Standing → Type 0
Lands text at (piece start end shape) = (at < end) × IsCharBoundary text end
Lands text at (unterminated multi) = Unit {0}
Lands text at nothing = Unit {0}
