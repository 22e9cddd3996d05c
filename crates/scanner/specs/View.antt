-- What the scanner's answer says, without the places in memory of what it lends.
use Rattle.std.specs.Prelude.{true, false, Some, None, Ok, Err, Option, Result}
use Rattle.scanner.specs.declared.comment.Unterminated.{Unterminated}
use Rattle.scanner.specs.declared.piece.Piece.{Piece}
use Rattle.scanner.specs.declared.piece.Trivia.{Trivia}
use Rattle.scanner.specs.declared.piece.Trivia.TheVariants.{Whitespace, LineBreak, IrregularWhitespace, IrregularLineBreak, LineComment, SingleLineBlock, MultiLineBlock}
use Rattle.scanner.specs.Ecma.{Shape, space, newline, irregular_space, irregular_newline, line, block, Standing, piece, unterminated, nothing}

abbrev pub shape_of : Trivia → Shape
shape_of Whitespace = space
shape_of LineBreak = newline
shape_of IrregularWhitespace = irregular_space
shape_of IrregularLineBreak = irregular_newline
shape_of (LineComment part) = line part.now
shape_of (SingleLineBlock part) = block false part.now
shape_of (MultiLineBlock part) = block true part.now

abbrev pub piece_of : Piece → Standing
piece_of p = piece p.start p.end (shape_of p.trivia)

-- a block comment, or that it has no end
abbrev pub ending_of : Result Piece Unterminated → Standing
ending_of (Ok p) = piece_of p
ending_of (Err b) = unterminated b.multi

-- what stands at a place
abbrev pub standing_of : Result (Option Piece) Unterminated → Standing
standing_of (Ok (Some p)) = piece_of p
standing_of (Ok None) = nothing
standing_of (Err b) = unterminated b.multi
