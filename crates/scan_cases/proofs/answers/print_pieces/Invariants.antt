-- A piece has at least one byte, so what is left of the text grows shorter.
use Rattle.std.proofs.Common.{◌-◌, length}
use Rattle.source.specs.View.{text_of, place_of}
use Rattle.scan_cases.proofs.answers.print_pieces.Given as goal

abbrev pub decreases-loop-piece : goal.decreases-loop-piece
decreases-loop-piece l = length (text_of l.ahead) - place_of l.ahead
