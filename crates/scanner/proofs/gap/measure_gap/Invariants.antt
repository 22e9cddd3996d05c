-- What is left of the gap makes the same gap, in as many pieces as there are bytes left.
use Rattle.std.proofs.Common.{◌≡◌, ◌-◌, length}
use Rattle.source.specs.View.{text_of, place_of}
use Rattle.scanner.proofs.Measures.{Going}
use Rattle.scanner.proofs.gap.measure_gap.Given as goal

abbrev pub invariant-loop-piece : goal.invariant-loop-piece
invariant-loop-piece l = record {
  same : l.ahead.text ≡ l.source.text;
  reached : l.gap.end ≡ place_of l.ahead;
  going : Going l.last_comment l.last_space (text_of l.source) (place_of l.source) l.gap;
}

abbrev pub decreases-loop-piece : goal.decreases-loop-piece
decreases-loop-piece l = length (text_of l.source) - place_of l.ahead
