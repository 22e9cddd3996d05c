-- What is left of the block, from the next byte that may end it or a line in it, ends where the block ends.
use Rattle.std.proofs.Common.{◌≡◌, ◌-◌, ◌≤◌, false, length, drop}
use Rattle.scanner.specs.Ends.{block_from}
use Rattle.scanner.proofs.comment.skip_multi_line_comment.Given as goal

abbrev pub invariant-loop-at : goal.invariant-loop-at
invariant-loop-at l = (l.from ≤ l.at) × (block_from l.at l.multi (drop l.at l.text) ≡ block_from l.from false (drop l.from l.text))

abbrev pub decreases-loop-at : goal.decreases-loop-at
decreases-loop-at l = length l.text - l.at
