-- What is left of the line ends where the line ends.
use Rattle.std.proofs.Common.{◌≡◌, ◌+◌, ◌-◌, ◌≤◌, length, drop}
use Rattle.scanner.specs.Ends.{line_end}
use Rattle.scanner.proofs.comment.skip_single_line_comment.Given as goal

abbrev pub invariant-loop-end : goal.invariant-loop-end
invariant-loop-end l = record {
  onward : l.from ≤ l.end;
  within : l.from ≤ length l.text → l.end ≤ length l.text;
  ends : l.end + line_end (drop l.end l.text) ≡ l.from + line_end (drop l.from l.text);
}

abbrev pub decreases-loop-end : goal.decreases-loop-end
decreases-loop-end l = length l.text - l.end
