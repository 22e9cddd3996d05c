-- No more is read than the buffer holds.
use Rattle.std.proofs.Common.{◌≤◌, length}
use Rattle.lock_comments.proofs.read_text.Given as goal

abbrev pub invariant-loop : goal.invariant-loop
invariant-loop l = l.len ≤ length l.text
