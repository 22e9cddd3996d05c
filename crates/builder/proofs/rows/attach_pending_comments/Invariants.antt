-- The rows passed are attached, and the others are as they were.
use Rattle.std.proofs.Common.{◌≡◌}
use Rattle.builder.specs.Rows.{over, attached_row}
use Rattle.builder.proofs.rows.attach_pending_comments.Given as goal

abbrev pub invariant-loop-row : goal.invariant-loop-row
invariant-loop-row l = l.row-items ≡ over (attached_row l.how) 0 l.row-index l.initial.row-items
