-- The lines of the rows so far are written.
use Rattle.std.proofs.Common.{take}
use Rattle.listing.specs.Bytes.{Writes}
use Rattle.listing.specs.Listing.{lines_of}
use Rattle.listing.proofs.rows.put_rows.Given as goal

abbrev pub invariant-loop-row : goal.invariant-loop-row
invariant-loop-row g l = Writes (lines_of g.T.Listed.line (take l.row-index l.rows)) l.initial.out l.out
