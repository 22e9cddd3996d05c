use Rattle.std.proofs.Common.{ap, ◌∙◌, ◌++◌, take}
use Rattle.std.proofs.lemmas.List.{take_all}
use Rattle.listing.specs.Listing.{lines_of}
use Rattle.listing.proofs.Laid.{writes_none, writes_then, writes_is}
use Rattle.listing.proofs.Lined.{lines_more}
use Rattle.listing.proofs.rows.put_rows.Goals as goal

pub loop-row-init : goal.loop-row-init
loop-row-init g c = writes_none _

pub loop-row-preserved : goal.loop-row-preserved
loop-row-preserved g c =
    let line = g.T.Listed.line in
    let rows = c.args.rows.now in
    writes_is (ap (λ r. lines_of line (take c.loop-row.row-index rows) ++ line r) c.row-item.is ∙ lines_more line rows c.loop-row.row-index c.row-item.result c.loop-row-test.true) (writes_then c.loop-row.invariant c.put_row.ensures)

pub returns : goal.returns
returns g c = writes_is (ap (lines_of g.T.Listed.line) (take_all c.loop-row.row-index c.args.rows.now c.loop-row-test.false)) c.loop-row.invariant
