use Rattle.std.proofs.Common.{◌≡◌, ◌-◌, arith}
use borrow.Rule.Slice.PartMut.{mid_of, mid_len}
use Rattle.builder.specs.Rows.{attached_row, no_comment}
use Rattle.builder.proofs.Over.{over_min, over_more, over_part}
use Rattle.builder.proofs.rows.attach_pending_comments.Goals as goal

pub loop-row-preserved : goal.loop-row-preserved
loop-row-preserved c = cc (over_more (attached_row c.args.how) c.loop-row.row-index (mid_of c.min-from.result (c.args.to - c.min-from.result) c.args.rows.now) no_comment c.loop-row-test.true)

pub returns : goal.returns
returns c =
    let f = attached_row c.args.how in
    let k = c.args.to - c.min-from.result in
    let part = over_part f c.min-from.result c.args.to c.args.rows.now (omega arith) c.requires in
    let all : c.loop-row.row-index ≡ k = omega (arith, mid_len c.min-from.result c.args.to c.args.rows.now c.requires) in
    cc (part, all, over_min f c.args.from c.args.to c.args.rows.now)
