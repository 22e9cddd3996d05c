use Rattle.table.specs.View.{kept_of}
use Rattle.builder.proofs.Spans.{span_none, span_at}
use Rattle.builder.proofs.trivia_builder.same_span.Goals as goal

pub returns-in_err-index-clause-span : goal.returns-in_err-index-clause-span
returns-in_err-index-clause-span c = rw c.from_residual.ensures (span_none (kept_of c.args.comments.now) c.args.row.now (rw c.start.ensures at c.in_err-index.ensures.found))

pub returns-clause-span : goal.returns-clause-span
returns-clause-span c = rw (c.then_some.ensures, c.kept.ensures) (span_at (kept_of c.args.comments.now) c.args.row.now c.in_ok-index.index (rw c.start.ensures at c.in_ok-index.ensures.found))
