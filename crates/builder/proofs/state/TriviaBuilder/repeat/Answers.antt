use Rattle.table.specs.View.{kept_of}
use Rattle.builder.proofs.Spans.{again_some}
use Rattle.builder.proofs.state.TriviaBuilder.repeat.Goals as goal

pub returns-in-Some : goal.returns-in-Some
returns-in-Some c = again_some (kept_of c.args.comments.now) c.args.row c.in-Some.index c.args.self.now _ c.in-Some.ensures.span c.set_annotation_flags.ensures
