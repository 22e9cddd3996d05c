-- The readings are computed, and compared with what was worked out by hand.
use Rattle.std.proofs.Common.{refl}
use Rattle.kinds.specs.Kinds.{can_end_expression, continues_previous_expression, keeps_line_comment_leading}
use Rattle.builder.proofs.examples.attaching_examples.Goals as goal

pub returns : goal.returns
unfolding can_end_expression continues_previous_expression keeps_line_comment_leading
returns c = record { count = refl; attached = refl }
