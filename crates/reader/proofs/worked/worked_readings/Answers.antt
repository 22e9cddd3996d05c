-- The readings are computed, and compared with what was worked out by hand.
use Rattle.std.proofs.Common.{refl}
use lib.Utf8.{encode}
use Rattle.std.specs.Str.{chars}
use Rattle.kinds.specs.Kinds.{can_end_expression, continues_previous_expression, keeps_line_comment_leading}
use Rattle.comments.specs.Classing.{trimmed, rest_class, class_of}
use Rattle.reader.proofs.worked.worked_readings.Goals as goal

pub returns : goal.returns
unfolding encode chars can_end_expression continues_previous_expression keeps_line_comment_leading trimmed rest_class class_of
returns c = record { count = refl; worked = refl }
