-- What an event does, by the two flags and whether comments are pending.
use Rattle.std.specs.Prelude.{Bool, true, false, cond}
use Rattle.comments.specs.declared.comment.CommentKind.{CommentKind}
use Rattle.comments.specs.Rows.{line_kind}
use Rattle.builder.specs.declared.event.Event.{Event}
use Rattle.builder.specs.declared.event.Event.TheVariants.{LineComment, BlockComment, Newline, Token}
use Rattle.builder.specs.declared.event.Attach.{Attach}
use Rattle.builder.specs.declared.event.Attach.TheVariants.{Wait, MarkLast, EndLine, ToToken}
use Rattle.builder.specs.declared.event.Effect.{Effect}

-- the event of a comment
abbrev pub event_of : CommentKind → Event
event_of kind = cond (line_kind kind) LineComment BlockComment

abbrev pub becomes : Bool → Bool → Attach → Effect
becomes n m attach = record { saw_newline = n; saw_newline_for_comment = m; attach = attach }

-- n: a line break since the token before; m: one since the token or comment before
abbrev pub effect_of : Bool → Bool → Bool → Event → Effect
effect_of n m pending LineComment = becomes true true (cond n Wait EndLine)
effect_of n m pending BlockComment = becomes n false Wait
effect_of n m pending Newline = becomes true true (cond pending (cond n MarkLast EndLine) Wait)
effect_of n m pending Token = becomes false false (cond pending ToToken Wait)
