-- What each event makes of the builder and its rows.
use Rattle.std.specs.Prelude.{◌≡◌, ℕ, ◌+◌, ◌<◌, Bool, true, false, cond, not, ◌&&◌, ◌⊎◌, List, map, length, take, Some, None, Ok, Err, Option, Result, ◌==◌, nat_lt, slice_index_or, slice_set}
use Rattle.refusals.specs.declared.Refusal.{Refusal}
use Rattle.refusals.specs.declared.Refusal.TheVariants.{CommentsFull, BadComment}
use Rattle.table.specs.declared.Appended.{Appended}
use Rattle.table.specs.declared.Appended.TheVariants.{Added, Dropped}
use Rattle.table.specs.declared.Full.{Full}
use Rattle.table.specs.Order.{Rising, outcome}
use Rattle.kinds.specs.declared.kind.Kind.{Kind}
use Rattle.kinds.specs.declared.kind.Kind.TheVariants.{Undetermined}
use Rattle.kinds.specs.declared.token.Token.{Token}
use Rattle.kinds.specs.Kinds.{number_of, can_end_expression, continues_previous_expression, keeps_line_comment_leading}
use Rattle.comments.specs.declared.comment.Comment.{Comment}
use Rattle.comments.specs.declared.comment.CommentKind.{CommentKind}
use Rattle.comments.specs.declared.comment.CommentKind.TheVariants.{SingleLineBlock, MultiLineBlock}
use Rattle.comments.specs.declared.comment.CommentContent.{CommentContent}
use Rattle.comments.specs.declared.comment.CommentPosition.TheVariants.{Leading}
use Rattle.comments.specs.Rows.{content_number, line_kind, block_kind}
use Rattle.comments.specs.Classing.{class_of}
use Rattle.table.specs.declared.Table.{Table}
use Rattle.table.specs.View.{rows_of, count_of}
use Rattle.builder.specs.declared.event.Attach.{Attach}
use Rattle.builder.specs.declared.event.Attach.TheVariants.{Wait, MarkLast, EndLine, ToToken}
use Rattle.builder.specs.declared.event.Effect.{Effect}
use Rattle.builder.specs.declared.event.Event.{Event}
use Rattle.builder.specs.declared.event.Event.TheVariants.{Newline, LineComment, BlockComment}
use Rattle.builder.specs.declared.event.Event.TheVariants as event
use Rattle.builder.specs.declared.rows.Attachment.{Attachment}
use Rattle.builder.specs.declared.rows.Attachment.TheVariants.{ToPrevious, ToEither, ToNext}
use Rattle.builder.specs.declared.state.TriviaBuilder.{TriviaBuilder}
use Rattle.builder.specs.declared.span.Span.{Span}
use Rattle.builder.specs.Content.{Fits, content_bytes}
use Rattle.builder.specs.Events.{effect_of, event_of}
use Rattle.builder.specs.Rows.{over, attached_row, last_followed, last_stays, no_comment}

abbrev pub Range : Type 0
Range = Option (ℕ × ℕ)

-- a range with one row more at its end
abbrev pub extended : Range → ℕ → Range
extended None row = Some (row, row + 1)
extended (Some range) row = Some (range.0, row + 1)

-- whether what stands between two tokens may go back to the first: the second ends the text, or goes on with an expression that the first may end
abbrev pub goes_back : Kind → Kind → Bool
goes_back previous next =
    cond (number_of previous == 1) false (cond (number_of next == 0) true (can_end_expression previous && continues_previous_expression next))

abbrev pub token_attachment : Token → Token → Attachment
token_attachment previous token = cond (goes_back previous.kind token.kind) (ToEither previous.end token.start) (ToNext token.start)

-- the builder with all rows of its table and how many are on record
pub record State : Type 0 where
  pub builder : TriviaBuilder
  pub rows : List Comment
  pub count : ℕ

abbrev pub state_of : TriviaBuilder → Table Comment → State
state_of b t = record { builder = b; rows = rows_of t; count = count_of t }

-- how many rows are on record
abbrev pub recorded : State → ℕ
recorded s = length (take s.count s.rows)

-- rows wait to be attached
abbrev pub pending : State → Bool
pending s = nat_lt s.builder.processed (recorded s)

-- what an event does now
abbrev pub effect_at : State → Event → Effect
effect_at s event = effect_of s.builder.saw_newline s.builder.saw_newline_for_comment (pending s) event

-- the builder with the flags that an effect gives
abbrev pub with_flags : Effect → TriviaBuilder → TriviaBuilder
with_flags e b = record b { saw_newline = e.saw_newline; saw_newline_for_comment = e.saw_newline_for_comment }

abbrev pub flagged : Effect → State → State
flagged e s = record s { builder = with_flags e s.builder }

-- all waiting rows are attached
abbrev pub attached : Attachment → State → State
attached how s = record s { builder = record s.builder { processed = recorded s }; rows = over (attached_row how) s.builder.processed (recorded s) s.rows }

-- the last row is followed by a line break
abbrev pub marked : State → State
marked s = record s { rows = last_followed s.rows (recorded s) }

-- the end of a line: all waiting rows go to the token before, unless the last of them stays leading
abbrev pub ended : State → State
ended s = cond (last_stays (take s.count s.rows)) s (attached (ToPrevious s.builder.previous_token.end) s)

-- what a line break does with the rows
abbrev pub newline_rows : Attach → State → State
newline_rows Wait s = s
newline_rows ToToken s = s
newline_rows MarkLast s = marked s
newline_rows EndLine s = ended (marked s)

-- a line break
abbrev pub newline_to : State → State
newline_to s = newline_rows (effect_at s Newline).attach (flagged (effect_at s Newline) s)

-- what a token does with the rows
abbrev pub token_rows : Attach → Attachment → State → State
token_rows Wait how s = s
token_rows MarkLast how s = s
token_rows EndLine how s = s
token_rows ToToken how s = attached how s

-- a token is the token before
abbrev pub passed : Token → State → State
passed token s = record s { builder = record s.builder { previous_token = token } }

-- a token
abbrev pub token_to : State → Token → State
token_to s token = passed token (token_rows (effect_at s event.Token).attach (token_attachment s.builder.previous_token token) (flagged (effect_at s event.Token) s))

-- the token before an opened text
abbrev pub no_token : Token
no_token = record { kind = Undetermined; start = 0; end = 0; is_on_new_line = false }

abbrev pub opened : TriviaBuilder
opened = record { processed = 0; saw_newline = true; saw_newline_for_comment = true; previous_token = no_token; pure_comments = None; no_side_effects_comments = None }

-- the builder with other ranges
abbrev pub with_ranges : TriviaBuilder → Range → Range → TriviaBuilder
with_ranges b pure none = record b { pure_comments = pure; no_side_effects_comments = none }

abbrev pub block_of : Bool → CommentKind
block_of multi = cond multi MultiLineBlock SingleLineBlock

-- a remark not yet applied extends its range
abbrev pub ranged : TriviaBuilder → CommentContent → ℕ → TriviaBuilder
ranged b content row = record b {
  pure_comments = cond (content_number content == 5) (extended b.pure_comments row) b.pure_comments;
  no_side_effects_comments = cond (content_number content == 7) (extended b.no_side_effects_comments row) b.no_side_effects_comments;
}

abbrev pub remarked : CommentContent → ℕ → State → State
remarked content row s = record s { builder = ranged s.builder content row }

-- a new comment's row before it is attached
abbrev pub new_row : TriviaBuilder → ℕ → ℕ → CommentKind → CommentContent → Comment
new_row b start end kind content =
    record { start = start; end = end; kind = kind; content = content; position = Leading; attached_to = 0; preceded_by_newline = b.saw_newline_for_comment; followed_by_newline = line_kind kind }

-- whether a comment ends the line of the token before
abbrev pub ends_line : Attach → Kind → Bool
ends_line Wait previous = false
ends_line MarkLast previous = false
ends_line ToToken previous = false
ends_line EndLine previous = not (keeps_line_comment_leading previous)

-- what a new comment does with the rows
abbrev pub comment_rows : Bool → State → State
comment_rows ends s = cond ends (ended s) s

-- what an event does, where so many rows stood before a new comment's
abbrev pub effect_before : State → ℕ → Event → Effect
effect_before s index event = effect_of s.builder.saw_newline s.builder.saw_newline_for_comment (nat_lt s.builder.processed index) event

-- a new comment, whose row is the last on record and stands at the index
abbrev pub taken : State → ℕ → Comment → State
taken s index row =
    remarked row.content index (comment_rows (ends_line (effect_before s index (event_of row.kind)).attach s.builder.previous_token.kind) (flagged (effect_before s index (event_of row.kind)) s))

-- a new comment's row is added, and taken in
abbrev pub added_to : State → Comment → State
added_to s row = taken (record s { rows = slice_set s.rows s.count row; count = s.count + 1 }) s.count row

-- the comment rows on record are in rising order
abbrev pub Ordered : List Comment → Type 0
Ordered kept = Rising (map (λ (c : Comment). c.start) kept)

-- a row on record has just this span
abbrev pub HasSpan : List Comment → Comment → ℕ → Type 0
HasSpan kept row i = (i < length kept) × ((slice_index_or kept i no_comment).start ≡ row.start) × ((slice_index_or kept i no_comment).end ≡ row.end)

-- the row that has the span, or none in rows of rising order
abbrev pub SpanAt : List Comment → Comment → Option ℕ → Type 0
SpanAt kept row None = Ordered kept → (i : ℕ) → HasSpan kept row i → ⊥
SpanAt kept row (Some i) = HasSpan kept row i

-- a comment that is on record already: its freshly found class extends the range by that row
pub record Again (kept : List Comment) (row : Comment) (b after : TriviaBuilder) : Type 0 where
  pub hit : Ordered kept → (i : ℕ) → HasSpan kept row i → after ≡ ranged b row.content i
  pub miss : Ordered kept → ((i : ℕ) → HasSpan kept row i → ⊥) → after ≡ b
  pub either : (after ≡ b) ⊎ ((i : ℕ) × HasSpan kept row i × (after ≡ ranged b row.content i))
  pub same : (after.processed ≡ b.processed) × (after.saw_newline ≡ b.saw_newline) × (after.saw_newline_for_comment ≡ b.saw_newline_for_comment) × (after.previous_token ≡ b.previous_token)

-- a comment by what came of its row: added, on record already or not wanted, or no room
abbrev pub Commented : Result Appended Full → State → Comment → State → Type 0
Commented (Ok Added) s row t = t ≡ added_to s row
Commented (Ok Dropped) s row t = Again (take s.count s.rows) row s.builder t.builder × (t.rows ≡ s.rows) × (t.count ≡ s.count)
Commented (Err full) s row t = t ≡ s

-- what a call answers by what came of its row: a refusal only where there is no room
abbrev pub answer_of : Refusal → Result Appended Full → Result (Unit {0}) Refusal
answer_of refusal (Ok appended) = Ok tt
answer_of refusal (Err full) = Err refusal

abbrev pub outcome_of : State → Comment → Result Appended Full
outcome_of s row = outcome (λ (c : Comment). c.start) s.rows s.count row

-- the row that a comment is first put on record with
abbrev pub row_for : List ℕ → TriviaBuilder → ℕ → ℕ → CommentKind → Comment
row_for text b start end kind = new_row b start end kind (class_of (block_kind kind) (content_bytes text start end kind))

-- a comment handed to the builder: refused if it does not fit the text, else by what comes of its row
pub record Handed (text : List ℕ) (s : State) (start end : ℕ) (kind : CommentKind) (answer : Result (Unit {0}) Refusal) (t : State) : Type 0 where
  pub bad : (Fits text start end kind → ⊥) → (answer ≡ Err BadComment) × (t ≡ s)
  pub good : Fits text start end kind → (answer ≡ answer_of CommentsFull (outcome_of s (row_for text s.builder start end kind))) × Commented (outcome_of s (row_for text s.builder start end kind)) s (row_for text s.builder start end kind) t

-- what comes of an irregular space's row
abbrev pub space_outcome : List Span → ℕ → Span → Result Appended Full
space_outcome rows count row = outcome (λ (s : Span). s.start) rows count row
