-- What a reader and its tables hold.
use Rattle.std.specs.Prelude.{◌≡◌, ℕ, ◌-◌, ◌<◌, ◌≤◌, Bool, false, List, [], length, None, Ok, Err, IsUtf8, Option, Result, ◌==◌}
use Rattle.std.specs.Str.{IsCharBoundary}
use Rattle.kinds.specs.Kinds.{number_of}
use Rattle.refusals.specs.declared.Refusal.{Refusal}
use Rattle.source.specs.Rfc3629.{Utf8Octets}
use Rattle.source.specs.View.{text_of, place_of}
use Rattle.table.specs.declared.Appended.{Appended}
use Rattle.table.specs.declared.Full.{Full}
use Rattle.table.specs.declared.Table.{Table}
use Rattle.table.specs.View.{rows_of, count_of}
use Rattle.table.specs.Order.{starts, last_start, outcome, rows_with, count_with}
use Rattle.comments.specs.declared.comment.Comment.{Comment}
use Rattle.builder.specs.declared.span.Span.{Span}
use Rattle.builder.specs.declared.state.TriviaBuilder.{TriviaBuilder}
use Rattle.builder.specs.Building.{opened, with_ranges, token_to}
use Rattle.scanner.specs.declared.gap.GapMeasure.{GapMeasure}
use Rattle.scanner.specs.Gaps.{gap_from, measured}
use Rattle.tokens.specs.Telling.{Telling}
use Rattle.reader.specs.declared.OpenError.TheVariants.{TooLong, NotUtf8}
use Rattle.reader.specs.declared.Reader.{Reader}
use Rattle.reader.specs.declared.tables.Tables.{Tables}
use Rattle.reader.specs.declared.token_row.Found.{Found}
use Rattle.reader.specs.declared.token_row.TokenRow.{TokenRow}
use Rattle.reader.specs.Feeding.{FedState, fed_state, stated, Fed}
use Rattle.reader.specs.Reading.{token_after, fitting, verdict}

abbrev pub comment_start : Comment → ℕ
comment_start c = c.start

abbrev pub span_start : Span → ℕ
span_start s = s.start

-- where the last row of a table starts, if there is one; a row is new if it starts after that
abbrev pub last_in : {R : Type 0} → (R → ℕ) → Table R → Option ℕ
last_in from t = last_start (starts from (rows_of t) (count_of t))

-- the text of a reader, and the place that it has reached
abbrev pub reader_text : Reader → List ℕ
reader_text r = text_of r.source

abbrev pub reader_place : Reader → ℕ
reader_place r = place_of r.source

-- how many rows more a table has room for
abbrev pub room_of : {R : Type 0} → Table R → ℕ
room_of t = length (rows_of t) - count_of t

-- the gap that a reader stands before, with what of it is new to the tables
abbrev pub gap_before : Reader → Tables → GapMeasure
gap_before r t = measured (last_in comment_start t.comments) (last_in span_start t.spaces) (gap_from (reader_text r) (reader_place r))

-- what reading a token comes to, of a token reader that says yes or no to `#!` and tells so
abbrev pub reading : Bool → Telling → Reader → Tables → Result Found Refusal
reading banged tell r t =
    verdict r.opening r.ended (fitting (gap_before r t) (room_of t.comments) (room_of t.spaces) (room_of t.tokens) (token_after banged tell (reader_text r) (gap_before r t)))

-- how a reader was opened: longer than the limit, not UTF-8, or on the text as given
pub record Opened (bytes : List ℕ) (limit : ℕ) (r : Reader) : Type 0 where
  pub long : (limit < length bytes → (r.opening ≡ Err TooLong) × (reader_text r ≡ []))
  pub wrong : (length bytes ≤ limit → (IsUtf8 bytes → ⊥) → (r.opening ≡ Err NotUtf8) × (reader_text r ≡ []))
  pub fine : (length bytes ≤ limit → IsUtf8 bytes → (r.opening ≡ Ok tt) × (reader_text r ≡ bytes))
  pub start : (reader_place r ≡ 0) × (r.builder ≡ opened) × (r.ended ≡ false)

-- bytes that are not too many are opened exactly if they are UTF-8 by RFC 3629's syntax
pub record OpenedOctets (bytes : List ℕ) (limit : ℕ) (r : Reader) : Type 0 where
  pub wrong : length bytes ≤ limit → (Utf8Octets bytes → ⊥) → (r.opening ≡ Err NotUtf8) × (reader_text r ≡ [])
  pub fine : length bytes ≤ limit → Utf8Octets bytes → (r.opening ≡ Ok tt) × (reader_text r ≡ bytes)

-- the row of a token, with the ranges that the builder holds
abbrev pub row_of : Found → TriviaBuilder → TokenRow
row_of f b = record { token = f.token; pure_comments = b.pure_comments; no_side_effects_comments = b.no_side_effects_comments; unterminated = f.unterminated }

abbrev pub token_outcome : Table TokenRow → TokenRow → Result Appended Full
token_outcome t row = outcome (λ (r : TokenRow). r.token.start) (rows_of t) (count_of t) row

-- the builder of a reader with its tables, both ranges emptied
abbrev pub state_before : Reader → Tables → FedState
state_before r t = fed_state (with_ranges r.builder None None) t

-- the pieces of the gap, in their order, and then the token are fed to the builder
abbrev pub FedToken : Found → Reader → Reader → Tables → Tables → Type 0
FedToken f r r' t t' = (m : FedState) × Fed (reader_text r) (reader_place r) (state_before r t) m × (fed_state r'.builder t' ≡ stated (token_to m.state f.token) m)

-- a token was taken: its gap and it are fed to the builder, its row is appended, and the reader goes on after it
pub record Taken (f : Found) (r r' : Reader) (t t' : Tables) : Type 0 where
  pub opening : r'.opening ≡ r.opening
  pub text : r'.source.text ≡ r.source.text
  pub place : IsCharBoundary (reader_text r) f.token.end → reader_place r' ≡ f.token.end
  pub ended : r'.ended ≡ (number_of f.token.kind == 0)
  pub fed : FedToken f r r' t t'
  pub rows : rows_of t'.tokens ≡ rows_with (token_outcome t.tokens (row_of f r'.builder)) (rows_of t.tokens) (count_of t.tokens) (row_of f r'.builder)
  pub count : count_of t'.tokens ≡ count_with (token_outcome t.tokens (row_of f r'.builder)) (count_of t.tokens)

-- what a reading leaves behind: at a refusal all is as it was
abbrev pub ReadTo : Result Found Refusal → Reader → Reader → Tables → Tables → Type 0
ReadTo (Ok f) r r' t t' = Taken f r r' t t'
ReadTo (Err e) r r' t t' = (r' ≡ r) × (t' ≡ t)

-- the rows are lent by whom they were
abbrev pub SameLenders : Tables → Tables → Type 0
SameLenders t t' = (t'.tokens.rows.ghost_name ≡ t.tokens.rows.ghost_name) × (t'.comments.rows.ghost_name ≡ t.comments.rows.ghost_name) × (t'.spaces.rows.ghost_name ≡ t.spaces.rows.ghost_name)
