-- What the pieces of a gap make of the builder and its tables, one after another.
use Rattle.std.specs.Prelude.{◌≡◌, ℕ, ◌+◌, min, cond, List, [], ◌∷◌, length, Result, nat_lt}
use Rattle.refusals.specs.declared.Refusal.{Refusal}
use Rattle.table.specs.View.{rows_of, count_of}
use Rattle.table.specs.Order.{rows_with, count_with}
use Rattle.comments.specs.declared.comment.CommentKind.{CommentKind}
use Rattle.comments.specs.declared.comment.CommentKind.TheVariants.{Line}
use Rattle.builder.specs.declared.span.Span.{Span}
use Rattle.builder.specs.declared.state.TriviaBuilder.{TriviaBuilder}
use Rattle.builder.specs.Building.{State, state_of, newline_to, Handed, block_of, space_outcome}
use Rattle.scanner.specs.Ecma.{Shape, space, newline, irregular_space, irregular_newline, line, block, Placed}
use Rattle.scanner.specs.Gaps.{gap_from}
use Rattle.reader.specs.declared.tables.Tables.{Tables}

-- the builder with the comment rows, and the rows of irregular spaces
pub record FedState : Type 0 where
  pub state : State
  pub spaces : List Span
  pub space_count : ℕ

abbrev pub fed_state : TriviaBuilder → Tables → FedState
fed_state b t = record { state = state_of b t.comments; spaces = rows_of t.spaces; space_count = count_of t.spaces }

-- a place as a row holds it: places of a text are below 2 ^ 32
abbrev pub short_of : ℕ → ℕ
short_of n = cond (nat_lt n 4294967296) n 0

abbrev pub comment_end : ℕ → List ℕ → ℕ
comment_end start bytes = short_of (min (start + length bytes) 18446744073709551615)

abbrev pub span_of : ℕ → ℕ → Span
span_of start end = record { start = short_of start; end = short_of end }

-- an irregular space is put on record, unless it is there
abbrev pub spaced : ℕ → ℕ → State → FedState → FedState
spaced start end state s = record {
  state = state;
  spaces = rows_with (space_outcome s.spaces s.space_count (span_of start end)) s.spaces s.space_count (span_of start end);
  space_count = count_with (space_outcome s.spaces s.space_count (span_of start end)) s.space_count;
}

abbrev pub stated : State → FedState → FedState
stated state s = record { state = state; spaces = s.spaces; space_count = s.space_count }

-- a comment of the text is handed to the builder
pub record Noted (text : List ℕ) (start end : ℕ) (kind : CommentKind) (s t : FedState) : Type 0 where
  pub answer : Result (Unit {0}) Refusal
  pub handed : Handed text s.state start end kind answer t.state
  pub spaces : (t.spaces ≡ s.spaces) × (t.space_count ≡ s.space_count)

-- one piece
abbrev pub FedBy : List ℕ → ℕ → ℕ → Shape → FedState → FedState → Type 0
FedBy text start end space s t = t ≡ s
FedBy text start end newline s t = t ≡ stated (newline_to s.state) s
FedBy text start end irregular_space s t = t ≡ spaced start end s.state s
FedBy text start end irregular_newline s t = t ≡ spaced start end (newline_to s.state) s
FedBy text start end (line bytes) s t = Noted text (short_of start) (comment_end start bytes) Line s t
FedBy text start end (block multi bytes) s t = Noted text (short_of start) (comment_end start bytes) (block_of multi) s t

-- pieces, one after another
abbrev pub FedAll : List ℕ → List Placed → FedState → FedState → Type 0
FedAll text [] s t = t ≡ s
FedAll text (p ∷ pieces) s t = (m : FedState) × FedBy text p.start p.end p.shape s m × FedAll text pieces m t

-- all pieces of the gap at a place
abbrev pub Fed : List ℕ → ℕ → FedState → FedState → Type 0
Fed text at s t = FedAll text (gap_from text at).pieces s t
