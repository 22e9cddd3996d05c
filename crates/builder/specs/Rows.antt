-- How waiting comment rows are attached.
use Rattle.std.specs.Prelude.{ℕ, zero, suc, ◌-◌, Bool, true, false, cond, not, ◌&&◌, List, [], ◌∷◌, length, get_or, ◌==◌, nat_le, slice_index_or, slice_set}
use Rattle.comments.specs.declared.comment.Comment.{Comment}
use Rattle.comments.specs.declared.comment.CommentKind.TheVariants.{Line}
use Rattle.comments.specs.declared.comment.CommentPosition.{CommentPosition}
use Rattle.comments.specs.declared.comment.CommentPosition.TheVariants.{Leading, Trailing}
use Rattle.comments.specs.declared.comment.CommentContent.TheVariants.{None}
use Rattle.comments.specs.Rows.{stays_leading}
use Rattle.builder.specs.declared.rows.Attachment.{Attachment}
use Rattle.builder.specs.declared.rows.Attachment.TheVariants.{ToPrevious, ToEither, ToNext}

-- a row with another position and target
abbrev pub placed_row : Comment → CommentPosition → ℕ → Comment
placed_row row position target = record row { position = position; attached_to = target }

-- no line break before it, and its class does not keep it with the next token
abbrev pub may_go_back : Comment → Bool
may_go_back row = not row.preceded_by_newline && not (stays_leading row.content)

abbrev pub attached_row : Attachment → Comment → Comment
attached_row (ToPrevious end) row = placed_row row Trailing end
attached_row (ToEither end start) row = cond (may_go_back row) (placed_row row Trailing end) (placed_row row Leading start)
attached_row (ToNext start) row = placed_row row Leading start

-- a change of each row from one index to another
abbrev pub over : {R : Type 0} → (R → R) → ℕ → ℕ → List R → List R
over f from zero rows = rows
over f from (suc to) [] = []
over f zero (suc to) (r ∷ rs) = f r ∷ over f zero to rs
over f (suc from) (suc to) (r ∷ rs) = r ∷ over f from to rs

-- a row with newline-after set
abbrev pub followed : Comment → Comment
followed row = record row { followed_by_newline = true }

-- the row that is read where there is none
abbrev pub no_comment : Comment
no_comment = record { start = 0; end = 0; kind = Line; content = None; position = Leading; attached_to = 0; preceded_by_newline = false; followed_by_newline = false }

-- the last of the first `count` rows has newline-after set
abbrev pub last_followed : List Comment → ℕ → List Comment
last_followed rows count = cond (count == 0) rows (cond (nat_le count (length rows)) (slice_set rows (count - 1) (followed (slice_index_or rows (count - 1) no_comment))) rows)

-- the last of the rows on record stays leading; where there is none, nothing leaves
abbrev pub last_stays : List Comment → Bool
last_stays kept = cond (length kept == 0) true (stays_leading (get_or kept (length kept - 1) no_comment).content)
