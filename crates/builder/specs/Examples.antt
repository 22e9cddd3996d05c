-- Readings with where their comments go, worked out by hand. A letter is an Ident, `=` is Eq, `+` is Plus.
use Rattle.std.specs.Prelude.{◌≡◌, ℕ, false, List, [], ◌∷◌, map, take, replicate}
use Rattle.kinds.specs.declared.kind.Kind.{Kind}
use Rattle.kinds.specs.declared.kind.Kind.TheVariants.{Eof, Ident, Eq, Plus}
use Rattle.comments.specs.declared.comment.Comment.{Comment}
use Rattle.comments.specs.declared.comment.CommentKind.{CommentKind}
use Rattle.comments.specs.declared.comment.CommentKind.TheVariants.{Line, SingleLineBlock}
use Rattle.comments.specs.declared.comment.CommentContent.{CommentContent}
use Rattle.comments.specs.declared.comment.CommentContent.TheVariants.{None, Legal}
use Rattle.comments.specs.declared.comment.CommentPosition.{CommentPosition}
use Rattle.comments.specs.declared.comment.CommentPosition.TheVariants.{Leading, Trailing}
use Rattle.builder.specs.Rows.{no_comment}
use Rattle.builder.specs.Building.{State, opened, new_row, added_to, newline_to, token_to}

-- what is fed to the builder
pub data Fed : Type 0 where
  comment : ℕ → ℕ → CommentKind → CommentContent → Fed
  newline : Fed
  token : Kind → ℕ → ℕ → Fed

abbrev fed_to : State → Fed → State
fed_to s (comment start end kind content) = added_to s (new_row s.builder start end kind content)
fed_to s newline = newline_to s
fed_to s (token kind start end) = token_to s (record { kind = kind; start = start; end = end; is_on_new_line = false })

abbrev all_fed : State → List Fed → State
all_fed s [] = s
all_fed s (e ∷ es) = all_fed (fed_to s e) es

-- an opened builder over four rows
abbrev fresh : State
fresh = record { builder = opened; rows = replicate 4 no_comment; count = 0 }

abbrev pub Goes : Type 0
Goes = CommentPosition × ℕ

abbrev goes : List Fed → List Goes
goes es = map (λ (c : Comment). (c.position, c.attached_to)) (take (all_fed fresh es).count (all_fed fresh es).rows)

pub record Reading : Type 0 where
  pub fed : List Fed
  pub goes_to : List Goes

abbrev pub readings : List Reading
readings =
    -- `a // x⏎b`
    record { fed = token Ident 0 1 ∷ comment 2 6 Line None ∷ token Ident 7 8 ∷ []; goes_to = (Trailing, 1) ∷ [] }
    -- `a = // x⏎b`
    ∷ record { fed = token Ident 0 1 ∷ token Eq 2 3 ∷ comment 4 8 Line None ∷ token Ident 9 10 ∷ []; goes_to = (Leading, 9) ∷ [] }
    -- `a⏎/*x*/ /*y*/ + b`
    ∷ record { fed = token Ident 0 1 ∷ newline ∷ comment 2 7 SingleLineBlock None ∷ comment 8 13 SingleLineBlock None ∷ token Plus 14 15 ∷ token Ident 16 17 ∷ []; goes_to = (Leading, 14) ∷ (Trailing, 1) ∷ [] }
    -- `a /*x*/`
    ∷ record { fed = token Ident 0 1 ∷ comment 2 7 SingleLineBlock None ∷ token Eof 7 7 ∷ []; goes_to = (Trailing, 1) ∷ [] }
    -- `a /*! l */ // x`
    ∷ record { fed = token Ident 0 1 ∷ comment 2 10 SingleLineBlock Legal ∷ comment 11 15 Line None ∷ token Eof 15 15 ∷ []; goes_to = (Trailing, 1) ∷ (Trailing, 1) ∷ [] }
    -- `a /*x*/ /*! l */⏎b`
    ∷ record { fed = token Ident 0 1 ∷ comment 2 7 SingleLineBlock None ∷ comment 8 16 SingleLineBlock Legal ∷ newline ∷ token Ident 17 18 ∷ []; goes_to = (Leading, 17) ∷ (Leading, 17) ∷ [] }
    ∷ []

-- the definitions give what was worked out
abbrev pub Attached : Type 0
Attached = map (λ (r : Reading). goes r.fed) readings ≡ map (λ (r : Reading). r.goes_to) readings
