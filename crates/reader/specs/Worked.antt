-- Readings worked out by hand, from the bytes of a text to its comment rows and its last token.
use Rattle.std.specs.Prelude.{◌≡◌, ℕ, zero, suc, ◌+◌, Bool, true, false, cond, ◌&&◌, List, [], ◌∷◌, ◌++◌, map, length, take, replicate, Some, None, codes, Option, ◌==◌, nat_le, slice_index}
use Rattle.kinds.specs.declared.kind.Kind.{Kind}
use Rattle.kinds.specs.declared.kind.Kind.TheVariants.{Eof, Ident, Eq, Plus}
use Rattle.comments.specs.declared.comment.Comment.{Comment}
use Rattle.comments.specs.declared.comment.CommentKind.{CommentKind}
use Rattle.comments.specs.declared.comment.CommentKind.TheVariants.{Line, SingleLineBlock}
use Rattle.comments.specs.declared.comment.CommentContent.{CommentContent}
use Rattle.comments.specs.declared.comment.CommentContent.TheVariants as class
use Rattle.comments.specs.declared.comment.CommentPosition.{CommentPosition}
use Rattle.comments.specs.declared.comment.CommentPosition.TheVariants.{Leading, Trailing}
use Rattle.builder.specs.Rows.{no_comment}
use Rattle.builder.specs.Building.{State, opened, row_for, added_to, newline_to, token_to, block_of}
use Rattle.scanner.specs.Ecma.{Shape, space, newline, irregular_space, irregular_newline, line, block, Placed}
use Rattle.scanner.specs.Gaps.{gap_from, measured}
use Rattle.tokens.specs.Telling.{Telling}
use Rattle.tokens.specs.Json.{told, json_telling}
use Rattle.reader.specs.declared.token_row.Found.{Found}
use Rattle.reader.specs.Reading.{found, token_after}

-- ---- a reading in order, with rows enough, as the definitions give it

abbrev fed_shape : List ℕ → State → ℕ → ℕ → Shape → State
fed_shape text s start end space = s
fed_shape text s start end newline = newline_to s
fed_shape text s start end irregular_space = s
fed_shape text s start end irregular_newline = newline_to s
fed_shape text s start end (line bytes) = added_to s (row_for text s.builder start (start + length bytes) Line)
fed_shape text s start end (block multi bytes) = added_to s (row_for text s.builder start end (block_of multi))

abbrev fed_pieces : List ℕ → State → List Placed → State
fed_pieces text s [] = s
fed_pieces text s (p ∷ pieces) = fed_pieces text (fed_shape text s p.start p.end p.shape) pieces

pub record Outcome : Type 0 where
  pub state : State
  pub place : ℕ
  pub last : Option Found

-- a token with its gap
abbrev with_token : List ℕ → Outcome → Option Found → Outcome
with_token text r None = r
with_token text r (Some f) = record { state = token_to (fed_pieces text r.state (gap_from text r.place).pieces) f.token; place = f.token.end; last = Some f }

-- so many tokens, one after another; in a reading straight on each comment and irregular space is new
abbrev read_on : Bool → Telling → List ℕ → ℕ → Outcome
read_on banged tell text zero = record { state = record { builder = opened; rows = replicate 4 no_comment; count = 0 }; place = 0; last = None }
read_on banged tell text (suc n) = with_token text (read_on banged tell text n) (token_after banged tell text (measured None None (gap_from text (read_on banged tell text n).place)))

-- ---- the readings

-- a letter is an Ident, `=` is Eq, `+` is Plus
abbrev token_of : ℕ → Option Kind
token_of b = cond (nat_le 97 b && nat_le b 122) (Some Ident) (cond (b == 61) (Some Eq) (cond (b == 43) (Some Plus) None))

abbrev letters : Telling
letters text place = told (token_of (slice_index text place)) (place + 1)

abbrev row : ℕ → ℕ → CommentKind → CommentContent → CommentPosition → ℕ → Bool → Bool → Comment
row start end kind content position target before after =
    record { start = start; end = end; kind = kind; content = content; position = position; attached_to = target; preceded_by_newline = before; followed_by_newline = after }

-- a text with how many tokens it has, the comment rows of its reading and the last token
pub record Reading : Type 0 where
  pub banged : Bool
  pub tell : Telling
  pub text : List ℕ
  pub tokens : ℕ
  pub rows : List Comment
  pub last : Found

abbrev script : List ℕ → ℕ → List Comment → Found → Reading
script text tokens rows last = record { banged = true; tell = letters; text = text; tokens = tokens; rows = rows; last = last }

abbrev settings : List ℕ → ℕ → List Comment → Found → Reading
settings text tokens rows last = record { banged = false; tell = json_telling; text = text; tokens = tokens; rows = rows; last = last }

abbrev eof : ℕ → Found
eof end = found Eof end end false false

abbrev lf : List ℕ
lf = 10 ∷ []

abbrev pub readings : List Reading
readings =
    script (codes "a // x" ++ lf ++ codes "b") 3 (row 2 6 Line class.None Trailing 1 false true ∷ []) (eof 8)
    ∷ script (codes "a = // x" ++ lf ++ codes "b") 4 (row 4 8 Line class.None Leading 9 false true ∷ []) (eof 10)
    ∷ script (codes "a" ++ lf ++ codes "/*x*/ /*y*/ + b") 4 (row 2 7 SingleLineBlock class.None Leading 14 true false ∷ row 8 13 SingleLineBlock class.None Trailing 1 false false ∷ []) (eof 17)
    ∷ script (codes "a /*x*/") 2 (row 2 7 SingleLineBlock class.None Trailing 1 false false ∷ []) (eof 7)
    ∷ script (codes "a /*! l */ // x") 2 (row 2 10 SingleLineBlock class.Legal Trailing 1 false false ∷ row 11 15 Line class.None Trailing 1 false true ∷ []) (eof 15)
    ∷ script (codes "a /*x*/ /*! l */" ++ lf ++ codes "b") 3 (row 2 7 SingleLineBlock class.None Leading 17 false false ∷ row 8 16 SingleLineBlock class.Legal Leading 17 false true ∷ []) (eof 18)
    ∷ script (codes "a /*x") 2 [] (found Eof 2 5 false true)
    ∷ script (codes "/*/") 1 [] (found Eof 0 3 false true)
    ∷ script (codes "/***/") 1 (row 0 5 SingleLineBlock class.None Leading 5 true false ∷ []) (eof 5)
    ∷ script (codes "/* c8 ignore file */") 1 (row 0 20 SingleLineBlock class.CoverageIgnore Leading 20 true false ∷ []) (eof 20)
    ∷ script (codes "#!n" ++ lf ++ codes "/*x*/ /*y*/") 2 (row 4 9 SingleLineBlock class.None Leading 15 true false ∷ row 10 15 SingleLineBlock class.None Trailing 3 false false ∷ []) (found Eof 15 15 true false)
    ∷ settings (codes "{ // lock" ++ lf ++ codes "\"a\": /*! x */ 1 }" ++ lf) 6 (row 2 9 Line class.None Trailing 1 false true ∷ row 15 23 SingleLineBlock class.Legal Leading 24 false false ∷ []) (found Eof 28 28 true false)
    ∷ []

-- the comment rows on record and the last token
pub record Left : Type 0 where
  pub rows : List Comment
  pub last : Option Found

abbrev left_of : Outcome → Left
left_of o = record { rows = take o.state.count o.state.rows; last = o.last }

-- the definitions give what was worked out
abbrev pub Worked : Type 0
Worked = map (λ (r : Reading). left_of (read_on r.banged r.tell r.text r.tokens)) readings ≡ map (λ (r : Reading). record { rows = r.rows; last = Some r.last }) readings
