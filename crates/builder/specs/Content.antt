-- The content of a comment that is handed to the builder.
use Rattle.std.specs.Prelude.{◌≡◌, ℕ, ◌+◌, ◌-◌, ◌≤◌, cond, List, length, take, drop, Some, None, Option}
use Rattle.std.specs.Borrow.{Bor}
use Rattle.std.specs.Str.{IsCharBoundary}
use Rattle.comments.specs.declared.comment.CommentKind.{CommentKind}
use Rattle.comments.specs.Rows.{line_kind}

-- the fewest bytes of a comment: its opening, and a block's closing
abbrev pub shortest : CommentKind → ℕ
shortest kind = cond (line_kind kind) 2 4

-- how many bytes close it
abbrev pub closing : CommentKind → ℕ
closing kind = cond (line_kind kind) 0 2

-- the comment lies in the text, is long enough, and its content may be cut out
pub record Fits (text : List ℕ) (start end : ℕ) (kind : CommentKind) : Type 0 where
  pub inside : end ≤ length text
  pub long : start + shortest kind ≤ end
  pub opens : IsCharBoundary text (start + 2)
  pub closes : IsCharBoundary text (end - closing kind)

abbrev pub content_bytes : List ℕ → ℕ → ℕ → CommentKind → List ℕ
content_bytes text start end kind = take (end - closing kind - (start + 2)) (drop (start + 2) text)

abbrev pub ContentIs : List ℕ → ℕ → ℕ → CommentKind → Option (Bor (List ℕ)) → Type 0
ContentIs text start end kind None = Fits text start end kind → ⊥
ContentIs text start end kind (Some part) = Fits text start end kind × (part.now ≡ content_bytes text start end kind)
