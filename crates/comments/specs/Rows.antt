-- The kinds, positions and classes of comments by number, and what is asked of a kind and of a class.
use Rattle.std.specs.Prelude.{ℕ, Bool, true, false}
use Rattle.comments.specs.declared.comment.CommentKind.{CommentKind}
use Rattle.comments.specs.declared.comment.CommentKind.TheVariants.{Line, SingleLineBlock, MultiLineBlock}
use Rattle.comments.specs.declared.comment.CommentPosition.{CommentPosition}
use Rattle.comments.specs.declared.comment.CommentPosition.TheVariants.{Leading, Trailing}
use Rattle.comments.specs.declared.comment.CommentContent.{CommentContent}
use Rattle.comments.specs.declared.comment.CommentContent.TheVariants.{None, Legal, Jsdoc, JsdocLegal, Pure, PureNotApplied, NoSideEffects, NoSideEffectsNotApplied, PropertyKey, Webpack, Vite, Turbopack, CoverageIgnore, CoverageIgnoreFile}

abbrev pub kind_number : CommentKind → ℕ
kind_number Line = 0
kind_number SingleLineBlock = 1
kind_number MultiLineBlock = 2

abbrev pub position_number : CommentPosition → ℕ
position_number Leading = 0
position_number Trailing = 1

abbrev pub content_number : CommentContent → ℕ
content_number None = 0
content_number Legal = 1
content_number Jsdoc = 2
content_number JsdocLegal = 3
content_number Pure = 4
content_number PureNotApplied = 5
content_number NoSideEffects = 6
content_number NoSideEffectsNotApplied = 7
content_number PropertyKey = 8
content_number Webpack = 9
content_number Vite = 10
content_number Turbopack = 11
content_number CoverageIgnore = 12
content_number CoverageIgnoreFile = 13

abbrev pub line_kind : CommentKind → Bool
line_kind Line = true
line_kind SingleLineBlock = false
line_kind MultiLineBlock = false

abbrev pub block_kind : CommentKind → Bool
block_kind Line = false
block_kind SingleLineBlock = true
block_kind MultiLineBlock = true

-- a comment of this class speaks of what follows it: by itself it does not go back to the token before
abbrev pub stays_leading : CommentContent → Bool
stays_leading None = false
stays_leading Legal = true
stays_leading Jsdoc = false
stays_leading JsdocLegal = true
stays_leading Pure = true
stays_leading PureNotApplied = true
stays_leading NoSideEffects = true
stays_leading NoSideEffectsNotApplied = true
stays_leading PropertyKey = true
stays_leading Webpack = false
stays_leading Vite = false
stays_leading Turbopack = false
stays_leading CoverageIgnore = false
stays_leading CoverageIgnoreFile = false
