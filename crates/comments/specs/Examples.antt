-- Contents with their classes, worked out by hand.
use Rattle.std.specs.Prelude.{◌≡◌, ℕ, Bool, true, false, List, [], ◌∷◌, ◌++◌, map, codes}
use Rattle.std.proofs.Math.Utf8.{encodes}
use Rattle.comments.specs.declared.comment.CommentContent.{CommentContent}
use Rattle.comments.specs.declared.comment.CommentContent.TheVariants.{None, Legal, Jsdoc, JsdocLegal, PureNotApplied, NoSideEffectsNotApplied, PropertyKey, Webpack, Vite, Turbopack, CoverageIgnore, CoverageIgnoreFile}
use Rattle.comments.specs.Classing.{class_of}

pub record Example : Type 0 where
  pub block : Bool
  pub content : List ℕ
  pub class : CommentContent

abbrev line : List ℕ → CommentContent → Example
line points class = record { block = false; content = encodes points; class = class }

abbrev block : List ℕ → CommentContent → Example
block points class = record { block = true; content = encodes points; class = class }

abbrev pub examples : List Example
examples =
    line (codes "") None
    ∷ line (codes "! x") Legal
    ∷ block (codes "*") None
    ∷ block (codes "**") None
    ∷ block (codes "* @preserve") JsdocLegal
    ∷ block (codes "* x") Jsdoc
    ∷ line (codes "* x") None
    ∷ block (codes " @__PURE__ ") PureNotApplied
    ∷ block (codes "#__PURE__") PureNotApplied
    ∷ block (codes "#__NO_SIDE_EFFECTS__") NoSideEffectsNotApplied
    ∷ block (codes " @__KEY__ ") PropertyKey
    ∷ block (codes "@__KEY__ x") None
    ∷ block (0xA0 ∷ (codes "@__KEY__" ++ (0x85 ∷ []))) PropertyKey
    ∷ block (0x0B ∷ codes "@__KEY__") None
    ∷ block (codes "@__KEY__" ++ (0x0B ∷ [])) PropertyKey
    ∷ block (0xFEFF ∷ codes "@__KEY__") None
    ∷ line (codes "@") None
    ∷ block (codes "@vitex") Vite
    ∷ line (codes "@license") Legal
    ∷ line (codes "x @license") Legal
    ∷ block (codes "webpackX") Webpack
    ∷ block (codes "webpackx") None
    ∷ block (codes "turbopackA") Turbopack
    ∷ block (codes " c8 ignore file ") CoverageIgnore
    ∷ line (codes "v8 ignore file") CoverageIgnoreFile
    ∷ line (codes "v8 ignore files") CoverageIgnore
    ∷ line (codes "istanbul ignore file" ++ (0x09 ∷ [])) CoverageIgnoreFile
    ∷ line (codes "node:coverage") CoverageIgnore
    ∷ []

-- each content has its class
abbrev pub Classed : Type 0
Classed = map (λ (e : Example). class_of e.block e.content) examples ≡ map (λ (e : Example). e.class) examples
