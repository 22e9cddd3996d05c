-- The rules of classing in their order, each with the condition under which it fits: the first that fits decides.
use Rattle.std.specs.Prelude.{◌≡◌, ℕ, ◌≤◌, Bool, true, ◌⊎◌, List, [], ◌∷◌, ◌++◌, codes}
use Rattle.std.proofs.Math.Utf8.{encodes}
use Rattle.std.specs.Int.{IsInRange}
use Rattle.std.specs.List.{AllByRecursion}
use Rattle.comments.specs.declared.comment.CommentContent.{CommentContent}
use Rattle.comments.specs.declared.comment.CommentContent.TheVariants.{None, Legal, Jsdoc, JsdocLegal, PureNotApplied, NoSideEffectsNotApplied, PropertyKey, Webpack, Vite, Turbopack, CoverageIgnore, CoverageIgnoreFile}

-- there is a first element, and the property holds of it
abbrev pub First : (ℕ → Type 0) → List ℕ → Type 0
First P xs = (x : ℕ) × (after : List ℕ) × (xs ≡ x ∷ after) × P x

-- there is a last element, and the property holds of it
abbrev pub Last : (ℕ → Type 0) → List ℕ → Type 0
Last P xs = (before : List ℕ) × (x : ℕ) × (xs ≡ before ++ (x ∷ [])) × P x

-- the rest is what is left once the elements at the front that have the property are skipped
abbrev pub Past : (ℕ → Type 0) → List ℕ → List ℕ → Type 0
Past P xs rest = (front : List ℕ) × (xs ≡ front ++ rest) × AllByRecursion P front × (First P rest → ⊥)

-- the middle is what is left once the elements at both ends that have the property are skipped
abbrev pub Middle : (ℕ → Type 0) → List ℕ → List ℕ → Type 0
Middle P xs middle = (front : List ℕ) × (back : List ℕ) × (xs ≡ front ++ (middle ++ back)) × AllByRecursion P front × AllByRecursion P back × (First P middle → ⊥) × (Last P middle → ⊥)

-- the bytes begin with the word
abbrev pub Begins : List ℕ → List ℕ → Type 0
Begins word bytes = (after : List ℕ) × (bytes ≡ word ++ after)

-- the bytes begin with the word, and the property holds of what follows it
abbrev pub BeginsThen : List ℕ → (List ℕ → Type 0) → List ℕ → Type 0
BeginsThen word Q bytes = (after : List ℕ) × (bytes ≡ word ++ after) × Q after

-- the word stands anywhere in the bytes
abbrev pub Holds : List ℕ → List ℕ → Type 0
Holds word bytes = (before : List ℕ) × (after : List ℕ) × (bytes ≡ before ++ (word ++ after))

-- a content that asks to be kept
abbrev pub Licensed : List ℕ → Type 0
Licensed content = Holds (codes "@license") content ⊎ Holds (codes "@preserve") content

-- space, tab, line feed, form feed, carriage return
abbrev pub Blank : ℕ → Type 0
Blank b = (b ≡ 0x20) ⊎ (b ≡ 0x09) ⊎ (b ≡ 0x0A) ⊎ (b ≡ 0x0C) ⊎ (b ≡ 0x0D)

-- A to Z
abbrev pub Capital : ℕ → Type 0
Capital b = IsInRange 0x41 0x5A b

-- a code point that has Unicode's White_Space
abbrev pub WhiteSpace : ℕ → Type 0
WhiteSpace c = IsInRange 0x0009 0x000D c ⊎ (c ≡ 0x0020) ⊎ (c ≡ 0x0085) ⊎ (c ≡ 0x00A0) ⊎ (c ≡ 0x1680) ⊎ IsInRange 0x2000 0x200A c ⊎ (c ≡ 0x2028) ⊎ (c ≡ 0x2029) ⊎ (c ≡ 0x202F) ⊎ (c ≡ 0x205F) ⊎ (c ≡ 0x3000)

-- the word is the content, which is UTF-8, without the White_Space at both its ends
abbrev pub TrimmedOf : List ℕ → List ℕ → Type 0
TrimmedOf content word = (points : List ℕ) × (middle : List ℕ) × (content ≡ encodes points) × (word ≡ encodes middle) × Middle WhiteSpace points middle

-- a block whose content begins with `*`
abbrev pub Starred : Bool → List ℕ → Type 0
Starred block content = (block ≡ true) × Begins (codes "*") content

-- a property key may stand here: the key itself, or a code point past ASCII, which may be White_Space before it
abbrev pub KeyAhead : List ℕ → Type 0
KeyAhead rest = Begins (codes "@__KEY__") rest ⊎ Begins (codes "#__KEY__") rest ⊎ First (λ b. 128 ≤ b) rest

-- between White_Space the content is just a key
abbrev pub JustKey : List ℕ → Type 0
JustKey content = TrimmedOf content (codes "@__KEY__") ⊎ TrimmedOf content (codes "#__KEY__")

-- a blank follows, or nothing does
abbrev pub BlankOrEnd : List ℕ → Type 0
BlankOrEnd after = (after ≡ []) ⊎ First Blank after

-- the conditions with their classes, over whether the comment is a block, its content and the rest of that
abbrev pub rules : Bool → List ℕ → List ℕ → List (Type 0 × CommentContent)
rules block content rest =
    -- 1: the content is empty, or its first byte is `!`
    (content ≡ [], None)
    ∷ (Begins (codes "!") content, Legal)
    -- 2: a block whose content begins with `*`
    ∷ (Starred block content × AllByRecursion (λ b. b ≡ 0x2A) content, None)
    ∷ (Starred block content × Licensed content, JsdocLegal)
    ∷ (Starred block content, Jsdoc)
    -- 3 and 4: nothing but blanks, and a property key
    ∷ (rest ≡ [], None)
    ∷ (KeyAhead rest × JustKey content, PropertyKey)
    -- 5 to 8: a word at the front of the rest
    ∷ (rest ≡ codes "@", None)
    ∷ (Begins (codes "@vite") rest, Vite)
    ∷ (Begins (codes "@license") rest ⊎ Begins (codes "@preserve") rest, Legal)
    ∷ (BeginsThen (codes "webpack") (First Capital) rest, Webpack)
    ∷ (BeginsThen (codes "turbopack") (First Capital) rest, Turbopack)
    ∷ (BeginsThen (codes "v8 ignore file") BlankOrEnd rest ⊎ BeginsThen (codes "istanbul ignore file") BlankOrEnd rest, CoverageIgnoreFile)
    ∷ (Begins (codes "v8 ignore") rest ⊎ Begins (codes "c8 ignore") rest ⊎ Begins (codes "node:coverage") rest ⊎ Begins (codes "istanbul ignore") rest, CoverageIgnore)
    ∷ (Begins (codes "@__PURE__") rest ⊎ Begins (codes "#__PURE__") rest, PureNotApplied)
    ∷ (Begins (codes "@__NO_SIDE_EFFECTS__") rest ⊎ Begins (codes "#__NO_SIDE_EFFECTS__") rest, NoSideEffectsNotApplied)
    -- 9: a license word anywhere
    ∷ (Licensed content, Legal)
    ∷ []

-- the class is that of the first rule that fits, or else the other
abbrev pub Decided : List (Type 0 × CommentContent) → CommentContent → CommentContent → Type 0
Decided [] other class = class ≡ other
Decided (rule ∷ later) other class = (rule.0 × (class ≡ rule.1)) ⊎ ((rule.0 → ⊥) × Decided later other class)

-- the class of a comment, a block or not, by the bytes of its content: where no rule fits it is None
unfoldable pub ClassedBy : Bool → List ℕ → CommentContent → Type 0
ClassedBy block content class = (rest : List ℕ) × Past Blank content rest × Decided (rules block content rest) None class
