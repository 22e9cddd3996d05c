-- The class of a comment by the bytes of its content, which is the comment without its opening two bytes and, in a block, its closing two.
use Rattle.std.specs.Prelude.{ℕ, Bool, true, false, cond, ◌&&◌, ◌||◌, List, [], ◌∷◌, reverse, length, drop, codes, ◌==◌, nat_eq, nat_le, slice_index}
use Rattle.std.proofs.Math.Utf8.{encodes}
use Rattle.std.specs.Char.{is_whitespace}
use Rattle.std.specs.List.{list_all, starts_with}
use Rattle.std.specs.Str.{chars, bytes_eq}
use Rattle.comments.specs.declared.comment.CommentContent.{CommentContent}
use Rattle.comments.specs.declared.comment.CommentContent.TheVariants.{None, Legal, Jsdoc, JsdocLegal, PureNotApplied, NoSideEffectsNotApplied, PropertyKey, Webpack, Vite, Turbopack, CoverageIgnore, CoverageIgnoreFile}

-- the word stands at the front of the bytes
abbrev pub begins : List ℕ → List ℕ → Bool
begins word bytes = starts_with nat_eq bytes word

-- the word stands anywhere in the bytes
abbrev pub holds : List ℕ → List ℕ → Bool
holds word [] = begins word []
holds word (b ∷ bytes) = begins word (b ∷ bytes) || holds word bytes

-- a word that asks to keep the comment stands at the front of the bytes,
abbrev pub license_ahead : List ℕ → Bool
license_ahead bytes = begins (codes "@license") bytes || begins (codes "@preserve") bytes

-- or anywhere in them
abbrev pub licensed : List ℕ → Bool
licensed bytes = holds (codes "@license") bytes || holds (codes "@preserve") bytes

abbrev pub empty : List ℕ → Bool
empty [] = true
empty (b ∷ bytes) = false

-- each byte is `*`
abbrev pub stars : List ℕ → Bool
stars bytes = list_all (λ b. b == 42) bytes

-- space, tab, line feed, form feed, carriage return
abbrev pub blank : ℕ → Bool
blank b = b == 32 || (b == 9 || (b == 10 || (b == 12 || b == 13)))

-- an ASCII capital
abbrev pub capital : ℕ → Bool
capital b = nat_le 65 b && nat_le b 90

-- what follows the longest front that passes a test
abbrev pub past : (ℕ → Bool) → List ℕ → List ℕ
past p [] = []
past p (x ∷ xs) = cond (p x) (past p xs) (x ∷ xs)

abbrev pub skip_blanks : List ℕ → List ℕ
skip_blanks bytes = past blank bytes

-- code points without the White_Space at both ends
abbrev pub dark_middle : List ℕ → List ℕ
dark_middle points = reverse (past is_whitespace (reverse (past is_whitespace points)))

-- a text without it
unfoldable pub trimmed : List ℕ → List ℕ
trimmed bytes = encodes (dark_middle (chars bytes))

abbrev pub key : List ℕ → Bool
key word = bytes_eq word (codes "@__KEY__") || bytes_eq word (codes "#__KEY__")

-- between White_Space the content is just a key
abbrev pub property_key : List ℕ → Bool
property_key bytes = key (trimmed bytes)

-- the two bytes that an annotation can begin with, `@` and `#`
abbrev pub mark : ℕ → Bool
mark b = b == 64 || b == 35

-- a mark, and then the word
abbrev pub marked : List ℕ → List ℕ → Bool
marked word bytes = mark (slice_index bytes 0) && begins word (drop 1 bytes)

-- a property key may stand here: the key itself, or a code point past ASCII, which may be White_Space before it
abbrev pub key_ahead : List ℕ → Bool
key_ahead bytes = marked (codes "__KEY__") bytes || nat_le 128 (slice_index bytes 0)

-- what stands past a word at the front of the bytes
abbrev pub after : List ℕ → List ℕ → List ℕ
after word bytes = drop (length word) bytes

-- the word, and then an ASCII capital
abbrev pub capital_after : List ℕ → List ℕ → Bool
capital_after word bytes = begins word bytes && capital (slice_index (after word bytes) 0)

-- the word, and then a blank or the end
abbrev pub directive : List ℕ → List ℕ → Bool
directive word bytes = begins word bytes && (empty (after word bytes) || blank (slice_index (after word bytes) 0))

abbrev pub coverage_ignore : List ℕ → Bool
coverage_ignore bytes = begins (codes "v8 ignore") bytes || (begins (codes "c8 ignore") bytes || (begins (codes "node:coverage") bytes || begins (codes "istanbul ignore") bytes))

abbrev pub coverage_ignore_file : List ℕ → Bool
coverage_ignore_file bytes = directive (codes "v8 ignore file") bytes || directive (codes "istanbul ignore file") bytes

-- the class of the first rule that fits, or else the other
abbrev pub first_of : List (Bool × CommentContent) → CommentContent → CommentContent
first_of [] other = other
first_of (rule ∷ rules) other = cond rule.0 rule.1 (first_of rules other)

-- a block whose content begins with `*`
abbrev pub starred : Bool → List ℕ → Bool
starred block bytes = block && begins (codes "*") bytes

-- its class; a row of stars documents nothing
abbrev pub star_class : List ℕ → CommentContent
star_class bytes = first_of ((stars bytes, None) ∷ (licensed bytes, JsdocLegal) ∷ []) Jsdoc

-- the class that a word at the front of the rest gives, or else a license word anywhere in the content
abbrev pub word_class : List ℕ → List ℕ → CommentContent
word_class bytes rest = first_of (
    (bytes_eq rest (codes "@"), None)
    ∷ (begins (codes "@vite") rest, Vite)
    ∷ (license_ahead rest, Legal)
    ∷ (capital_after (codes "webpack") rest, Webpack)
    ∷ (capital_after (codes "turbopack") rest, Turbopack)
    ∷ (coverage_ignore_file rest, CoverageIgnoreFile)
    ∷ (coverage_ignore rest, CoverageIgnore)
    ∷ (marked (codes "__PURE__") rest, PureNotApplied)
    ∷ (marked (codes "__NO_SIDE_EFFECTS__") rest, NoSideEffectsNotApplied)
    ∷ (licensed bytes, Legal)
    ∷ []) None

-- the class that the rest gives, which is what stands past the leading blanks of the content
unfoldable pub rest_class : List ℕ → List ℕ → CommentContent
rest_class bytes rest = first_of (
    (empty rest, None)
    ∷ (key_ahead rest && property_key bytes, PropertyKey)
    ∷ []) (word_class bytes rest)

-- the class of a comment, a block or not, by the bytes of its content: the first rule that fits decides
unfoldable pub class_of : Bool → List ℕ → CommentContent
class_of block bytes = first_of (
    (empty bytes, None)
    ∷ (begins (codes "!") bytes, Legal)
    ∷ (starred block bytes, star_class bytes)
    ∷ []) (rest_class bytes (skip_blanks bytes))
