-- What stands between tokens, in the words of ECMA-262: line terminators, white space, comments, and the gap that they make up.
use Rattle.std.specs.Prelude.{◌≡◌, ℕ, ◌+◌, ◌<◌, ◌≤◌, Bool, true, false, ◌||◌, ◌⊎◌, List, [], ◌∷◌, ◌++◌, length, drop, Some, None, Ok, Err, codes, Decides, Option, Result, ◌==◌, slice_index, slice_range}
use Rattle.std.proofs.Math.Utf8.{encode}
use Rattle.std.specs.Char.{len_utf8}
use Rattle.std.specs.Str.{IsCharBoundary}
use Rattle.source.specs.Search.{regular_whitespace}
use Rattle.source.specs.Unicode.{irregular_whitespace, irregular_line_terminator, line_terminator}
use Rattle.scanner.specs.declared.comment.Block.{Block}
use Rattle.scanner.specs.declared.comment.Unterminated.{Unterminated}

-- ---- what stands at a place

-- the text goes on at a place with these bytes
abbrev pub BytesAt : List ℕ → List ℕ → ℕ → Type 0
BytesAt word text at = (rest : List ℕ) × (drop at text ≡ word ++ rest)

-- a character of a class stands at a place: the bytes there spell it (RFC 3629)
abbrev pub OneAt : (ℕ → Bool) → List ℕ → ℕ → Type 0
OneAt class text at = (c : ℕ) × (class c ≡ true) × BytesAt (encode c) text at

-- the same, with the place after it
abbrev pub OneFrom : (ℕ → Bool) → List ℕ → ℕ → ℕ → Type 0
OneFrom class text at end = (c : ℕ) × (class c ≡ true) × BytesAt (encode c) text at × (end ≡ at + len_utf8 c)

-- the bytes from one place to another
abbrev pub cut : List ℕ → ℕ → ℕ → List ℕ
cut text from to = slice_range text from to

-- ---- line terminators

-- LineTerminator: LF, CR, LS or PS
abbrev pub LineTerminatorAt : List ℕ → ℕ → Type 0
LineTerminatorAt text at = OneAt line_terminator text at

-- one stands somewhere from one place up to another
abbrev pub LineTerminatorIn : List ℕ → ℕ → ℕ → Type 0
LineTerminatorIn text from to = (at : ℕ) × (from ≤ at) × (at < to) × LineTerminatorAt text at

-- ---- where comments and hashbang lines end

-- the line that goes on at a place ends at the first line terminator, or with the text
pub record LineEnds (text : List ℕ) (from end : ℕ) : Type 0 where
  pub onward : from ≤ end
  pub clear : LineTerminatorIn text from end → ⊥
  pub stops : (end ≡ length text) ⊎ LineTerminatorAt text end

-- a block whose content begins at a place ends after the first `*/` from there on
pub record BlockEnds (text : List ℕ) (from end : ℕ) : Type 0 where
  pub close : ℕ
  pub onward : from ≤ close
  pub shut : BytesAt (codes "*/") text close
  pub first : (at : ℕ) → from ≤ at → at < close → BytesAt (codes "*/") text at → ⊥
  pub ends : end ≡ close + 2

-- no `*/` stands from a place on
abbrev pub NeverCloses : List ℕ → ℕ → Type 0
NeverCloses text from = (at : ℕ) → from ≤ at → BytesAt (codes "*/") text at → ⊥

-- what becomes of a block whose content begins at a place: its end and whether a line terminator stands in it, or that it has no end
abbrev pub BlockIs : List ℕ → ℕ → Result Block Unterminated → Type 0
BlockIs text from (Ok b) = BlockEnds text from b.end × Decides b.multi (LineTerminatorIn text from b.end)
BlockIs text from (Err b) = NeverCloses text from × Decides b.multi (LineTerminatorIn text from (length text))

-- ---- white space

-- the WhiteSpace that is common: space and tab
abbrev pub plain_space : ℕ → Bool
plain_space c = c == 0x20 || c == 0x9

-- WhiteSpace: tab, VT, FF, ZWNBSP and the characters of the category Space_Separator
abbrev pub white_space : ℕ → Bool
white_space c = plain_space c || irregular_whitespace c

-- the line terminators that are control characters: LF and CR
abbrev pub line_break : ℕ → Bool
line_break c = c == 0xA || c == 0xD

-- the longest run of spaces, tabs, LFs and CRs from a place on
pub record RunEnds (text : List ℕ) (from end : ℕ) : Type 0 where
  pub onward : from ≤ end
  pub within : end ≤ length text
  pub each : (at : ℕ) → from ≤ at → at < end → regular_whitespace (slice_index text at) ≡ true
  pub stops : (end ≡ length text) ⊎ (regular_whitespace (slice_index text end) ≡ false)

-- ---- pieces

-- what a piece is; a comment has its bytes, and a block whether a line terminator stands in it
pub data Shape : Type 0 where
  space : Shape
  newline : Shape
  irregular_space : Shape
  irregular_newline : Shape
  line : List ℕ → Shape
  block : Bool → List ℕ → Shape

-- where the text goes on after a line comment: past the line terminator that ends it, or at the end of the text
abbrev pub LineSwallowed : List ℕ → ℕ → ℕ → Type 0
LineSwallowed text end after = ((end ≡ length text) × (after ≡ end)) ⊎ OneFrom line_terminator text end after

-- a piece of a shape stands at a place, and the text goes on at another
abbrev pub PieceIs : List ℕ → ℕ → ℕ → Shape → Type 0
PieceIs text at end space = OneFrom plain_space text at end
PieceIs text at end newline = OneAt line_break text at × RunEnds text (at + 1) end
PieceIs text at end irregular_space = OneFrom irregular_whitespace text at end
PieceIs text at end irregular_newline = OneFrom irregular_line_terminator text at end
PieceIs text at end (line bytes) = BytesAt (codes "//") text at × ((stop : ℕ) × LineEnds text (at + 2) stop × LineSwallowed text stop end × (bytes ≡ cut text at stop))
PieceIs text at end (block multi bytes) = BytesAt (codes "/*") text at × BlockIs text (at + 2) (Ok (record { end = end; multi = multi })) × (bytes ≡ cut text at end)

-- a block without an end stands at a place, with or without a line terminator in it
abbrev pub OpenBlock : List ℕ → ℕ → Bool → Type 0
OpenBlock text at multi = BytesAt (codes "/*") text at × BlockIs text (at + 2) (Err (record { multi = multi }))

-- white space or a line terminator
abbrev pub gap_character : ℕ → Bool
gap_character c = white_space c || line_terminator c

-- no piece begins at a place, and no block
pub record NoPiece (text : List ℕ) (at : ℕ) : Type 0 where
  pub no_space : OneAt gap_character text at → ⊥
  pub no_line : BytesAt (codes "//") text at → ⊥
  pub no_block : BytesAt (codes "/*") text at → ⊥

-- a piece with its start and where the text goes on, a block without an end, or neither
pub data Standing : Type 0 where
  piece : ℕ → ℕ → Shape → Standing
  unterminated : Bool → Standing
  nothing : Standing

-- what stands at a place
abbrev pub Stands : List ℕ → ℕ → Standing → Type 0
Stands text at (piece start end shape) = (start ≡ at) × PieceIs text at end shape
Stands text at (unterminated multi) = OpenBlock text at multi
Stands text at nothing = NoPiece text at

-- ---- the gap

-- a piece with its places
pub record Placed : Type 0 where
  pub start : ℕ
  pub end : ℕ
  pub shape : Shape

-- pieces one after another from a place to an end
abbrev pub Chain : List ℕ → ℕ → List Placed → ℕ → Type 0
Chain text at [] end = end ≡ at
Chain text at (p ∷ pieces) end = (p.start ≡ at) × PieceIs text at p.end p.shape × Chain text p.end pieces end

-- the pieces from a place on, where they end, and whether an unterminated block begins there, with a line terminator in it or not
pub record Gap : Type 0 where
  pub pieces : List Placed
  pub end : ℕ
  pub unended : Option Bool

-- no piece goes on at the end of a gap: an unterminated block stands there, or nothing does
abbrev pub GapStops : List ℕ → ℕ → Option Bool → Type 0
GapStops text end None = NoPiece text end
GapStops text end (Some multi) = OpenBlock text end multi

-- the gap at a place: the chain of pieces from there on, as long as possible
pub record GapIs (text : List ℕ) (at : ℕ) (g : Gap) : Type 0 where
  pub chain : Chain text at g.pieces g.end
  pub stops : GapStops text g.end g.unended

-- a piece has a length, and begins and ends between characters
pub record CutOut (text : List ℕ) (p : Placed) : Type 0 where
  pub long : p.start < p.end
  pub begins : IsCharBoundary text p.start
  pub ends : IsCharBoundary text p.end
