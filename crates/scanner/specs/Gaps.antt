-- The gap at a place, piece by piece, and what is measured of it.
use Rattle.std.specs.Prelude.{ℕ, zero, suc, ◌+◌, ◌-◌, Bool, true, false, cond, ◌&&◌, ◌||◌, List, [], ◌∷◌, length, is_some, Some, None, Option, nat_lt}
use Rattle.std.specs.Option.{unwrap_or}
use Rattle.scanner.specs.declared.gap.GapMeasure.{GapMeasure}
use Rattle.scanner.specs.Ecma.{Shape, space, newline, irregular_space, irregular_newline, line, block, Standing, piece, unterminated, nothing, Placed, Gap}
use Rattle.scanner.specs.Pieces.{piece_at}

-- on by what stands at a place
abbrev pub gap_by : Standing → (ℕ → Gap) → ℕ → Gap
gap_by (piece start end shape) go at = record { pieces = record { start = start; end = end; shape = shape } ∷ (go end).pieces; end = (go end).end; unended = (go end).unended }
gap_by (unterminated multi) go at = record { pieces = []; end = at; unended = Some multi }
gap_by nothing go at = record { pieces = []; end = at; unended = None }

-- at most n pieces from a place on
abbrev pub gap_on : List ℕ → ℕ → ℕ → Gap
gap_on text zero at = record { pieces = []; end = at; unended = None }
gap_on text (suc n) at = gap_by (piece_at text at) (gap_on text n) at

-- the gap at a boundary; a text has no more pieces than bytes
abbrev pub gap_from : List ℕ → ℕ → Gap
gap_from text at = gap_on text (suc (length text)) at

-- ---- what is measured

abbrev pub comment_shape : Shape → Bool
comment_shape space = false
comment_shape newline = false
comment_shape irregular_space = false
comment_shape irregular_newline = false
comment_shape (line bytes) = true
comment_shape (block multi bytes) = true

-- what is recorded as an irregular space
abbrev pub irregular_shape : Shape → Bool
irregular_shape space = false
irregular_shape newline = false
irregular_shape irregular_space = true
irregular_shape irregular_newline = true
irregular_shape (line bytes) = false
irregular_shape (block multi bytes) = false

-- a line terminator stands in the piece; a line comment swallows the one that ends it
abbrev pub newline_in : ℕ → ℕ → Shape → Bool
newline_in start end space = false
newline_in start end newline = true
newline_in start end irregular_space = false
newline_in start end irregular_newline = true
newline_in start end (line bytes) = nat_lt (length bytes) (end - start)
newline_in start end (block multi bytes) = multi

abbrev pub newline_among : List Placed → Bool
newline_among [] = false
newline_among (p ∷ pieces) = newline_in p.start p.end p.shape || newline_among pieces

-- a start lies after another, if there is one
abbrev pub after : Option ℕ → ℕ → Bool
after None start = true
after (Some last) start = nat_lt last start

abbrev pub comment_after : Option ℕ → Placed → Bool
comment_after last p = comment_shape p.shape && after last p.start

abbrev pub irregular_after : Option ℕ → Placed → Bool
irregular_after last p = irregular_shape p.shape && after last p.start

-- how many pieces pass a test
abbrev pub how_many : (Placed → Bool) → List Placed → ℕ
how_many test [] = 0
how_many test (p ∷ pieces) = cond (test p) 1 0 + how_many test pieces

-- how many comments and irregular spaces of a gap start after a place each, whether a line terminator stands in the gap or in the
-- unterminated block at its end, and whether there is such a block
abbrev pub measured : Option ℕ → Option ℕ → Gap → GapMeasure
measured last_comment last_space g = record {
  end = g.end;
  comments = how_many (comment_after last_comment) g.pieces;
  spaces = how_many (irregular_after last_space) g.pieces;
  newline = newline_among g.pieces || unwrap_or g.unended false;
  unterminated = is_some g.unended;
}

-- a measure with one piece more
abbrev pub counted : Option ℕ → Option ℕ → GapMeasure → ℕ → ℕ → Shape → GapMeasure
counted last_comment last_space g start end shape = record {
  end = end;
  comments = g.comments + cond (comment_shape shape && after last_comment start) 1 0;
  spaces = g.spaces + cond (irregular_shape shape && after last_space start) 1 0;
  newline = g.newline || newline_in start end shape;
  unterminated = false;
}

-- a measure before a block without an end
abbrev pub unended : GapMeasure → Bool → GapMeasure
unended g multi = record { end = g.end; comments = g.comments; spaces = g.spaces; newline = g.newline || multi; unterminated = true }

-- a measure that goes on with another
abbrev pub goes_on : GapMeasure → GapMeasure → GapMeasure
goes_on g more = record {
  end = more.end;
  comments = g.comments + more.comments;
  spaces = g.spaces + more.spaces;
  newline = g.newline || more.newline;
  unterminated = more.unterminated;
}
