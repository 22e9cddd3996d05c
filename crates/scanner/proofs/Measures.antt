-- One piece after another measures the whole gap.
use Rattle.std.proofs.Common.{◌≡◌, ℕ, zero, suc, ◌+◌, ◌<◌, ◌≤◌, Bool, true, false, cond, ◌&&◌, ◌||◌, List, length, MatchBool, Option, unwrap_or, sym, refl, ap, ◌∙◌, add_assoc, zero-add, arith}
use Rattle.scanner.specs.declared.gap.GapMeasure.{GapMeasure}
use Rattle.scanner.specs.Ecma.{Shape, Standing, piece, Gap}
use Rattle.scanner.specs.Pieces.{piece_at}
use Rattle.scanner.specs.Gaps.{gap_by, gap_on, gap_from, comment_shape, irregular_shape, newline_in, newline_among, after, comment_after, irregular_after, how_many, measured, counted, goes_on}

same_measure : (e c c' s s' : ℕ) (n n' u u' : Bool) → c ≡ c' → s ≡ s' → n ≡ n' → u ≡ u' → ◌≡◌ {A = GapMeasure} (record { end = e; comments = c; spaces = s; newline = n; unterminated = u }) (record { end = e; comments = c'; spaces = s'; newline = n'; unterminated = u' })
same_measure e c c' s s' n n' u u' a b d f = cc

or_join : (a b c d : Bool) → (a || ((b || c) || d)) ≡ ((a || b) || (c || d))
or_join true b c d = refl
or_join false true c d = refl
or_join false false c d = refl

abbrev pub empty_measure : ℕ → GapMeasure
empty_measure at = record { end = at; comments = 0; spaces = 0; newline = false; unterminated = false }

module _ (last_comment last_space : Option ℕ) where
  goes_start : (at : ℕ) (g : Gap) → goes_on (empty_measure at) (measured last_comment last_space g) ≡ measured last_comment last_space g
  goes_start at g = same_measure _ _ _ _ _ _ _ _ _ (zero-add _) (zero-add _) refl refl

  goes_piece : (m : GapMeasure) (start end : ℕ) (shape : Shape) (g : Gap) (go : ℕ → Gap) → go end ≡ g
      → goes_on m (measured last_comment last_space (gap_by (piece start end shape) go m.end)) ≡ goes_on (counted last_comment last_space m start end shape) (measured last_comment last_space g)
  goes_piece m start end shape g go e =
      same_measure _ _ _ _ _ _ _ _ _
      (sym (add_assoc m.comments (cond (comment_shape shape && after last_comment start) 1 0) (how_many (comment_after last_comment) (go end).pieces)))
      (sym (add_assoc m.spaces (cond (irregular_shape shape && after last_space start) 1 0) (how_many (irregular_after last_space) (go end).pieces)))
      (or_join m.newline (newline_in start end shape) (newline_among (go end).pieces) (unwrap_or (go end).unended false)) refl
      ∙ ap (λ (x : Gap). goes_on (counted last_comment last_space m start end shape) (measured last_comment last_space x)) e

  at_most : (b : Bool) → cond {A = ℕ} b 1 0 ≤ 1
  at_most true = omega arith
  at_most false = omega arith

  -- what is left to go measures the whole gap
  pub record Going (text : List ℕ) (at : ℕ) (m : GapMeasure) : Type 0 where
    pub left : ℕ
    pub enough : length text ≤ left + m.end
    pub makes : goes_on m (measured last_comment last_space (gap_on text (suc left) m.end)) ≡ measured last_comment last_space (gap_from text at)
    pub few : m.comments ≤ m.end
    pub few_spaces : m.spaces ≤ m.end
    pub plain : m.unterminated ≡ false

  module _ (text : List ℕ) (at : ℕ) where
    pub going_start : Going text at (empty_measure at)
    going_start = record { left = length text; enough = omega arith; makes = goes_start at (gap_from text at); few = omega arith; few_spaces = omega arith; plain = refl }

    more : (m : GapMeasure) (start end left : ℕ) (shape : Shape) → piece_at text m.end ≡ piece start end shape → m.end < end → end ≤ length text → length text ≤ left + m.end
        → goes_on m (measured last_comment last_space (gap_on text (suc left) m.end)) ≡ measured last_comment last_space (gap_from text at) → m.comments ≤ m.end → m.spaces ≤ m.end → Going text at (counted last_comment last_space m start end shape)
    more m start end zero shape is on within enough makes few spaces = absurd (omega arith)
    more m start end (suc left) shape is on within enough makes few spaces = record {
      left = left;
      enough = omega arith;
      makes = sym (goes_piece m start end shape (gap_on text (suc left) end) (gap_on text (suc left)) refl) ∙ sym (ap (λ (s : Standing). goes_on m (measured last_comment last_space (gap_by s (gap_on text (suc left)) m.end))) is) ∙ makes;
      few = omega (arith, at_most (comment_shape shape && after last_comment start));
      few_spaces = omega (arith, at_most (irregular_shape shape && after last_space start));
      plain = refl;
    }

    pub going_more : (m : GapMeasure) (start end : ℕ) (shape : Shape) → piece_at text m.end ≡ piece start end shape → m.end < end → end ≤ length text → Going text at m → Going text at (counted last_comment last_space m start end shape)
    going_more m start end shape is on within h = more m start end h.left shape is on within h.enough h.makes h.few h.few_spaces

-- a move to where the text may be cut succeeds
pub moves : (r : Bool) (B Q : Type 0) (place end : ℕ) → MatchBool r (B × (place ≡ end)) ((B → ⊥) × Q) → B → place ≡ end
moves true B Q place end h cut = h.1
moves false B Q place end h cut = absurd (h.0 cut)
