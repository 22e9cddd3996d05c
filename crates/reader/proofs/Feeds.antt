-- One piece after another feeds the whole gap.
use Rattle.std.proofs.Common.{◌≡◌, ℕ, zero, suc, ◌+◌, ◌<◌, ◌≤◌, List, length, Some, None, Ok, Err, Option, Result, sym, refl, subst, arith}
use Rattle.std.specs.Result.{result_unwrap_or}
use Rattle.scanner.specs.Ecma.{Shape, Standing, piece, unterminated, nothing}
use Rattle.scanner.specs.Gaps.{gap_by, gap_on}
use Rattle.scanner.specs.Pieces.{piece_at}
use Rattle.scanner.specs.View.{piece_of, standing_of}
use Rattle.scanner.specs.declared.piece.Piece.{Piece}
use Rattle.scanner.specs.declared.comment.Unterminated.{Unterminated}
use Rattle.reader.specs.Feeding.{FedState, FedBy, FedAll, Fed}

-- what is left to feed makes the whole
pub record Feeding (text : List ℕ) (at : ℕ) (first : FedState) (now-at : ℕ) (s : FedState) : Type 0 where
  pub left : ℕ
  pub enough : length text ≤ left + now-at
  pub makes : (t : FedState) → FedAll text (gap_on text (suc left) now-at).pieces s t → Fed text at first t

module _ (text : List ℕ) (at : ℕ) (first : FedState) where
  pub feeding_start : Feeding text at first at first
  feeding_start = record { left = length text; enough = omega arith; makes = λ t h. h }

  more : (here start end left : ℕ) (shape : Shape) (s m : FedState) → piece_at text here ≡ piece start end shape → here < end → end ≤ length text → FedBy text start end shape s m → length text ≤ left + here → ((t : FedState) → FedAll text (gap_on text (suc left) here).pieces s t → Fed text at first t) → Feeding text at first end m
  more here start end zero shape s m is on within fed enough makes = absurd (omega arith)
  more here start end (suc left) shape s m is on within fed enough makes = record {
    left = left;
    enough = omega arith;
    makes = λ t h. let F : Standing → Type 0 = λ x. FedAll text (gap_by x (gap_on text (suc left)) here).pieces s t in makes t (subst F (sym is) (m, fed, h));
  }

  pub feeding_more : (here start end : ℕ) (shape : Shape) (s m : FedState) → piece_at text here ≡ piece start end shape → here < end → end ≤ length text → FedBy text start end shape s m → Feeding text at first here s → Feeding text at first end m
  feeding_more here start end shape s m is on within fed h = more here start end h.left shape s m is on within fed h.enough h.makes

  pub feeding_ends : (here : ℕ) (s : FedState) (x : Standing) → piece_at text here ≡ x → ((start end : ℕ) (shape : Shape) → x ≡ piece start end shape → ⊥) → Feeding text at first here s → Fed text at first s
  feeding_ends here s x is none h = let F : Standing → Type 0 = λ y. FedAll text (gap_by y (gap_on text h.left) here).pieces s s in h.makes s (subst F (sym is) (ends x none))
    where
      ends : (x : Standing) → ((start end : ℕ) (shape : Shape) → x ≡ piece start end shape → ⊥) → FedAll text (gap_by x (gap_on text h.left) here).pieces s s
      ends (piece start end shape) none = absurd (none start end shape refl)
      ends (unterminated multi) none = refl
      ends nothing none = refl

-- the piece that was found, and that none was
pub some_piece : (r : Result (Option Piece) Unterminated) (p : Piece) → Some p ≡ result_unwrap_or r None → standing_of r ≡ piece_of p
some_piece (Ok (Some q)) p e = cc
some_piece (Ok None) p e = let z : ◌≡◌ {A = ℕ} 0 1 = cc in absurd (omega arith)
some_piece (Err b) p e = let z : ◌≡◌ {A = ℕ} 0 1 = cc in absurd (omega arith)

pub no_piece : (r : Result (Option Piece) Unterminated) → ((p : Piece) → result_unwrap_or r None ≡ Some p → ⊥) → (start end : ℕ) (shape : Shape) → standing_of r ≡ piece start end shape → ⊥
no_piece (Ok (Some p)) none start end shape e = none p refl
no_piece (Ok None) none start end shape e = let z : ◌≡◌ {A = ℕ} 0 1 = cc in omega arith
no_piece (Err b) none start end shape e = let z : ◌≡◌ {A = ℕ} 0 1 = cc in omega arith
