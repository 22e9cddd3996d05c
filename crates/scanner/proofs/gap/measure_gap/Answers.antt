use Rattle.std.proofs.Common.{◌≡◌, ℕ, List, length, Ok, sym, refl, ap, ◌∙◌, subst, arith, Bor, rules}
use Rattle.source.specs.View.{text_of, place_of}
use Rattle.scanner.specs.declared.gap.GapMeasure.{GapMeasure}
use Rattle.scanner.specs.Ecma.{Shape, piece}
use Rattle.scanner.specs.Pieces.{piece_at, Lands}
use Rattle.scanner.specs.View.{shape_of, standing_of}
use Rattle.scanner.proofs.Measures.{Going, empty_measure, going_start, going_more, moves}
use Rattle.scanner.specs.Gaps.{gap_from, measured}
use Rattle.scanner.proofs.Newlines.{measures}
use Rattle.scanner.proofs.gap.measure_gap.Goals as goal

pub loop-piece-init : goal.loop-piece-init
loop-piece-init c =
    let Goes : GapMeasure → Type 0 = Going c.args.last_comment c.args.last_space (text_of c.args.source.now) (place_of c.args.source.now) in
    let e : record { end = c.offset_usize.result; comments = c.default.result.comments; spaces = c.default.result.spaces; newline = c.default.result.newline; unterminated = c.default.result.unterminated } ≡ empty_measure (place_of c.args.source.now) = search rules in
    record { same = refl; reached = c.offset_usize.ensures.value; going = subst Goes (sym e) (going_start _ _ _ _) }

pub loop-piece-preserved : goal.loop-piece-preserved
loop-piece-preserved c =
    let text : List ℕ = text_of c.args.source.now in
    let start : ℕ = c.in-Ok-Some.piece.start in
    let end : ℕ = c.in-Ok-Some.piece.end in
    let shape : Shape = shape_of c.in-Ok-Some.piece.trivia in
    let same : text_of c.loop-piece.ahead ≡ text = ap (λ (r : Bor (List ℕ)). r.now) c.loop-piece.invariant.same in
    let at : c.loop-piece.gap.end ≡ place_of c.loop-piece.ahead = c.loop-piece.invariant.reached in
    let answered : standing_of (Ok c.in-Ok-Some.field-0) ≡ piece start end shape = ap (λ o. standing_of (Ok o)) c.in-Ok-Some.field-0-is in
    let stands : piece_at text c.loop-piece.gap.end ≡ piece start end shape = ap (λ (l : List ℕ). piece_at l c.loop-piece.gap.end) (sym same) ∙ ap (piece_at (text_of c.loop-piece.ahead)) at ∙ sym c.in-Ok-Some.ensures.value ∙ answered in
    let lands = subst (Lands (text_of c.loop-piece.ahead) (place_of c.loop-piece.ahead)) answered c.in-Ok-Some.ensures.lands in
    let goes : place_of c.set_position.new.self ≡ end = moves c.set_position.result _ _ _ _ c.set_position.ensures.place lands.1 in
    let long : length (text_of c.loop-piece.ahead) ≡ length text = ap length same in
    let Goes : GapMeasure → Type 0 = Going c.args.last_comment c.args.last_space text (place_of c.args.source.now) in record {
      same = c.set_position.ensures.text ∙ c.loop-piece.invariant.same;
      reached = ap (λ (g : GapMeasure). g.end) c.with_piece-gap.ensures ∙ sym goes;
      going = subst Goes (sym c.with_piece-gap.ensures) (going_more c.args.last_comment c.args.last_space text _ c.loop-piece.gap start end shape stands (omega (arith, at, lands.0)) (omega (arith, long, lands.1.0)) c.loop-piece.invariant.going);
    }

pub returns-in-Ok-None : goal.returns-in-Ok-None
returns-in-Ok-None c =
    let is : c.loop-piece.gap ≡ measured c.args.last_comment c.args.last_space (gap_from (text_of c.args.source.now) (place_of c.args.source.now)) = search rules in
    let m = measures _ _ c.args.last_comment c.args.last_space _ c.offset_usize.ensures.utf8 c.args.source.now.cut is in
    record { value = is; gap = m.gap; only = m.only; cuts = m.cuts; newline = m.newline; cut = m.cut }

pub returns-in-Err : goal.returns-in-Err
returns-in-Err c =
    let is : c.before_open.result ≡ measured c.args.last_comment c.args.last_space (gap_from (text_of c.args.source.now) (place_of c.args.source.now)) = search rules in
    let m = measures _ _ c.args.last_comment c.args.last_space _ c.offset_usize.ensures.utf8 c.args.source.now.cut is in
    record { value = is; gap = m.gap; only = m.only; cuts = m.cuts; newline = m.newline; cut = m.cut }
