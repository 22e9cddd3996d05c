use Rattle.std.proofs.Common.{◌≡◌, ℕ, List, length, sym, refl, ap, ◌∙◌, subst, arith, Bor, rules}
use Rattle.source.specs.View.{text_of, place_of}
use Rattle.scanner.specs.Ecma.{Shape, Standing, piece}
use Rattle.scanner.specs.Pieces.{piece_at, Lands}
use Rattle.scanner.specs.View.{shape_of, standing_of}
use Rattle.reader.specs.Feeding.{FedState, fed_state, FedBy}
use Rattle.reader.proofs.Feeds.{Feeding, feeding_start, feeding_more, feeding_ends, some_piece, no_piece}
use Rattle.scanner.proofs.Measures.{moves}
use Rattle.reader.proofs.feed.feed_gap.Goals as goal

pub loop-piece-init : goal.loop-piece-init
loop-piece-init c = (refl, refl, (refl, refl, refl), feeding_start _ _ _)

pub loop-piece-preserved : goal.loop-piece-preserved
loop-piece-preserved c =
    let text : List ℕ = text_of c.args.source.now in
    let here : ℕ = place_of c.loop-piece.ahead in
    let start : ℕ = c.in-Some.piece.start in
    let end : ℕ = c.in-Some.piece.end in
    let shape : Shape = shape_of c.in-Some.piece.trivia in
    let first : FedState = fed_state c.args.builder.now c.args.tables.now in
    let before : FedState = fed_state c.loop-piece.builder c.loop-piece.tables in
    let after : FedState = fed_state c.feed_piece.new.builder c.feed_piece.new.tables in
    let same : text_of c.loop-piece.ahead ≡ text = ap (λ (r : Bor (List ℕ)). r.now) c.loop-piece.invariant.0 in
    let found : standing_of c.piece_at.result ≡ piece start end shape = some_piece c.piece_at.result c.in-Some.piece c.in-Some.ensures in
    let stands : piece_at text here ≡ piece start end shape = ap (λ (l : List ℕ). piece_at l here) (sym same) ∙ sym c.piece_at.ensures.value ∙ found in
    let Lands-at : Standing → Type 0 = Lands (text_of c.loop-piece.ahead) here in
    let lands = subst Lands-at found c.piece_at.ensures.lands in
    let goes : place_of c.set_position.new.self ≡ end = moves c.set_position.result _ _ _ _ c.set_position.ensures.place lands.1 in
    let long : length (text_of c.loop-piece.ahead) ≡ length text = ap length same in
    let whole : c.whole.result.now ≡ text = ap (λ (r : Bor (List ℕ)). r.now) c.whole.ensures in
    let By : List ℕ → Type 0 = λ l. FedBy l start end shape before after in
    let At : ℕ → Type 0 = λ k. Feeding text (place_of c.args.source.now) first k after in (
      c.set_position.ensures.text ∙ c.loop-piece.invariant.0,
      search rules,
      search rules,
      subst At (sym goes) (feeding_more text _ first here start end shape before after stands lands.0 (omega (arith, long, lands.1.0)) (subst By whole c.feed_piece.ensures.fed) c.loop-piece.invariant.3),
    )

pub returns : goal.returns
returns c =
    let text : List ℕ = text_of c.args.source.now in
    let here : ℕ = place_of c.loop-piece.ahead in
    let same : text_of c.loop-piece.ahead ≡ text = ap (λ (r : Bor (List ℕ)). r.now) c.loop-piece.invariant.0 in
    let stands : piece_at text here ≡ standing_of c.piece_at.result = ap (λ (l : List ℕ). piece_at l here) (sym same) ∙ sym c.piece_at.ensures.value in
    let none = no_piece c.piece_at.result (λ p e. c.in_default.not-Some p (c.unwrap_or.ensures ∙ e)) in
    record {
      fed = feeding_ends text (place_of c.args.source.now) (fed_state c.args.builder.now c.args.tables.now) here _ (standing_of c.piece_at.result) stands none c.loop-piece.invariant.3;
      tokens = c.loop-piece.invariant.1;
      lenders = c.loop-piece.invariant.2;
    }
