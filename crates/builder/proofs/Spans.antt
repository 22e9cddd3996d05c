-- The row on record that has a span.
use Rattle.std.proofs.Common.{◌≡◌, ℕ, ◌<◌, true, false, eqb, eqb-true, List, map, length, get_or, Some, None, sym, ap, ◌∙◌, inr, ⊎_elim, arith}
use Rattle.std.specs.Bool.{then_some}
use Rattle.std.proofs.lemmas.List.{length-map, get_or-map}
use Rattle.std.proofs.lemmas.Bool.{cases_Bool}
use Rattle.std.proofs.lemmas.Bool.Decides.{nat_tests}
use Rattle.table.specs.Order.{Found}
use Rattle.comments.specs.declared.comment.Comment.{Comment}
use Rattle.builder.specs.declared.state.TriviaBuilder.{TriviaBuilder}
use Rattle.builder.specs.Rows.{no_comment}
use Rattle.builder.specs.Building.{Ordered, SpanAt, Again, ranged}

module _ (kept : List Comment) (row : Comment) where
  here : (i : ℕ) → i < length kept → get_or (map (λ (c : Comment). c.start) kept) i 0 ≡ (get_or kept i no_comment).start
  here i lt = get_or-map (λ (c : Comment). c.start) kept i no_comment 0 lt

  -- rising starts are all different
  same_row : (i j : ℕ) → Ordered kept → i < length kept → j < length kept → (get_or kept i no_comment).start ≡ (get_or kept j no_comment).start → i ≡ j
  same_row i j ordered li lj same = grind (arith, here i li, here j lj, ordered i j, ordered j i, length-map kept (λ (c : Comment). c.start))

  pub span_none : Found (map (λ (c : Comment). c.start) kept) row.start None → SpanAt kept row None
  span_none found ordered i h = found ordered i (omega (arith, length-map kept (λ (c : Comment). c.start))) (here i h.0 ∙ h.1)

  -- the row that starts there, where it ends there too
  pub span_at : (i : ℕ) → Found (map (λ (c : Comment). c.start) kept) row.start (Some i) → SpanAt kept row (then_some (eqb (get_or kept i no_comment).end row.end) i)
  span_at i found =
      let lt : i < length kept = omega (arith, length-map kept (λ (c : Comment). c.start)) in
      let starts : (get_or kept i no_comment).start ≡ row.start = sym (here i lt) ∙ found.1 in
      let other : (eqb (get_or kept i no_comment).end row.end ≡ false) → SpanAt kept row None = λ apart ordered j h.
      let same : j ≡ i = same_row j i ordered h.0 lt (h.1 ∙ sym starts) in
      let ends : (get_or kept i no_comment).end ≡ row.end = ap (λ (k : ℕ). (get_or kept k no_comment).end) (sym same) ∙ h.2 in
      absurd (grind (arith, nat_tests)) in
      ⊎_elim (λ (e : eqb (get_or kept i no_comment).end row.end ≡ true). rw e (lt, starts, eqb-true _ _ e)) (λ (e : eqb (get_or kept i no_comment).end row.end ≡ false). rw e (other e)) (cases_Bool (eqb (get_or kept i no_comment).end row.end))

  pub again_some : (i : ℕ) (b after : TriviaBuilder) → SpanAt kept row (Some i) → after ≡ ranged b row.content i → Again kept row b after
  again_some i b after h is = record {
    hit = λ ordered j k. is ∙ ap (ranged b row.content) (same_row i j ordered h.0 k.0 (h.1 ∙ sym k.1));
    miss = λ ordered none. absurd (none i h);
    either = inr (i, h, is);
    same = (ap (λ (x : TriviaBuilder). x.processed) is, ap (λ (x : TriviaBuilder). x.saw_newline) is, ap (λ (x : TriviaBuilder). x.saw_newline_for_comment) is, ap (λ (x : TriviaBuilder). x.previous_token) is);
  }
