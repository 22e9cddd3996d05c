-- An odd number of digits, a turn, a pair that spells nothing, and the end.
use Rattle.std.proofs.Common.{◌+◌, ◌/◌, length, drop, ap, ◌∙◌, sym, arith}
use Rattle.std.proofs.lemmas.Bool.Decides.{nat_tests}
use Rattle.cases.proofs.Pairs.{odd_none, even_pairs, pair_bytes, after, none_after, stops, goes_on, ends}
use Rattle.cases.proofs.hex.push_pairs.Goals as goal

pub returns-then-not-is_empty-clause-malformed : goal.returns-then-not-is_empty-clause-malformed
returns-then-not-is_empty-clause-malformed c = λ e. odd_none c.args.digits.now (length c.args.digits.now / 2) (grind (arith, nat_tests))

pub loop-high-init : goal.loop-high-init
loop-high-init c =
    ap (after c.args.text.now.items) (even_pairs (length c.args.digits.now / 2) c.args.digits.now (grind (arith, nat_tests)) ∙ ap pair_bytes (sym c.as_chunks.ensures.front))

pub returns-in_err-b-clause-malformed : goal.returns-in_err-b-clause-malformed
returns-in_err-b-clause-malformed c =
    λ e. none_after c.args.text.now.items _
    (c.loop-high.invariant ∙ stops c.as_chunks.result.0.now c.loop-high.high-index (omega arith) c.loop-high.text.items (sym c.hex_byte.ensures ∙ c.in_err-b.ensures.ok_part))

pub loop-high-preserved : goal.loop-high-preserved
loop-high-preserved c =
    c.loop-high.invariant
    ∙ goes_on c.as_chunks.result.0.now c.loop-high.high-index (omega arith) c.loop-high.text.items c.in_ok-b.b (sym c.hex_byte.ensures ∙ c.in_ok-b.ensures.ok_part)
    ∙ ap (λ ys. after ys (pair_bytes (drop (c.loop-high.high-index + 1) c.as_chunks.result.0.now))) (sym c.in_ok-push.ensures.items)

pub returns-clause-added : goal.returns-clause-added
returns-clause-added c = c.loop-high.invariant ∙ ends c.as_chunks.result.0.now c.loop-high.high-index (omega arith) c.loop-high.text.items
