-- None at first, and one more with each turn.
use Rattle.std.proofs.Common.{◌≡◌, suc, ◌+◌, ◌++◌, sym, ap, ◌∙◌, append_assoc, arith}
use Rattle.std.proofs.lemmas.List.{append-nil}
use Rattle.std.specs.List.{repeat}
use Rattle.cases.proofs.Times.{last_first}
use Rattle.cases.proofs.line.push_copies.Goals as goal

pub loop-i-init : goal.loop-i-init
loop-i-init c = sym (append-nil c.args.bytes.now.items)

pub loop-i-preserved : goal.loop-i-preserved
loop-i-preserved c =
    let so_many : suc c.loop-i._i ≡ c.loop-i._i + 1 = omega arith in
    c.in_ok-extend_from_slice.ensures.items
    ∙ ap (λ xs. xs ++ c.args.once.now) c.loop-i.invariant
    ∙ append_assoc c.args.bytes.now.items (repeat c.loop-i._i c.args.once.now) c.args.once.now
    ∙ ap (λ ys. c.args.bytes.now.items ++ ys) (last_first c.loop-i._i c.args.once.now)
    ∙ ap (λ k. c.args.bytes.now.items ++ repeat k c.args.once.now) so_many
