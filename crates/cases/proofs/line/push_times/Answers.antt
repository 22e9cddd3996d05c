-- The part that is copied, one turn, and the end.
use Rattle.std.proofs.Common.{◌≡◌, ◌-◌, ◌++◌, length, drop, ap, ◌∙◌, arith}
use Rattle.std.proofs.lemmas.List.{length-append}
use Rattle.std.specs.List.{repeat, slice_range}
use Rattle.cases.proofs.Times.{turn, end}
use Rattle.cases.proofs.line.push_times.Goals as goal

pub extend_from_within-requires-clause-in_bounds : goal.extend_from_within-requires-clause-in_bounds
extend_from_within-requires-clause-in_bounds c =
    omega (arith, length-append c.args.text.now.items (repeat (c.loop-i._i - 1) (drop c.args.from c.args.text.now.items)), ap length c.loop-i.invariant)

pub loop-i-preserved : goal.loop-i-preserved
loop-i-preserved c =
    let size : c.len-to.result ≡ length c.args.text.now.items = omega arith in
    turn c.args.text.now.items c.args.from (omega arith) c.loop-i._i (omega arith) c.loop-i.text.items c.extend_from_within.new.self.items c.loop-i.invariant
    (c.in_ok-extend_from_within.ensures.items ∙ ap (λ k. c.loop-i.text.items ++ slice_range c.loop-i.text.items c.args.from k) size)

pub returns : goal.returns
returns c = c.loop-i.invariant ∙ end c.args.text.now.items c.args.from c.args.n c.loop-i._i (omega arith) (omega arith)
