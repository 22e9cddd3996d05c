use Rattle.std.proofs.Common.{ℕ, ltb, List, get_or, sym, ap, ◌∙◌}
use Rattle.cases.proofs.Numbers.{strict_loose}
use Rattle.cases.proofs.line.repeats.Goals as goal

pub returns-then-begins_above_zero : goal.returns-then-begins_above_zero
returns-then-begins_above_zero c =
    c.loose_repeats.ensures
    ∙ strict_loose c.args.count.now (ap (λ (bs : List ℕ). ltb 48 (get_or bs 0 0)) (sym c.as_bytes.ensures.value) ∙ sym c.if-begins_above_zero.ensures)
