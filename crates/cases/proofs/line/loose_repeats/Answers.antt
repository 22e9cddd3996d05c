use Rattle.std.proofs.Common.{rules, ap, ◌∙◌}
use Rattle.cases.proofs.Numbers.{limited, filtered, read_loose}
use Rattle.cases.proofs.line.loose_repeats.Goals as goal

pub returns : goal.returns
returns c =
    filtered c.ok.result c.filter.result c.filter.ensures (λ n p. search rules)
    ∙ ap limited c.ok.ensures.value
    ∙ read_loose c.args.count.now c.parse.result c.parse.ensures.value.0
