use Rattle.std.proofs.Common.{ap, ◌∙◌, refl, arith}
use Rattle.cases.proofs.Words.{cut_or}
use Rattle.cases.proofs.line.split_word.Goals as goal

pub returns : goal.returns
returns c =
    let p = cut_or 32 c.args.line.now c.split_once.result _ c.split_once.ensures.cases (omega arith) refl refl in
    record { word = ap (λ x. x.0.now) c.unwrap_or.ensures ∙ p.0; rest = ap (λ x. x.1.now) c.unwrap_or.ensures ∙ p.1 }
