use Rattle.std.proofs.Common.{arith, rules}
use Rattle.std.proofs.lemmas.Bool.Decides.{nat_tests}
use Rattle.tokens.specs.Grammar.{digit}
use Rattle.tokens.proofs.json.int_end.Goals as goal

pub returns-in-49-to-57 : goal.returns-in-49-to-57
returns-in-49-to-57 c =
    let run = c.end_of_run.ensures digit (λ b answer is. search rules) in
    grind (arith, nat_tests)
