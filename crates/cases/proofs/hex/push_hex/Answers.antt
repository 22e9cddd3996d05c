-- Where there are digits, the pairs are what counts.
use Rattle.std.proofs.Common.{arith}
use Rattle.std.proofs.lemmas.Bool.Decides.{nat_tests}
use Rattle.cases.proofs.Pairs.{some_pairs}
use Rattle.cases.proofs.hex.push_hex.Goals as goal

pub returns-clause-added : goal.returns-clause-added
returns-clause-added c = rw (some_pairs c.args.digits.now (λ none. grind (arith, nat_tests))) c.push_pairs.ensures.added
