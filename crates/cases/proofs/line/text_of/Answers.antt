-- The line is not empty, so that its fields give the text.
use Rattle.std.proofs.Common.{arith}
use Rattle.std.proofs.lemmas.Bool.Decides.{nat_tests}
use Rattle.cases.proofs.Gathers.{some_fields}
use Rattle.cases.proofs.line.text_of.Goals as goal

pub returns-clause-bytes : goal.returns-clause-bytes
returns-clause-bytes c = rw (some_fields c.args.fields.now (λ none. grind (arith, nat_tests))) c.gather.ensures.bytes
