-- The fields so far give the text.
use Rattle.std.proofs.Common.{◌≡◌, Some, map}
use Rattle.cases.specs.Fields.{gathered}
use Rattle.cases.proofs.line.gather.Given as goal

abbrev pub invariant-loop-field : goal.invariant-loop-field
invariant-loop-field g l = gathered g.R.FieldRule.spelt (map (λ y. y.now) l.yielded) ≡ Some l.text.items
