-- The constant table is compared with the rule once, entry by entry.
use Rattle.kinds.specs.Kinds.{expression_ends, can_end_expression}
use Rattle.kinds.proofs.Tabled.{tabled}
use Rattle.kinds.proofs.kind.Kind.can_end_expression.Goals as goal

pub returns : goal.returns
unfolding can_end_expression
returns c = tabled expression_ends c.args.self
