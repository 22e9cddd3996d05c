-- The constant table is compared with the rule once, entry by entry.
use Rattle.kinds.specs.Kinds.{infix_operators, continues_previous_expression}
use Rattle.kinds.proofs.Tabled.{tabled}
use Rattle.kinds.proofs.kind.Kind.continues_previous_expression.Goals as goal

pub returns : goal.returns
unfolding continues_previous_expression
returns c = tabled infix_operators c.args.self
