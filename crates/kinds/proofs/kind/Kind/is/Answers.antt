use Rattle.kinds.specs.Equality.{is_same}
use Rattle.kinds.proofs.kind.Kind.is.Goals as goal

pub returns-clause-same : goal.returns-clause-same
returns-clause-same c = is_same c.args.self c.args.other _ c.eq.ensures
