use Rattle.std.proofs.Common.{rules}
use Rattle.std.proofs.lemmas.Str.{IsCharBoundary-start}
use Rattle.source.proofs.source.Source.new.Goals as goal

pub invariant_of-result-2-clause-cut : goal.invariant_of-result-2-clause-cut
invariant_of-result-2-clause-cut c = IsCharBoundary-start c.args.text.now (search rules)
