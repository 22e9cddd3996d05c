-- The capital stands past the word.
use Rattle.std.proofs.Common.{get_or, rules}
use Rattle.comments.specs.Classing.{capital}
use Rattle.comments.proofs.Searches.{begins_then}
use Rattle.comments.proofs.words.has_capital_after.Goals as goal

pub returns : goal.returns
returns c = begins_then c.args.word.now c.args.bytes.now (λ rest. capital (get_or rest 0 0)) c.strip_prefix-after.result c.is_some_and.result c.strip_prefix-after.ensures.cases c.is_some_and.ensures (λ x p. search rules)
