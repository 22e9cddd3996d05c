-- That the text is opened by the syntax of RFC 3629 follows from how it is opened.
use Rattle.std.proofs.Common.{rules}
use Rattle.reader.proofs.Octets.{opened_octets}
use Rattle.reader.proofs.Reader.open.Goals as goal

pub returns-clause-octets : goal.returns-clause-octets
returns-clause-octets c = opened_octets _ _ _ (search rules)
