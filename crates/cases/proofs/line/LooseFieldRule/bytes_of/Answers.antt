-- What was added to no bytes.
use Rattle.cases.proofs.Gathers.{alone}
use Rattle.cases.proofs.line.LooseFieldRule.bytes_of.Goals as goal

pub returns-clause-bytes : goal.returns-clause-bytes
returns-clause-bytes c = alone c.new-bytes.result.items c.push_bytes.new.text.items c.new-bytes.ensures.items _ c.in_ok-push_bytes.ensures.added
