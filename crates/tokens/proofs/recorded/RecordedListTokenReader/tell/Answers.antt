use Rattle.std.proofs.Common.{sym, subst}
use Rattle.tokens.specs.Recorded.{FirstTold}
use Rattle.tokens.proofs.FirstTelling.{first_told}
use Rattle.tokens.proofs.recorded.RecordedListTokenReader.tell.Goals as goal

pub returns : goal.returns
returns c =
    let list = c.args.self.now.list.now in
    let text = c.args.text.now in
    let place = c.args.place in
    let is = c.first_told.ensures in
    record { value = is; first = subst (FirstTold list text place) (sym is) (first_told list text place) }
