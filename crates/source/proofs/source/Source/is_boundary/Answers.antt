use Rattle.std.proofs.Common.{rules}
use Rattle.std.proofs.lemmas.Bool.Decides.{Decides-like}
use Rattle.source.specs.View.{text_of}
use Rattle.source.proofs.Seams.{between_from, boundary_from}
use Rattle.source.proofs.source.Source.is_boundary.Goals as goal

pub returns-clause-between : goal.returns-clause-between
returns-clause-between c =
    Decides-like _ (between_from (text_of c.args.self.now) c.args.place (search rules)) (boundary_from (text_of c.args.self.now) c.args.place) (search rules)
