-- The class by tests is the class by rules, and the rules give no other.
use Rattle.comments.proofs.Deciding.{classed_by, classed_only}
use Rattle.comments.proofs.annotation.parse_annotation.Goals as goal

pub returns : goal.returns
returns c =
    let e = c.first_class.ensures in
    record { value = e; rules = classed_by _ _ _ c.utf8.content e; only = λ other. classed_only _ _ _ other c.utf8.content e }
