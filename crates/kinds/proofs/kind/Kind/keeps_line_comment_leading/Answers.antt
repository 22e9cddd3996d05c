-- The constant table is compared with the rule once, entry by entry.
use Rattle.kinds.specs.Kinds.{line_comment_leads, keeps_line_comment_leading}
use Rattle.kinds.proofs.Tabled.{tabled}
use Rattle.kinds.proofs.kind.Kind.keeps_line_comment_leading.Goals as goal

pub returns : goal.returns
unfolding keeps_line_comment_leading
returns c = tabled line_comment_leads c.args.self
