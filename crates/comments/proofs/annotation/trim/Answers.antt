-- What the library says of its trim fixes the text that is left.
use Rattle.std.proofs.Common.{rules}
use Rattle.comments.proofs.Trims.{trims_trimmed}
use Rattle.comments.proofs.annotation.trim.Goals as goal

pub returns : goal.returns
returns c = trims_trimmed c.args.text.now c.trim.result.now (search rules) c.trim.utf8 c.trim.ensures.value
