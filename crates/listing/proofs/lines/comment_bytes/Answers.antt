use Rattle.std.proofs.Common.{◌≡◌, ◌∙◌, rules}
use Rattle.std.specs.List.{fold}
use Rattle.listing.proofs.Summed.{add_bytes, bytes_folded}
use Rattle.listing.proofs.lines.comment_bytes.Goals as goal

pub returns : goal.returns
returns c =
    let folded : c.fold.result ≡ fold add_bytes 0 c.args.comments.now = search rules in
    folded ∙ bytes_folded c.args.comments.now
