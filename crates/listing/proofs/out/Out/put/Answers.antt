use Rattle.std.proofs.Common.{rules}
use Rattle.listing.proofs.Laid.{wrote_push}
use Rattle.listing.proofs.out.Out.put.Goals as goal

pub returns : goal.returns
returns c = record { wrote = λ buffer xs h. wrote_push buffer xs c.args.self.now _ c.args.b h (search rules) (search rules) c.write.ensures.fits; lender = search rules }
