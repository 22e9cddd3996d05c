use Rattle.std.proofs.Common.{[], ◌∙◌, rules}
use Rattle.listing.proofs.list.lay_out.Goals as goal

pub returns : goal.returns
returns c =
    let w = c.put_all.ensures.wrote _ [] c.new-out.ensures.wrote in
    record { answer = c.len.ensures ∙ w.long; bytes = ◌∙◌ {b = c.put_all.new.out.bytes.now} (search rules) w.bytes }
