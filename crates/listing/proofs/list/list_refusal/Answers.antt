use Rattle.std.proofs.Common.{[], ◌∷◌, ap, ◌∙◌, rules}
use Rattle.listing.specs.Bytes.{line_of}
use Rattle.listing.proofs.Laid.{writes_is}
use Rattle.listing.proofs.list.list_refusal.Goals as goal

pub returns : goal.returns
returns c =
    let line = writes_is (ap (λ n. line_of 82 (n ∷ [])) (c.from-2.ensures ∙ c.from.ensures)) c.put_line.ensures in
    let w = line.wrote _ [] c.new-out.ensures.wrote in
    record { answer = c.len.ensures ∙ w.long; bytes = ◌∙◌ {b = c.put_line.new.self.bytes.now} (search rules) w.bytes }
