use Rattle.std.proofs.Common.{ap}
use Rattle.listing.specs.Bytes.{line_of}
use Rattle.listing.proofs.Laid.{writes_then, writes_is}
use Rattle.listing.proofs.lines.put_all.Goals as goal

pub returns : goal.returns
returns c =
    let closed = writes_is (ap (line_of 69) c.end_fields.ensures) c.put_line.ensures in
    writes_then c.put_rows.ensures (writes_then c.put_rows-2.ensures (writes_then c.put_unterminated.ensures closed))
