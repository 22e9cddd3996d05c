-- The fields so far are written.
use Rattle.std.proofs.Common.{take}
use Rattle.listing.specs.Bytes.{Writes, fields_of}
use Rattle.listing.proofs.out.Out.put_fields.Given as goal

abbrev pub invariant-loop-field : goal.invariant-loop-field
invariant-loop-field l = Writes (fields_of (take l.field-index l.fields)) l.initial.self l.self
