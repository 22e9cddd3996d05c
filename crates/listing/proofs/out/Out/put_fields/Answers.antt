use Rattle.std.proofs.Common.{ap, arith}
use Rattle.std.proofs.lemmas.List.{take_all}
use Rattle.listing.specs.Bytes.{fields_of}
use Rattle.listing.proofs.Laid.{writes_none, writes_then, writes_is, fields_more}
use Rattle.listing.proofs.out.Out.put_fields.Goals as goal

pub loop-field-init : goal.loop-field-init
loop-field-init c = writes_none _

pub loop-field-preserved : goal.loop-field-preserved
loop-field-preserved c = writes_is (fields_more c.args.fields.now c.loop-field.field-index (omega arith)) (writes_then c.loop-field.invariant (writes_then c.put.ensures c.put_decimal.ensures))

pub returns : goal.returns
returns c = writes_is (ap fields_of (take_all c.loop-field.field-index c.args.fields.now (omega arith))) c.loop-field.invariant
