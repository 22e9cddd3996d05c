-- A field that is malformed, one more field, and the end.
use Rattle.std.proofs.Common.{[], ◌∷◌, length, map, sym, ap, ◌∙◌, lit<, rules}
use Rattle.std.proofs.lemmas.List.{map-append}
use Rattle.std.proofs.lemmas.Iterator.Splits.{YieldsList-from_str_split}
use Rattle.std.proofs.lemmas.Iterator.Consumers.{YieldsList-turn, YieldsList-end}
use Rattle.cases.specs.Fields.{fields_of, gathered}
use Rattle.cases.proofs.Gathers.{gathered_more, gathered_none}
use Rattle.cases.proofs.line.gather.Goals as goal

pub returns-in_err-push_bytes-clause-malformed : goal.returns-in_err-push_bytes-clause-malformed
returns-in_err-push_bytes-clause-malformed g c =
    λ e.
    let none = c.in_err-push_bytes.ensures.malformed (search rules) in
    let road = YieldsList-from_str_split 32 c.args.fields.now (lit< tt) (cc) (cc) (cc) in
    let turn = YieldsList-turn road c.loop-field.yielded _ c.loop-field.yielded_by _ _ c.in-Some.field c.in-Some.is c.next.ensures.steps in
    gathered_none g.R.FieldRule.spelt (fields_of c.args.fields.now) (length c.loop-field.yielded) c.in-Some.field.now turn.0 (ap g.R.FieldRule.spelt (sym turn.1) ∙ none)

pub loop-field-preserved : goal.loop-field-preserved
loop-field-preserved g c =
    ap (gathered g.R.FieldRule.spelt) (map-append (λ y. y.now) c.loop-field.yielded (c.in-Some.field ∷ []))
    ∙ gathered_more g.R.FieldRule.spelt (map (λ y. y.now) c.loop-field.yielded) c.in-Some.field.now c.loop-field.text.items c.push_bytes.new.text.items c.loop-field.invariant c.in_ok-push_bytes.ensures.added

pub returns-clause-bytes : goal.returns-clause-bytes
returns-clause-bytes g c =
    let road = YieldsList-from_str_split 32 c.args.fields.now (lit< tt) (cc) (cc) (cc) in
    let end = YieldsList-end road c.loop-field.yielded _ c.loop-field.yielded_by _ _ c.in-None.is c.next.ensures.steps in
    sym (ap (gathered g.R.FieldRule.spelt) end.0) ∙ c.loop-field.invariant
