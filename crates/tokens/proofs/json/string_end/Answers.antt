use Rattle.std.proofs.Common.{sym, ◌∙◌, arith}
use Rattle.std.proofs.lemmas.Bool.Decides.{nat_tests}
use Rattle.tokens.specs.Strings.{string_more, string_all}
use Rattle.tokens.proofs.json.string_end.Goals as goal
use Rattle.tokens.proofs.json.string_end.Goals.{then-escaped, else-escaped+in_default-2}

pub loop-place-preserved : goal.loop-place-preserved
loop-place-preserved c =
    let e = string_more c.loop-place.escaped c.loop-place.place c.args.bytes.now c.loop-place.place (omega arith) in
    let i = c.loop-place.invariant in
    elim c.if-escaped.branch [ then-escaped w ↦ grind (arith, nat_tests) | else-escaped+in_default-2 w ↦ grind (arith, nat_tests) ]

pub returns : goal.returns
returns c = sym (string_all c.loop-place.escaped c.loop-place.place c.args.bytes.now c.loop-place.place (omega arith)) ∙ c.loop-place.invariant
