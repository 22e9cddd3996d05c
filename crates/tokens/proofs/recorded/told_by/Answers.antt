use Rattle.std.proofs.Common.{◌≡◌, ap, ◌∙◌, Option, Some, None, refl, rules, tests}
use Rattle.std.specs.Option.{ok_or}
use Rattle.std.specs.Result.{result_ok}
use Rattle.tokens.specs.Layout.{record_of}
use Rattle.tokens.specs.Recorded.{told_by}
use Rattle.tokens.specs.declared.layout.NotARecord.{NotARecord}
use Rattle.tokens.specs.declared.layout.Record.{Record}
use Rattle.tokens.proofs.recorded.told_by.Goals as goal
use Rattle.tokens.proofs.recorded.told_by.Goals.{then-it-place, else-it-place}

kept : (o : Option Record) (e : NotARecord) → result_ok (ok_or o e) ≡ o
kept None e = refl
kept (Some r) e = refl

pub returns : goal.returns
returns c =
    let spelt : Some c.in_ok-it.it ≡ record_of c.args.bytes.now = c.in_ok-it.ensures.value ∙ ap result_ok c.try_from.ensures.value ∙ kept _ _ in
    let tells : c.then_some.result ≡ told_by c.args.text.now c.args.place (Some c.in_ok-it.it) =
    elim c.if-it-place.branch [ then-it-place w ↦ search (rules, tests) | else-it-place w ↦ search (rules, tests) ] in
    tells ∙ ap (told_by c.args.text.now c.args.place) spelt
