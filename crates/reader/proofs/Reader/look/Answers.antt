use Rattle.std.proofs.Common.{◌≡◌, Option, Result, ap, ◌∙◌, rules}
use Rattle.refusals.specs.declared.Refusal.{Refusal}
use Rattle.scanner.specs.declared.gap.GapMeasure.{GapMeasure}
use Rattle.reader.specs.declared.token_row.Found.{Found}
use Rattle.reader.specs.Reading.{token_after, fitting, verdict}
use Rattle.reader.specs.View.{reader_text, room_of, gap_before}
use Rattle.reader.proofs.Reader.look.Goals as goal

pub returns : goal.returns
returns g c =
    let r = c.args.self.now in
    let t = c.args.tables.now in
    let found : GapMeasure → Option Found = token_after g.R.TokenReader.banged (g.R.TokenReader.telling c.args.r.now) (reader_text r) in
    let fits : GapMeasure → Option Found → Result Found Refusal = λ gap f. fitting gap (room_of t.comments) (room_of t.spaces) (room_of t.tokens) f in
    let gap : c.measure_gap-gap.result ≡ gap_before r t = search rules in
    let finds : c.token_after-found.result ≡ found c.measure_gap-gap.result = search rules in
    let opened : c.fit.result ≡ verdict r.opening r.ended c.fit.result = search rules in
    opened ∙ ap (verdict r.opening r.ended) (c.fit.ensures ∙ ap (fits c.measure_gap-gap.result) finds ∙ ap (λ m. fits m (found m)) gap)
