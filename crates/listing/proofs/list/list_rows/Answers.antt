use Rattle.std.proofs.Common.{ℕ, ◌<◌, ◌≤◌, min, List, length, ap, ◌∙◌, arith}
use Rattle.reader.specs.Reading.{opening_refusal}
use Rattle.reader.specs.View.{reader_text}
use Rattle.listing.specs.Bytes.{laid}
use Rattle.listing.specs.Listing.{listing, most}
use Rattle.listing.proofs.Fitted.{fitted}
use Rattle.listing.proofs.list.list_rows.Goals as goal

pub returns : goal.returns
returns c =
    let all : ℕ → List ℕ = λ n. listing c.args.tokens.now c.args.comments.now c.args.spaces.now n in
    let long = c.text_len-text_len.ensures in
    let room : length c.args.buffer.now < most = omega arith in
    let fits : c.lay_out.result ≤ length c.args.buffer.now = omega (arith, c.lay_out.ensures.answer, c.lay_out-len.ensures.answer) in
    let h = fitted (opening_refusal c.args.reader.now.opening) (all (length (reader_text c.args.reader.now))) c.args.buffer.now c.lay_out.new.buffer c.lay_out.result c.in_default.ensures (c.lay_out.ensures.answer ∙ ap (λ (n : ℕ). min (length (all n)) most) long) fits room (c.lay_out.ensures.bytes ∙ ap (λ (n : ℕ). laid c.args.buffer.now 0 (all n)) long) in
    record { answer = h.0; bytes = h.1 }
