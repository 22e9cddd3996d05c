-- No count, no digits, and the digits so often.
use Rattle.std.proofs.Common.{◌++◌, ap, ◌∙◌, rules}
use Rattle.std.specs.List.{repeat}
use Rattle.cases.specs.Fields.{times}
use Rattle.cases.proofs.Gathers.{uncounted, unspelt, spelt}
use Rattle.cases.proofs.line.field_of.Goals as goal

pub returns-in_err-digits-clause-malformed : goal.returns-in_err-digits-clause-malformed
returns-in_err-digits-clause-malformed c =
    let d = c.digits_of.ensures times (λ s r e. search rules) in
    λ e. uncounted c.args.field.now (rw c.in_err-digits.ensures.ok_part at d)

pub returns-in_err-push_hex-clause-malformed : goal.returns-in_err-push_hex-clause-malformed
returns-in_err-push_hex-clause-malformed c =
    let d = c.digits_of.ensures times (λ s r e. search rules) in
    let k = rw c.in_ok-digits.ensures.ok_part at d in
    λ e. unspelt c.args.field.now c.as_bytes.result.now c.in_ok-digits.n (c.as_bytes.ensures.value ∙ k.0) k.1 (c.in_err-push_hex.ensures.malformed (search rules))

pub returns-clause-bytes : goal.returns-clause-bytes
returns-clause-bytes c =
    let d = c.digits_of.ensures times (λ s r e. search rules) in
    let k = rw c.in_ok-digits.ensures.ok_part at d in
    spelt c.args.field.now c.as_bytes.result.now c.in_ok-digits.n (c.as_bytes.ensures.value ∙ k.0) k.1
    c.new-once.result.items c.push_hex.new.text.items c.push_copies.new.bytes.items c.new-once.ensures.items c.in_ok-push_hex.ensures.added
    (c.in_ok-push_copies.ensures ∙ ap (λ xs. xs ++ repeat c.in_ok-digits.n c.as_slice.result.now) c.new-bytes.ensures.items ∙ ap (repeat c.in_ok-digits.n) c.as_slice.ensures.value)
