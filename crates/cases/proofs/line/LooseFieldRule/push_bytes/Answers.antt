-- No count, a count of 0, no digits, and the digits so often.
use Rattle.std.proofs.Common.{◌≡◌, ◌++◌, length, take, drop, ap, ◌∙◌, arith, rules}
use Rattle.std.proofs.lemmas.Bool.Decides.{nat_tests}
use Rattle.std.specs.List.{repeat}
use Rattle.cases.specs.Fields.{loose_times}
use Rattle.cases.proofs.Times.{no_shorter}
use Rattle.cases.proofs.Gathers.{uncounted_loosely, never, unspelt_loosely, pushed_loosely}
use Rattle.cases.proofs.line.LooseFieldRule.push_bytes.Goals as goal

pub returns-in_err-digits-clause-malformed : goal.returns-in_err-digits-clause-malformed
returns-in_err-digits-clause-malformed c =
    let d = c.digits_of.ensures loose_times (λ s r e. search rules) in
    λ e. uncounted_loosely c.args.field.now (rw c.in_err-digits.ensures.ok_part at d)

pub returns-then-n-eq0-clause-added : goal.returns-then-n-eq0-clause-added
returns-then-n-eq0-clause-added c =
    let d = c.digits_of.ensures loose_times (λ s r e. search rules) in
    let k = rw c.in_ok-digits.ensures.ok_part at d in
    never c.args.field.now c.in_ok-digits.digits.now c.in_ok-digits.n k.0 k.1 (grind (arith, nat_tests)) c.args.text.now.items

pub returns-in_err-push_pairs-clause-malformed : goal.returns-in_err-push_pairs-clause-malformed
returns-in_err-push_pairs-clause-malformed c =
    let d = c.digits_of.ensures loose_times (λ s r e. search rules) in
    let k = rw c.in_ok-digits.ensures.ok_part at d in
    λ e. unspelt_loosely c.args.field.now c.as_bytes.result.now c.in_ok-digits.n (c.as_bytes.ensures.value ∙ k.0) k.1 (λ z. grind (arith, nat_tests)) (c.in_err-push_pairs.ensures.malformed (search rules))

pub push_times-requires-clause-within : goal.push_times-requires-clause-within
push_times-requires-clause-within c = omega (arith, no_shorter c.args.text.now.items c.push_pairs.new.text.items _ c.in_ok-push_pairs.ensures.added)

pub returns-clause-added : goal.returns-clause-added
returns-clause-added c =
    let size : c.len-from.result ≡ length c.args.text.now.items = omega arith in
    let d = c.digits_of.ensures loose_times (λ s r e. search rules) in
    let k = rw c.in_ok-digits.ensures.ok_part at d in
    pushed_loosely c.args.field.now c.as_bytes.result.now c.in_ok-digits.n (c.as_bytes.ensures.value ∙ k.0) k.1 (λ z. grind (arith, nat_tests))
    c.args.text.now.items c.push_pairs.new.text.items c.push_times.new.text.items c.in_ok-push_pairs.ensures.added
    (c.in_ok-push_times.ensures ∙ ap (λ k. take k c.push_pairs.new.text.items ++ repeat c.in_ok-digits.n (drop k c.push_pairs.new.text.items)) size)
