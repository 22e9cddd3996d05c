-- A field that is cut at its star, or that has none.
use Rattle.std.proofs.Common.{cond, Some, None, sym, refl, ap, ◌∙◌, arith}
use Rattle.std.proofs.lemmas.Fn.{gave_at}
use Rattle.cases.specs.Fields.{rest_of}
use Rattle.cases.proofs.Words.{Whole, Parted, cut}
use Rattle.cases.proofs.line.digits_of.Goals as goal

pub returns-in-None : goal.returns-in-None
returns-in-None g c =
    λ t h.
    let w : Whole 42 c.args.field.now = cut 42 c.args.field.now None c.in-None.ensures.cases (omega arith) in
    (sym w.word, ap (λ b. cond b (t (rest_of 42 c.args.field.now)) (Some 1)) w.found)

pub returns-in_ok-count_of-in-Some : goal.returns-in_ok-count_of-in-Some
returns-in_ok-count_of-in-Some g c =
    λ t h.
    let p : Parted 42 c.args.field.now c.in-Some.digits.now c.in-Some.count.now =
    cut 42 c.args.field.now (Some (c.in-Some.digits, c.in-Some.count)) c.in-Some.ensures.cases (omega arith) in
    let once = ap (λ b. cond b (t (rest_of 42 c.args.field.now)) (Some 1)) p.found in
    (sym p.word, once ∙ ap t p.rest ∙ sym (h c.in-Some.count.now (Some c.in_ok-count_of-in-Some.field-0) (gave_at g.F.FnOnce c.in_ok-count_of-in-Some.ensures (refl {a = Some c.in_ok-count_of-in-Some.field-0}))))

pub returns-in_err-count_of-in-Some : goal.returns-in_err-count_of-in-Some
returns-in_err-count_of-in-Some g c =
    λ t h.
    let p : Parted 42 c.args.field.now c.in-Some.digits.now c.in-Some.count.now =
    cut 42 c.args.field.now (Some (c.in-Some.digits, c.in-Some.count)) c.in-Some.ensures.cases (omega arith) in
    let once = ap (λ b. cond b (t (rest_of 42 c.args.field.now)) (Some 1)) p.found in
    rw c.from_residual.ensures (once ∙ ap t p.rest ∙ sym (h c.in-Some.count.now None (gave_at g.F.FnOnce c.in_err-count_of-in-Some.ensures (refl {a = None}))))
