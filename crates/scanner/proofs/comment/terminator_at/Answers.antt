use Rattle.std.proofs.Common.{◌≡◌, ℕ, ◌+◌, ◌<◌, ◌≤◌, ◌⊎◌, List, length, drop, Some, None, Option, MatchOption, Bor, sym, ap, ◌∙◌, arith}
use Rattle.std.specs.List.{slice_range}
use Rattle.std.proofs.lemmas.List.{drop_all}
use Rattle.scanner.specs.Ends.{terminator}
use Rattle.scanner.proofs.Lines.{rest_from, term-drop}
use Rattle.scanner.proofs.Terminators.{terminator_is}
use Rattle.scanner.proofs.comment.terminator_at.Goals as goal

-- the width at the front of what is lent from a place on, if the place lies in the text
front : (text : List ℕ) (at : ℕ) (rest : Option (Bor (List ℕ))) (n : ℕ)
    → MatchOption rest ((length text < at) ⊎ (length text < length text)) (λ r. (at ≤ length text) × (length text ≤ length text) × (r.now ≡ slice_range text at (length text)) × (length r.now + at ≡ length text))
    → MatchOption rest (n ≡ 0) (λ r. (n ≡ terminator r.now) × (n ≤ length r.now))
    → (n ≡ terminator (drop at text)) × (at ≤ length text → at + n ≤ length text)
front text at None n past none = (none ∙ sym (ap terminator (drop_all at text (omega (arith, past)))), λ le. omega arith)
front text at (Some r) n lent is = (is.0 ∙ ap terminator (lent.2 ∙ rest_from text at), λ le. omega (arith, is.1, lent.3))

pub returns : goal.returns
returns c =
    let h = front c.args.text.now c.args.at c.get.result c.map_or.result c.get.ensures.lookup.0 c.map_or.ensures in
    let is = h.0 ∙ term-drop c.args.text.now c.args.at in
    record { value = is; stands = terminator_is c.args.text.now c.args.at c.map_or.result is; within = h.1 }
