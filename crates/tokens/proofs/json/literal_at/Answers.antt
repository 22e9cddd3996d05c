use Rattle.std.proofs.Common.{◌≡◌, ℕ, List, [], Bor, Option, Some, None, drop, sym, ap, ◌∙◌, inl, inr, refl, arith, rules}
use Rattle.std.specs.Option.{unwrap_or}
use Rattle.std.specs.Slice.{IsGetRangeResult}
use Rattle.std.proofs.lemmas.List.{length-drop}
use Rattle.std.proofs.lemmas.List.Sums.{prefix_len-le-length}
use Rattle.tokens.specs.Grammar.{letter}
use Rattle.tokens.specs.Json.{run_end, literal}
use Rattle.tokens.specs.Parts.{between_none}
use Rattle.tokens.specs.Rules.{between}
use Rattle.tokens.proofs.json.literal_at.Goals as goal

-- the bytes of a run, or none where it would begin past the end
run_is : (text : List ℕ) (place end : ℕ) (r : Option (Bor (List ℕ))) (none : Bor (List ℕ)) → none.now ≡ [] → end ≡ run_end letter text place
    → IsGetRangeResult text place end r → (unwrap_or r none).now ≡ between text place end
run_is text place end (Some word) none nil is h = h.0.2
run_is text place end None none nil is h =
    let short = prefix_len-le-length letter (drop place text) in
    let left = length-drop place text in
    elim h.0 [
      | inl before ↦ absurd (omega arith)
      | inr past ↦ nil ∙ sym (between_none text place end (omega arith))
    ]

pub returns : goal.returns
returns c =
    let bytes = c.args.bytes.now in
    let place = c.args.place in
    let end : c.end_of_run-end.result ≡ run_end letter bytes place = c.end_of_run-end.ensures letter (λ b answer is. search rules) in
    let word = run_is bytes place c.end_of_run-end.result c.get.result _ refl end c.get.ensures.lookup in
    let kind : c.literal_kind.result ≡ literal (between bytes place (run_end letter bytes place)) =
    c.literal_kind.ensures ∙ ap (λ (r : Bor (List ℕ)). literal r.now) c.unwrap_or-word.ensures ∙ ap literal (word ∙ ap (between bytes place) end) in
    search (rules, kind, end)
