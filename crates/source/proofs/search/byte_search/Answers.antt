use Rattle.std.proofs.Common.{◌≡◌, ℕ, ◌+◌, ◌-◌, ◌<◌, ◌≤◌, Bool, true, false, not, ltb, List, length, get_or, drop, Some, None, sym, refl, ap, ◌∙◌, arith, get_or-drop, length-drop}
use Rattle.std.specs.List.{position, prefix_len}
use Rattle.std.specs.Option.{unwrap_or}
use Rattle.std.proofs.lemmas.Bool.{cond_both, ltb-false, not-false, not-true}
use Rattle.std.proofs.lemmas.List.{take_all}
use Rattle.std.proofs.lemmas.List.Sums.{prefix_len-le-length, prefix_len_passes, prefix_len_stops}
use Rattle.source.specs.Search.{hits, misses}
use Rattle.source.proofs.search.byte_search.Goals as goal

-- the first place that passes, or else the length, is how many before it do not
position_else : (p : ℕ → Bool) (xs : List ℕ) → unwrap_or (position p xs) (length xs) ≡ prefix_len (λ x. not (p x)) xs
position_else p xs =
    let before : ℕ = prefix_len (λ x. not (p x)) xs in
    let le = prefix_len-le-length (λ x. not (p x)) xs in
    cond_both (ltb before (length xs)) (Some before) None (λ o. unwrap_or o (length xs) ≡ before) (λ e. refl) (λ e. omega (arith, ltb-false _ _ e))

module _ (t : List Bool) (text : List ℕ) (from n : ℕ) (is : n ≡ prefix_len (misses t) (drop from text)) where
  before : (k : ℕ) → from ≤ k → k < from + n → hits t (get_or text k 0) ≡ false
  before k on lt =
      let here : from + (k - from) ≡ k = omega arith in
      ap (λ i. hits t (get_or text i 0)) (sym here) ∙ ap (hits t) (sym (get_or-drop from text (k - from) 0)) ∙ not-true _ (prefix_len_passes (misses t) (drop from text) (k - from) 0 (omega arith))

  found : from + n < length text → hits t (get_or text (from + n) 0) ≡ true
  found lt =
      let stop = not-false _ (prefix_len_stops (misses t) (drop from text) 0 (omega (arith, length-drop from text))) in
      ap (hits t) (sym (get_or-drop from text n 0)) ∙ ap (λ i. hits t (get_or (drop from text) i 0)) is ∙ stop

pub returns : goal.returns
returns c =
    let t : List Bool = c.args.table.now.0 in
    let text : List ℕ = c.args.text.now in
    let from : ℕ = c.args.from in
    let rest : c.in-Some.rest.now ≡ drop from text = c.in-Some.ensures.lookup.0.2 ∙ take_all (length text - from) (drop from text) (omega (arith, length-drop from text)) in
    let is : c.unwrap_or.result ≡ prefix_len (misses t) (drop from text) = c.unwrap_or.ensures ∙ ap (λ o. unwrap_or o (length c.in-Some.rest.now)) c.first_match.ensures ∙ position_else (hits t) c.in-Some.rest.now ∙ ap (prefix_len (misses t)) rest in
    record {
      value = ap (λ k. from + k) is;
      low = omega arith;
      within = λ le. omega (arith, is, prefix_len-le-length (misses t) (drop from text), length-drop from text);
      before = before t text from c.unwrap_or.result is;
      found = found t text from c.unwrap_or.result is;
    }
