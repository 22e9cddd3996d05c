use Rattle.std.proofs.Common.{◌≡◌, ℕ, ◌+◌, ◌-◌, Bool, false, true, ◌||◌, ltb, List, length, get_or, drop, sym, ap, ◌∙◌, arith}
use Rattle.std.specs.List.{slice_range}
use Rattle.std.proofs.lemmas.Bool.Decides.{nat_tests}
use Rattle.scanner.specs.Ends.{block_from, closes, terminator}
use Rattle.scanner.proofs.BlockLaws.{block_is_law, block_is_only}
use Rattle.scanner.proofs.Lines.{ended, unended, block_search, block_end, block_close, block_on, shut_at, others, short, close_within, get_or-within, rest_from}
use Rattle.scanner.proofs.comment.skip_multi_line_comment.Goals.{in_default-via-then-text-at-lt2, in_default-via-else-text-at-lt2+in-42+in_default-1, in_default-via-else-text-at-lt2+in_default-1}
use Rattle.scanner.proofs.comment.skip_multi_line_comment.Goals as goal

pub loop-at-init : goal.loop-at-init
loop-at-init c =
    let go = block_search c.args.text.now c.multiline_comment_start_table-table.result.now.0 c.args.from c.byte_search-at.result false c.multiline_comment_start_table-table.ensures (λ k. (c.type_inv.text k).fits) c.byte_search-at.ensures.value in
    (c.byte_search-at.ensures.low, sym go)

pub loop-at-preserved : goal.loop-at-preserved
loop-at-preserved c =
    let at : ℕ = c.loop-at.at in
    let multi : Bool = c.loop-at.multi || ltb 0 c.terminator_width.result in
    let rest : List ℕ = slice_range c.args.text.now at (length c.args.text.now) in
    let goes-on : closes (get_or rest 0 0) (get_or rest 1 0) ≡ false = elim c.in_default-1.branch [ in_default-via-then-text-at-lt2 w ↦ short rest (grind (arith, nat_tests)) | in_default-via-else-text-at-lt2+in-42+in_default-1 w ↦ others (get_or rest 0 0) (get_or rest 1 0) (λ star slash. omega arith) | in_default-via-else-text-at-lt2+in_default-1 w ↦ others (get_or rest 0 0) (get_or rest 1 0) (λ star slash. omega arith) ] in
    let on = block_on c.args.text.now at c.loop-at.multi (omega arith) (sym (shut_at c.args.text.now at) ∙ goes-on) in
    let wide : c.terminator_width.result ≡ terminator (drop at c.args.text.now) = c.terminator_width.ensures.value ∙ ap terminator (rest_from c.args.text.now at) in
    let go = block_search c.args.text.now c.multiline_comment_start_table-table.result.now.0 (at + 1) c.byte_search-at-in-loop-at.result multi c.multiline_comment_start_table-table.ensures (λ k. (c.type_inv.text k).fits) c.byte_search-at-in-loop-at.ensures.value in
    (omega arith, sym go ∙ ap (λ (n : ℕ). block_from (at + 1) (c.loop-at.multi || ltb 0 n) (drop (at + 1) c.args.text.now)) wide ∙ sym on ∙ c.loop-at.invariant.1)

pub returns-in-42 : goal.returns-in-42
returns-in-42 c =
    let at : ℕ = c.loop-at.at in
    let rest : List ℕ = slice_range c.args.text.now at (length c.args.text.now) in
    let star : get_or rest 0 0 ≡ 42 = omega arith in
    let slash : get_or rest 1 0 ≡ 47 = omega arith in
    let shut : closes (get_or c.args.text.now at 0) (get_or c.args.text.now (at + 1) 0) ≡ true = sym (shut_at c.args.text.now at) ∙ ap (λ (b : ℕ). closes b (get_or rest 1 0)) star ∙ ap (closes 42) slash in
    let next = close_within c.args.text.now at shut in
    let last : at + 2 - 1 ≡ at + 1 = omega arith in
    let in-text = get_or-within c.args.text.now (at + 1) (omega (arith, next)) in
    let is : ended (at + 2) c.loop-at.multi ≡ block_from c.args.from false (drop c.args.from c.args.text.now) = sym (block_close c.args.text.now at c.loop-at.multi (omega arith) shut) ∙ c.loop-at.invariant.1 in
    record { value = is; block = block_is_law c.args.text.now c.args.from _ is; only = block_is_only c.args.text.now c.args.from _ is; within = (omega arith, omega (arith, in-text), ap (λ (k : ℕ). get_or c.args.text.now k 0) last ∙ next) }

pub returns : goal.returns
returns c =
    let is : unended c.loop-at.multi ≡ block_from c.args.from false (drop c.args.from c.args.text.now) = sym (block_end c.args.text.now c.loop-at.at c.loop-at.multi (omega arith)) ∙ c.loop-at.invariant.1 in
    record { value = is; block = block_is_law c.args.text.now c.args.from _ is; only = block_is_only c.args.text.now c.args.from _ is; within = tt }
