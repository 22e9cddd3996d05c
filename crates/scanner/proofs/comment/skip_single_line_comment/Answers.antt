use Rattle.std.proofs.Common.{◌≡◌, ◌+◌, drop, sym, ◌∙◌, arith}
use Rattle.scanner.specs.Ends.{line_end, terminator}
use Rattle.scanner.proofs.LineLaws.{line_is, line_is_only}
use Rattle.scanner.proofs.Lines.{line_search, line_end_past, line_stop, line_on, term-drop}
use Rattle.scanner.proofs.comment.skip_single_line_comment.Goals as goal

pub loop-end-init : goal.loop-end-init
loop-end-init c =
    let go = line_search c.args.text.now c.line_break_table-table.result.now.0 c.args.from c.byte_search-end.result c.line_break_table-table.ensures (λ k. (c.type_inv.text k).fits) c.byte_search-end.ensures.value in
    record { onward = c.byte_search-end.ensures.low; within = c.byte_search-end.ensures.within; ends = sym go }

pub loop-end-preserved : goal.loop-end-preserved
loop-end-preserved c =
    let go = line_search c.args.text.now c.line_break_table-table.result.now.0 (c.loop-end.end + 1) c.byte_search-end-in-loop-end.result c.line_break_table-table.ensures (λ k. (c.type_inv.text k).fits) c.byte_search-end-in-loop-end.ensures.value in
    let none = term-drop c.args.text.now c.loop-end.end ∙ sym c.terminator_at.ensures.value in
    let on = line_on c.args.text.now c.loop-end.end (omega arith) (omega (arith, none)) in
    record { onward = omega arith; within = λ le. c.byte_search-end-in-loop-end.ensures.within (omega arith); ends = omega (arith, go, on, c.loop-end.invariant.ends) }

pub returns-else-terminator_at-eq0 : goal.returns-else-terminator_at-eq0
returns-else-terminator_at-eq0 c =
    let is : terminator (drop c.loop-end.end c.args.text.now) ≡ c.terminator_at.result = term-drop c.args.text.now c.loop-end.end ∙ sym c.terminator_at.ensures.value in
    let stop = line_stop (drop c.loop-end.end c.args.text.now) (omega (arith, is)) in
    let ends : c.loop-end.end ≡ c.args.from + line_end (drop c.args.from c.args.text.now) = omega (arith, stop, c.loop-end.invariant.ends) in
    record { end = ends; line = line_is c.args.text.now c.args.from c.loop-end.end ends; only = line_is_only c.args.text.now c.args.from c.loop-end.end ends; within = (omega arith, λ le. omega arith); stops = λ _. omega (arith, is) }

pub returns-after-loop-end : goal.returns-after-loop-end
returns-after-loop-end c =
    let stop = line_end_past c.args.text.now c.loop-end.end (omega arith) in
    let ends : c.loop-end.end ≡ c.args.from + line_end (drop c.args.from c.args.text.now) = omega (arith, stop, c.loop-end.invariant.ends) in
    record { end = ends; line = line_is c.args.text.now c.args.from c.loop-end.end ends; only = line_is_only c.args.text.now c.args.from c.loop-end.end ends; within = (omega arith, λ le. c.loop-end.invariant.within le); stops = λ lt. absurd (omega arith) }
