use Rattle.std.proofs.Common.{rules}
use Rattle.scanner.proofs.RunLaws.{run_is, run_is_only}
use Rattle.scanner.proofs.Whites.{white_ascii, white_run}
use Rattle.scanner.proofs.whitespace.line_break_handler.Goals as goal

pub returns : goal.returns
returns c =
    let ends = white_run _ c.args.text.now c.args.from c.byte_search.result c.byte_search.ensures.value (λ k. (c.type_inv.text k).fits) (search rules) in
    record { value = ends; run = run_is c.args.text.now c.args.from c.byte_search.result ends; only = run_is_only c.args.text.now c.args.from c.byte_search.result ends; within = (c.byte_search.ensures.low, c.byte_search.ensures.within); ascii = λ k from before. white_ascii _ _ (c.type_inv.text k).fits (c.byte_search.ensures.before k from before) (search rules) }
