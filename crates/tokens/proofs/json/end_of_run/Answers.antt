use Rattle.std.proofs.Common.{◌+◌, ap, ◌∙◌, drop}
use Rattle.std.proofs.lemmas.Iterator.{YieldsList-from_slice}
use Rattle.std.proofs.lemmas.Iterator.Consumers.{count_from_yields_List, YieldsList-from_copied}
use Rattle.std.proofs.lemmas.Iterator.Search.{YieldsList-from_take_while}
use Rattle.std.proofs.lemmas.List.Folds.{length-prefix_len}
use Rattle.tokens.proofs.json.end_of_run.Goals as goal

pub returns : goal.returns
returns g c = λ class computes.
    let left = drop c.args.from c.args.bytes.now in
    let run = YieldsList-from_take_while _ class (YieldsList-from_copied (YieldsList-from_slice left cc)) c.take_while-run.ensures.closure c.take_while-run.ensures.done
    (λ x b q k. (g.met.F.Fn.1.step_stays _ _ _ _ k.called, computes x b (record { shown = k.shown; shows = k.shows; says = record { met = (g.met.F.FnMut.1.post_iff _ _ _).1 (q, k.called) } }))) in
    ap (λ n. c.args.from + n) (count_from_yields_List c.take_while-run.result _ c.count.ensures.ran run ∙ length-prefix_len class left)
