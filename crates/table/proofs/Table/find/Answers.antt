use Rattle.std.proofs.Common.{rules}
use Rattle.std.proofs.lemmas.List.Sorted.{answers_always}
use Rattle.table.proofs.Search.{searched}
use Rattle.table.proofs.Table.find.Goals as goal

-- the closure gives a row's start
pub returns-clause-found : goal.returns-clause-found
returns-clause-found g c =
    let facts = c.binary_search_by_key.ensures in
    let by_start = facts.position g.T.Row.from (answers_always _ _ _ (λ f a r g called. search rules)) in
    rw (c.ok.ensures.value, ← c.kept.ensures) (searched g.T.Row.from _ c.args.start _ facts.bound by_start)
