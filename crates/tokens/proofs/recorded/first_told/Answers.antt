use Rattle.std.proofs.Common.{◌≡◌, ap, ◌∙◌, subst, arith, rules}
use Rattle.std.specs.Iterator.Runs.{IsChunksExactRun}
use Rattle.std.specs.Slice.Iter.{chunks_exact_rest, chunks_exact_size}
use Rattle.tokens.proofs.FirstTelling.{first_given}
use Rattle.tokens.proofs.recorded.first_told.Goals as goal

pub returns : goal.returns
returns c =
    let list = c.args.list.now in
    let run = c.find_map.ensures.runs in
    let p = run.0 in
    let size : chunks_exact_size p.from ≡ 11 = ap chunks_exact_size run.1 ∙ c.chunks_exact.ensures.size in
    let rest : chunks_exact_rest p.from ≡ list = ap chunks_exact_rest run.1 ∙ c.chunks_exact.ensures.rest in
    let cut = c.chunks_exact.ensures.runs p p.seen (omega (arith, size)) in
    let chunks : IsChunksExactRun p 11 list =
    subst (λ xs. IsChunksExactRun p 11 xs) rest (subst (λ n. IsChunksExactRun p n (chunks_exact_rest p.from)) size cut) in
    first_given list c.args.text.now c.args.place p chunks _ _ c.args.list c.find_map.result run.2 (λ x o f told. search rules)
