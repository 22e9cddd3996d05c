use Rattle.std.proofs.Common.{◌≡◌, ℕ, ◌+◌, ◌-◌, List, Ok, IsUtf8, subst, arith}
use Rattle.std.specs.Str.{IsCharBoundary}
use Rattle.std.proofs.lemmas.Str.{IsCharBoundary-after_ascii}
use Rattle.scanner.specs.declared.comment.Block.{Block}
use Rattle.scanner.specs.Ends.{BlockWithin}
use Rattle.scanner.proofs.piece.block_comment.Goals as goal

-- a block ends after a `/`, so the text may be cut there
block_cut : (from : ℕ) (b : Block) (bs : List ℕ) → IsUtf8 bs → BlockWithin bs from (Ok b) → IsCharBoundary bs b.end
block_cut from b bs u h =
    let after : b.end - 1 + 1 ≡ b.end = omega (arith, h.0) in
    subst (IsCharBoundary bs) after (IsCharBoundary-after_ascii bs (b.end - 1) u (omega (arith, h.0, h.1)) (omega (arith, h.2)))

pub range-requires-clause-end_boundary : goal.range-requires-clause-end_boundary
range-requires-clause-end_boundary c =
    let from : ℕ = c.offset_usize-start.result + 2 in
    let Within : List ℕ → Type 0 = λ l. BlockWithin l from (Ok c.in_ok-block.block) in
    block_cut from c.in_ok-block.block c.whole-text.result.now c.whole-text.utf8 (subst Within c.as_bytes.ensures.value c.in_ok-block.ensures.within)
