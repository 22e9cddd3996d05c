-- What is left of the pairs goes to the end of what is there.
use Rattle.std.proofs.Common.{◌≡◌, drop}
use Rattle.cases.specs.Hex.{hex_bytes}
use Rattle.cases.proofs.Pairs.{pair_bytes, after}
use Rattle.cases.proofs.hex.push_pairs.Given as goal

abbrev pub invariant-loop-high : goal.invariant-loop-high
invariant-loop-high l = after l.fn.text.items (hex_bytes l.digits) ≡ after l.text.items (pair_bytes (drop l.high-index l.pairs))
