-- What is left of the bytes has the same part past its blanks.
use Rattle.std.proofs.Common.{◌≡◌, length}
use Rattle.comments.specs.Classing.{skip_blanks}
use Rattle.comments.proofs.words.skip_blanks.Given as goal

abbrev pub invariant-loop-rest : goal.invariant-loop-rest
invariant-loop-rest l = skip_blanks l.rest ≡ skip_blanks l.bytes

abbrev pub decreases-loop-rest : goal.decreases-loop-rest
decreases-loop-rest l = length l.rest
