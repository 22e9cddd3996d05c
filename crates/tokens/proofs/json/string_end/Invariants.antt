use Rattle.std.proofs.Common.{◌≡◌, false, drop}
use Rattle.tokens.specs.Json.{string_from}
use Rattle.tokens.proofs.json.string_end.Given as goal

abbrev pub invariant-loop-place : goal.invariant-loop-place
invariant-loop-place l = string_from l.escaped l.place (drop l.place l.bytes) ≡ string_from false l.from (drop l.from l.bytes)
