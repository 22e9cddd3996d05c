-- What stood at the end comes once with each turn.
use Rattle.std.proofs.Common.{◌≡◌, ◌-◌, ◌++◌, drop}
use Rattle.std.specs.List.{repeat}
use Rattle.cases.proofs.line.push_times.Given as goal

abbrev pub invariant-loop-i : goal.invariant-loop-i
invariant-loop-i l = l.text.items ≡ l.fn.text.items ++ repeat (l._i - 1) (drop l.from l.fn.text.items)
