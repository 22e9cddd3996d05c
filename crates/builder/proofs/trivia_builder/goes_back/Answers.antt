use Rattle.std.proofs.Common.{sym, rules}
use Rattle.kinds.specs.declared.kind.Kind.TheVariants.{Eof, Undetermined}
use Rattle.kinds.specs.Equality.{is_value}
use Rattle.builder.proofs.trivia_builder.goes_back.Goals as goal

pub returns-then-eq-2 : goal.returns-then-eq-2
returns-then-eq-2 c = search (rules, sym (is_value c.args.previous Undetermined _ c.if-eq.ensures), sym (is_value c.args.next Eof _ c.if-eq-2.ensures))

pub returns-then-can_end_expression : goal.returns-then-can_end_expression
returns-then-can_end_expression c = search (rules, sym (is_value c.args.previous Undetermined _ c.if-eq.ensures), sym (is_value c.args.next Eof _ c.if-eq-2.ensures))

pub returns-else-can_end_expression : goal.returns-else-can_end_expression
returns-else-can_end_expression c = search (rules, sym (is_value c.args.previous Undetermined _ c.if-eq.ensures), sym (is_value c.args.next Eof _ c.if-eq-2.ensures))
