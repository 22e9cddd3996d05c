use Rattle.std.proofs.Common.{sym, arith}
use Rattle.std.proofs.lemmas.Fmt.{decimal_digit, decimal_step}
use Rattle.listing.proofs.Laid.{writes_then, writes_is}
use Rattle.listing.proofs.out.Out.+put_decimal.Goals as goal

pub returns-then-n-lt10 : goal.returns-then-n-lt10
returns-then-n-lt10 t c = writes_is (sym (decimal_digit c.args.n (omega arith))) c.put.ensures

pub returns : goal.returns
returns t c = writes_is (sym (decimal_step c.args.n (omega arith) (omega arith))) (writes_then c.put_decimal.ensures c.put-2.ensures)
