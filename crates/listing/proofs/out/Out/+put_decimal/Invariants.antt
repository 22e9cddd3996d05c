-- Each call has one digit less.
use Rattle.listing.proofs.out.Out.+put_decimal.Given as goal

abbrev pub decreases-put-decimal : goal.decreases-put-decimal
decreases-put-decimal l = l.n
