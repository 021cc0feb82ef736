-- The measure is the number: a tenth of one that has more than a digit is less.
use Rattle.fields.proofs.decimals.+put_decimal.Given as goal

abbrev pub decreases-put_decimal : goal.decreases-put_decimal
decreases-put_decimal l = l.n
