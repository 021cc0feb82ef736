use mathlib.Core.Path.{sym}
use native.Mathlib.Omega.{arith}
use Rattle.rates.proofs.Rated.{fits_each}
use Rattle.rates.proofs.entry_reward_by.Goals as goal

pub returns : goal.returns
returns c = record { settles = c.pay-done.ensures.of _ _ _ _ _ _ _ (sym c.pairs_by-pairs.ensures); pairs = c.pairs_by-pairs.ensures }

pub pairs_by-pairs-requires : goal.pairs_by-pairs-requires
pairs_by-pairs-requires c =
    let a = c.requires in
    record { shared_by = a.shared_by; inactivity_score_bias_nonzero = a.inactivity_score_bias_nonzero; says = a.says; len = a.len; fits = fits_each a.fits; balance_value = a.effective_balance_value }

pub bounds-entry-9 : goal.bounds-entry-9
bounds-entry-9 c = omega (arith, c.requires.len)
