use mathlib.Core.Path.{◌≡◌, refl}
use Rattle.definitions.specs.Record.{decode_one}
use Rattle.definitions.specs.Updates.{with_score}
use Rattle.definitions.specs.Rust.Altair.Helpers.{flag_index_deltas, inactivity_penalty_deltas}
use Rattle.rewards.specs.Shared.{totals_of}
use Rattle.rates.proofs.Rated.{source-says, target-says, head-says, penalty-says}
use Rattle.arithmetic.proofs.Laws.{next, passes-on}
use Rattle.rates.specs.Balances.{four_of}
use Rattle.rates.proofs.pairs_by.Goals.{After-flag_by, After-flag_by-2, After-flag_by-3, After-penalty_by}
use Rattle.rates.proofs.pairs_by.Goals as goal

-- the three flags and inactivity, each as it was told

source_told : (c : After-flag_by) → c.flag_by.result ≡ flag_index_deltas c.args.s c.args.h.current_epoch c.args.h.previous_epoch 0 (totals_of c.args.h c.args.source) (with_score c.args.score (decode_one c.args.entry.now))
source_told c = source-says c.requires.fits _ _ c.requires.balance_value c.entry_is_eligible-eligible.ensures c.entry_is_participating-source_is.ensures c.flag_by.ensures

target_told : (c : After-flag_by-2) → c.flag_by-2.result ≡ flag_index_deltas c.args.s c.args.h.current_epoch c.args.h.previous_epoch 1 (totals_of c.args.h c.args.target) (with_score c.args.score (decode_one c.args.entry.now))
target_told c = target-says c.requires.fits _ _ c.requires.balance_value c.entry_is_eligible-eligible.ensures c.entry_is_participating-target_is.ensures c.flag_by-2.ensures

head_told : (c : After-flag_by-3) → c.flag_by-3.result ≡ flag_index_deltas c.args.s c.args.h.current_epoch c.args.h.previous_epoch 2 (totals_of c.args.h c.args.head) (with_score c.args.score (decode_one c.args.entry.now))
head_told c = head-says c.requires.fits _ _ c.requires.balance_value c.entry_is_eligible-eligible.ensures c.entry_is_participating-head_is.ensures c.flag_by-3.ensures

penalty_told : (c : After-penalty_by) → c.penalty_by.result ≡ inactivity_penalty_deltas c.args.s c.args.quotient c.args.h.current_epoch c.args.h.previous_epoch (with_score c.args.score (decode_one c.args.entry.now))
penalty_told c = penalty-says c.requires.fits _ _ c.requires.balance_value c.entry_is_eligible-eligible.ensures _ c.entry_is_participating-target_is.ensures c.penalty_by.ensures

pub returns-in_err-a : goal.returns-in_err-a
unfolding four_of
returns-in_err-a c = passes-on _ (source_told (goal.at.returns-in_err-a c).After-flag_by) c.in_err-a.was c.from_residual.ensures

pub returns-in_err-b : goal.returns-in_err-b
unfolding four_of
returns-in_err-b c =
    let at = goal.at.returns-in_err-b c in
    next _ (source_told at.After-flag_by) c.in_ok-a.was (passes-on _ (target_told at.After-flag_by-2) c.in_err-b.was c.from_residual-in_err-b.ensures)

pub returns-in_err-c : goal.returns-in_err-c
unfolding four_of
returns-in_err-c c =
    let at = goal.at.returns-in_err-c c in
    next _ (source_told at.After-flag_by) c.in_ok-a.was (next _ (target_told at.After-flag_by-2) c.in_ok-b.was (passes-on _ (head_told at.After-flag_by-3) c.in_err-c.was c.from_residual-in_err-c.ensures))

pub penalty_by-requires : goal.penalty_by-requires
penalty_by-requires c = record { bias_nonzero = c.requires.inactivity_score_bias_nonzero; says = c.requires.says; most = c.requires.fits.most }

pub returns-in_err-d : goal.returns-in_err-d
unfolding four_of
returns-in_err-d c =
    let at = goal.at.returns-in_err-d c in
    next _ (source_told at.After-flag_by) c.in_ok-a.was (next _ (target_told at.After-flag_by-2) c.in_ok-b.was (next _ (head_told at.After-flag_by-3) c.in_ok-c.was (passes-on _ (penalty_told at.After-penalty_by) c.in_err-d.was c.from_residual-in_err-d.ensures)))

pub returns : goal.returns
unfolding four_of
returns c =
    let at = goal.at.returns c in
    next _ (source_told at.After-flag_by) c.in_ok-a.was (next _ (target_told at.After-flag_by-2) c.in_ok-b.was (next _ (head_told at.After-flag_by-3) c.in_ok-c.was (next _ (penalty_told at.After-penalty_by) c.in_ok-d.was refl)))
