-- One validator's weights.
use mathlib.Core.Path.{◌≡◌}
use mathlib.Core.Bool.{cond, ◌&&◌, not}
use Prim.Native.Nat.{ℕ, ◌<◌}
use native.Mathlib.Omega.{arith}
use lib.Dec.{eqb}
use Rattle.definitions.specs.Record.{Validator}
use Rattle.definitions.specs.Rust.Phase0.Helpers.{is_active_validator}
use Rattle.definitions.specs.Rust.Altair.Helpers.{has_flag}
use Rattle.definitions_votes.specs.Filling.{previous_unknown, current_unknown, Vote, filled_one}
use Rattle.definitions_votes.proofs.Filled.{active-filled, balance-filled, current-filled, previous-filled}
use Rattle.votes.specs.declared.vote_sums.VoteSums.{VoteSums}
use Rattle.votes.specs.Sums.{weight, active_at, hits_target}

pub active-is : (current mark : ℕ) (vote : Vote) (v : Validator) → weight (active_at current) (filled_one mark vote v) ≡ cond (is_active_validator v current) v.effective_balance 0
active-is current mark vote v = rw (active-filled current mark vote v current, balance-filled current mark vote v)

pub current-is : (current mark : ℕ) (vote : Vote) (v : Validator) → weight (hits_target current current) (filled_one mark vote v) ≡ cond (is_active_validator v current && cond (current_unknown mark) vote.current (has_flag v.current_epoch_participation 1) && not (eqb v.slashed 1)) v.effective_balance 0
current-is current mark vote v = rw (current-filled current mark vote v, balance-filled current mark vote v)

pub previous-is : (current previous mark : ℕ) (vote : Vote) (v : Validator) → previous < current → weight (hits_target current previous) (filled_one mark vote v) ≡ cond (is_active_validator v previous && cond (previous_unknown mark) vote.previous (has_flag v.previous_epoch_participation 1) && not (eqb v.slashed 1)) v.effective_balance 0
previous-is current previous mark vote v l = rw (previous-filled current mark vote v previous (λ e. omega arith), balance-filled current mark vote v)

pub same-sums : {a a' b b' c c' d d' e e' : ℕ} → a ≡ a' → b ≡ b' → c ≡ c' → d ≡ d' → e ≡ e' → ◌≡◌ {A = VoteSums} (record { active = a; previous_fewest = b; previous_most = c; current_fewest = d; current_most = e }) (record { active = a'; previous_fewest = b'; previous_most = c'; current_fewest = d'; current_most = e' })
same-sums p q r s t = rw (p, q, r, s, t)
