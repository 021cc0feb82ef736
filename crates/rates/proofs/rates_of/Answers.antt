use mathlib.Core.Path.{◌≡◌, refl, sym, ◌∙◌}
use Rattle.arithmetic.proofs.Operations.{only-bind, only-mul64}
use Rattle.definitions.specs.Checked.{refused}
use Rattle.definitions.specs.declared.Refusal.{Refusal}
use Rattle.definitions.specs.declared.Refusal.TheVariants.{Overflow}
use Rattle.rewards.proofs.base_rewards.Base.{only-per_increment}
use Rattle.rates.proofs.rates_of.Goals.{After-base_of-base}
use Rattle.rates.proofs.rates_of.Goals as goal

only-base : (c : After-base_of-base) (p : Refusal) → c.base_of-base.result ≡ refused p → p ≡ Overflow
only-base c p e = (only-bind (only-per_increment _ _) (λ reward. only-mul64 _ _)).why p (sym c.base_of-base.ensures ∙ e)

pub returns : goal.returns
returns c =
    let o = only-base (goal.at.returns c).After-base_of-base in
    let b = c.base_of-base.ensures in
    record {
      fits = record {
        source_hit = rw b at (c.hit_amount-source_reward.ensures.of o);
        source_miss = rw b at (c.miss_amount-source_penalty.ensures.of o);
        target_hit = rw b at (c.hit_amount-target_reward.ensures.of o);
        target_miss = rw b at (c.miss_amount-target_penalty.ensures.of o);
        head_hit = rw b at (c.hit_amount-head_reward.ensures.of o);
        head_miss = rw b at (c.miss_amount-head_penalty.ensures.of o);
        most = c.most_score_of-most_score.ensures;
      };
      effective_balance_value = refl;
    }
