use Rattle.rewards_step.proofs.reward_registry.Goals as goal

pub returns : goal.returns
returns c = rw c.shared_numbers-shared.ensures.is at c.reward_all.ensures
