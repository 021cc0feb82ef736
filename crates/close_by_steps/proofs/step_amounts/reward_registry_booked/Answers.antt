use Rattle.close_by_steps.proofs.step_amounts.reward_registry_booked.Goals as goal

pub reward_all_booked-requires : goal.reward_all_booked-requires
reward_all_booked-requires c =
    let a = c.requires in
    record { shared_by = c.shared_numbers-shared.ensures.by; inactivity_score_bias_nonzero = a.inactivity_score_bias_nonzero; says = c.mul64-product.ensures; registry_len = a.registry_len }

pub returns : goal.returns
returns c = rw c.shared_numbers-shared.ensures.is at c.reward_all_booked.ensures
