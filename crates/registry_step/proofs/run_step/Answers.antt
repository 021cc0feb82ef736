use Rattle.definitions.specs.RegisterOrder.{limited_updates_to}
use Rattle.registry_step.proofs.Run.{run-restored, run-done}
use Rattle.registry_step.proofs.run_step.Goals as goal

pub update_registry-done-requires : goal.update_registry-done-requires
update_registry-done-requires c =
    record {
      s_value = c.requires.s_value;
      state_slot_bound = c.requires.state_slot_bound;
      opening_len = (c.requires.opening_len.0, c.copy.ensures);
      stop_in_bounds = c.requires.stop_in_bounds;
      queue_value = c.requires.queue_value;
      finds = c.requires.finds;
    }

pub returns-in-Err : goal.returns-in-Err
returns-in-Err c =
    let a = c.args in
    run-restored (limited_updates_to a.limit a.stop a.s a.state_slot a.finalized_epoch) _ c.update_registry-done.ensures c.put_back.ensures c.in-Err.is c.number.ensures

pub returns : goal.returns
returns c =
    let a = c.args in
    run-done (limited_updates_to a.limit a.stop a.s a.state_slot a.finalized_epoch) _ c.update_registry-done.ensures c.put_back.ensures c.in_default.is c.queue_of-after.ensures
