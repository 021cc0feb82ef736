use Rattle.totals.proofs.is_member.Goals as goal

pub entry_is_participating-requires : goal.entry_is_participating-requires
entry_is_participating-requires c = record { len = c.requires.len; flag_index_bound = rw c.in-Participating.is at c.requires.members_bound }

pub returns-in-Active : goal.returns-in-Active
returns-in-Active c = rw c.in-Active.is c.entry_is_active.ensures

pub returns-in-Eligible : goal.returns-in-Eligible
returns-in-Eligible c = rw c.in-Eligible.is c.entry_is_eligible.ensures

pub returns-in-Participating : goal.returns-in-Participating
returns-in-Participating c = rw c.in-Participating.is c.entry_is_participating.ensures
