use Rattle.definitions_deneb.specs.Calls.{deneb_close}
use Rattle.deneb.proofs.deneb_close.Goals as goal

pub returns : goal.returns
unfolding deneb_close
returns c = rw (c.limit_of-limit.ensures, c.under_bellatrix-under.ensures) at c.full_close.ensures
