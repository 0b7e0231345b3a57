use Rattle.machine.proofs.CriticalWaits.{critical_waits_are_bounded}
use Rattle.machine.proofs.laws.critical_waits_are_bounded.Goals as goal

pub returns : goal.returns
returns c = critical_waits_are_bounded
