use Rattle.machine.proofs.WaitCounts.{waits_are_counted_in_slots}
use Rattle.machine.proofs.laws.waits_are_counted_in_slots.Goals as goal

pub returns : goal.returns
returns c = waits_are_counted_in_slots
