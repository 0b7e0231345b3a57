use Rattle.machine.proofs.LoneWriters.{writers_are_alone}
use Rattle.machine.proofs.laws.writers_are_alone.Goals as goal

pub returns : goal.returns
returns c = writers_are_alone
