use Rattle.machine.proofs.AcceptedLines.{memory_refuses_no_line}
use Rattle.machine.proofs.laws.memory_refuses_no_line.Goals as goal

pub returns : goal.returns
returns c = memory_refuses_no_line
