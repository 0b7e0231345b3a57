use Rattle.machine.proofs.Unchanged.{refusals_and_questions_change_nothing}
use Rattle.machine.proofs.laws.refusals_and_questions_change_nothing.Goals as goal

pub returns : goal.returns
returns c = refusals_and_questions_change_nothing
