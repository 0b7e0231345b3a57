use Rattle.machine.proofs.FreshReads.{reads_answer_the_last_finished_write}
use Rattle.machine.proofs.laws.reads_answer_the_last_finished_write.Goals as goal

pub returns : goal.returns
returns c = reads_answer_the_last_finished_write
