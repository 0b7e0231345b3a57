use Rattle.runfile.proofs.WrittenHead.{reads_what_was_written}
use Rattle.runfile.proofs.head.read_head.Goals as goal

pub returns-clause-written : goal.returns-clause-written
returns-clause-written c = reads_what_was_written _ _ c.head_of.ensures
