use Rattle.worked_cases.proofs.worked_calls_hold.Goals as goal
use Rattle.worked_cases.proofs.Calls.{works}

pub returns : goal.returns
returns c = works
