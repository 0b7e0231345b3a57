-- The worked runs come out as worked.
use Rattle.std.proofs.Common.{refl}
use Rattle.machine.specs.Machine.{play}
use Rattle.worked_cases.specs.Calls.{CallsWorked}

-- every run comes out as worked, by computing all of them
pub works : CallsWorked
unfolding play
works = refl
