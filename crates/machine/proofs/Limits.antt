-- What a set-up that passes the check keeps to.
use Rattle.std.proofs.Common.{◌≡◌, Ok, arith}
use Rattle.setup.specs.Limits.{KeepsLimits, checking}
use Rattle.setup.specs.declared.draft.Draft.{Draft}

pub limits : (d : Draft) → checking d ≡ Ok d → KeepsLimits d
limits d e = record { cores = grind arith; critical = grind arith; lines = grind arith; width = grind arith }
