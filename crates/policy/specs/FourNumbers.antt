-- Kind 1: four numbers, the same for every slot, core and line.
use Rattle.std.specs.Prelude.{ℕ, ◌≤◌, max}
use Rattle.setup.specs.Bound.{Caps}
use Rattle.setup.specs.Classes.{of_class}
use Rattle.setup.specs.declared.class.ByClass.{ByClass}
use Rattle.setup.specs.declared.class.Class.{Class}
use Rattle.setup.specs.declared.class.Class.TheVariants.{Critical, NonCritical}
use Rattle.policy.specs.Timing.{Timing}

-- holds by the requester's class
abbrev pub Against : Type 0
Against = ByClass ℕ

-- by the holder's class, and then by the requester's
abbrev pub FourHolds : Type 0
FourHolds = ByClass Against

abbrev pub number : FourHolds → Class → Class → ℕ
number v holder requester = of_class (of_class v holder) requester

-- a cap of 0 is raised to 1
abbrev pub raised : Caps → Caps
raised caps = record { critical = max 1 caps.critical; noncritical = max 1 caps.noncritical }

-- the caps are the holds against critical requesters
abbrev pub caps_of : FourHolds → Caps
caps_of v = raised (record { critical = number v Critical Critical; noncritical = number v NonCritical Critical })

abbrev pub fixed : FourHolds → Timing
fixed v = record { caps = caps_of v; hold = λ k core holder line requester. number v holder requester }

-- numbers of sixteen bits
abbrev pub Few : ℕ → Type 0
Few n = n ≤ 65535

abbrev pub FewHolds : FourHolds → Type 0
FewHolds v = (Few v.critical.critical × Few v.critical.noncritical) × (Few v.noncritical.critical × Few v.noncritical.noncritical)
