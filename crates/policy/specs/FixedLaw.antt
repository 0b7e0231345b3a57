-- Four numbers obey the law of policies.
use Rattle.std.specs.Prelude.{◌≤◌}
use Rattle.std.proofs.Common.{arith}
use Rattle.setup.specs.Classes.{of_class}
use Rattle.setup.specs.declared.class.Class.{Class}
use Rattle.setup.specs.declared.class.Class.TheVariants.{Critical}
use Rattle.policy.specs.Timing.{Lawful}
use Rattle.policy.specs.FourNumbers.{FourHolds, number, caps_of, fixed, FewHolds}

pub few_number : (v : FourHolds) → FewHolds v → (holder requester : Class) → number v holder requester ≤ 65535
few_number v f holder requester = grind arith

-- a four-number cap lies from 1 to 65,535 and above its number
cap_some : (v : FourHolds) (holder : Class) → 1 ≤ of_class (caps_of v) holder
cap_some v holder = grind arith

cap_few : (v : FourHolds) → FewHolds v → (holder : Class) → of_class (caps_of v) holder ≤ 65535
cap_few v f holder = grind arith

cap_above : (v : FourHolds) (holder : Class) → number v holder Critical ≤ of_class (caps_of v) holder
cap_above v holder = grind arith

pub fixed_lawful : (v : FourHolds) → FewHolds v → Lawful (fixed v)
fixed_lawful v f =
    record {
      some_cap = cap_some v;
      few_cap = cap_few v f;
      few_hold = λ k core holder line requester. few_number v f holder requester;
      capped = λ k core holder line. cap_above v holder;
    }
