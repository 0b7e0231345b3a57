-- Two sets in turn obey the law of policies.
use Rattle.std.specs.Prelude.{◌≤◌}
use Rattle.std.proofs.Common.{arith}
use Rattle.setup.specs.Classes.{of_class}
use Rattle.setup.specs.declared.class.Class.{Class}
use Rattle.setup.specs.declared.class.Class.TheVariants.{Critical}
use Rattle.policy.specs.FourNumbers.{FourHolds, number, caps_of, FewHolds}
use Rattle.policy.specs.FixedLaw.{few_number}
use Rattle.policy.specs.Timing.{Lawful}
use Rattle.alternating.specs.declared.schedule.Schedule.{Schedule}
use Rattle.alternating.specs.Alternation.{larger, alternating, SomeSpell}

-- the caps of two sets
larger_some : (a b : FourHolds) (holder : Class) → 1 ≤ of_class (larger (caps_of a) (caps_of b)) holder
larger_some a b holder = grind arith

larger_few : (a b : FourHolds) → FewHolds a → FewHolds b → (holder : Class) → of_class (larger (caps_of a) (caps_of b)) holder ≤ 65535
larger_few a b f g holder = grind arith

larger_first : (a b : FourHolds) (holder : Class) → number a holder Critical ≤ of_class (larger (caps_of a) (caps_of b)) holder
larger_first a b holder = grind arith

larger_second : (a b : FourHolds) (holder : Class) → number b holder Critical ≤ of_class (larger (caps_of a) (caps_of b)) holder
larger_second a b holder = grind arith

pub alternating_lawful : (s : Schedule) → SomeSpell s.first → SomeSpell s.second → Lawful (alternating s)
alternating_lawful s f g =
    let a = s.first.holds in
    let b = s.second.holds in
    record {
      some_cap = larger_some a b;
      few_cap = larger_few a b f.1 g.1;
      few_hold = λ k core holder line requester. grind (arith, few_number);
      capped = λ k core holder line. grind (arith, larger_first a b holder, larger_second a b holder);
    }
