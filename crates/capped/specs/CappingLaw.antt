-- A lawful policy under caps obeys the law of policies.
use Rattle.std.specs.Prelude.{min, ◌≡◌}
use Rattle.std.proofs.Common.{arith}
use Rattle.setup.specs.Bound.{Caps}
use Rattle.setup.specs.Classes.{of_class}
use Rattle.setup.specs.declared.class.Class.{Class}
use Rattle.policy.specs.OwnCaps.{SomeCaps, some_own, cut_few}
use Rattle.policy.specs.Timing.{Timing, Lawful}
use Rattle.capped.specs.Capping.{smaller, capped}

-- the smaller of two caps
smaller_cap : (a b : Caps) (holder : Class) → of_class (smaller a b) holder ≡ min (of_class a holder) (of_class b holder)
smaller_cap a b holder = grind arith

pub capped_lawful : (caps : Caps) (t : Timing) → SomeCaps caps → Lawful t → Lawful (capped caps t)
capped_lawful caps t s law =
    record {
      some_cap = λ holder. omega (arith, smaller_cap caps t.caps holder, some_own caps s holder, law.some_cap holder);
      few_cap = λ holder. omega (arith, smaller_cap caps t.caps holder, law.few_cap holder);
      few_hold = λ k core holder line requester. cut_few caps holder requester _ (law.few_hold k core holder line requester);
      capped = λ k core holder line. omega (arith, smaller_cap caps t.caps holder, law.capped k core holder line);
    }
