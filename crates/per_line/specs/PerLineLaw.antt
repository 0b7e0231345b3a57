-- A table of holds for each line obeys the law of policies.
use Rattle.std.specs.Prelude.{ℕ, List}
use Rattle.std.proofs.Common.{arith}
use Rattle.setup.specs.Bound.{Caps}
use Rattle.policy.specs.FourNumbers.{FewHolds}
use Rattle.policy.specs.FixedLaw.{few_number}
use Rattle.policy.specs.OwnCaps.{SomeCaps, FewCaps, some_own, few_own, cut_few}
use Rattle.policy.specs.Timing.{Lawful}
use Rattle.per_line.specs.PerLine.{line_holds, per_line, FewTable}

few_line : (table : List ℕ) → FewTable table → (line : ℕ) → FewHolds (line_holds table line)
few_line table few line = grind (arith, few)

pub per_line_lawful : (table : List ℕ) (caps : Caps) → FewTable table → SomeCaps caps → FewCaps caps → Lawful (per_line table caps)
per_line_lawful table caps t s f =
    record {
      some_cap = some_own caps s;
      few_cap = few_own caps f;
      few_hold = λ k core holder line requester. cut_few caps holder requester _ (few_number (line_holds table line) (few_line table t line) holder requester);
      capped = λ k core holder line. omega arith;
    }
