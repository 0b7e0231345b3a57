-- Kind 2: four numbers for each line from a table, cut to given caps.
use Rattle.std.specs.Prelude.{ℕ, ◌+◌, ◌*◌, ◌/◌, if◌then◌else◌, List, length, nat_lt, slice_index}
use Rattle.setup.specs.Bound.{Caps}
use Rattle.policy.specs.FourNumbers.{FourHolds, number, Few}
use Rattle.policy.specs.OwnCaps.{cut}
use Rattle.policy.specs.Timing.{Timing}

-- holds of 0 for a line of which the table has not all four numbers
abbrev pub none : FourHolds
none = record { critical = record { critical = 0; noncritical = 0 }; noncritical = record { critical = 0; noncritical = 0 } }

abbrev pub line_holds : List ℕ → ℕ → FourHolds
line_holds table line =
    if nat_lt line (length table / 4)
    then record {
      critical = record { critical = slice_index table (4 * line); noncritical = slice_index table (4 * line + 1) };
      noncritical = record { critical = slice_index table (4 * line + 2); noncritical = slice_index table (4 * line + 3) };
    }
    else none

abbrev pub per_line : List ℕ → Caps → Timing
per_line table caps =
    record { caps = caps; hold = λ k core holder line requester. cut caps holder requester (number (line_holds table line) holder requester) }

-- numbers of sixteen bits
abbrev pub FewTable : List ℕ → Type 0
FewTable table = (i : ℕ) → Few (slice_index table i)
