-- The meaning of timer policies: caps, a timetable, and the law that ties them.
use Rattle.std.specs.Prelude.{ℕ, ◌+◌, ◌≤◌}
use Rattle.setup.specs.Bound.{Caps}
use Rattle.setup.specs.Classes.{of_class}
use Rattle.setup.specs.declared.class.Class.{Class}
use Rattle.setup.specs.declared.class.Class.TheVariants.{Critical}

-- the hold, so many slots from now, of a holder core, with its class, on a line, against a requester's class
abbrev pub Timetable : Type 0
Timetable = ℕ → ℕ → Class → ℕ → Class → ℕ

pub record Timing : Type 0 where
  pub caps : Caps
  pub hold : Timetable

-- one slot later: the caps stay, and the timetable has moved on by one
abbrev pub later : Timing → Timing
later t = record { caps = t.caps; hold = λ k. t.hold (k + 1) }

-- the law of every policy; the cap of a holder's class is one on its holds against critical requesters
pub record Lawful (t : Timing) : Type 0 where
  pub some_cap : (holder : Class) → 1 ≤ of_class t.caps holder
  pub few_cap : (holder : Class) → of_class t.caps holder ≤ 65535
  pub few_hold : (k core : ℕ) (holder : Class) (line : ℕ) (requester : Class) → t.hold k core holder line requester ≤ 65535
  pub capped : (k core : ℕ) (holder : Class) (line : ℕ) → t.hold k core holder line Critical ≤ of_class t.caps holder
