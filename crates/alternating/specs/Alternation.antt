-- Kind 3: two sets of holds that rule in turn.
use Rattle.std.specs.Prelude.{ℕ, ◌+◌, ◌%◌, ◌≤◌, max, if◌then◌else◌, nat_lt}
use Rattle.setup.specs.Bound.{Caps}
use Rattle.policy.specs.FourNumbers.{FourHolds, number, caps_of, Few, FewHolds}
use Rattle.policy.specs.Timing.{Timing}
use Rattle.alternating.specs.declared.schedule.Schedule.{Schedule}
use Rattle.alternating.specs.declared.schedule.Spell.{Spell}

-- the larger caps of two pairs
abbrev pub larger : Caps → Caps → Caps
larger a b = record { critical = max a.critical b.critical; noncritical = max a.noncritical b.noncritical }

-- two spells in turn, each with its holds for its number of slots; now is slot `at` of the two
abbrev pub span : Schedule → ℕ
span s = s.first.slots + s.second.slots

abbrev pub in_turn : Schedule → ℕ → FourHolds
in_turn s slot = if nat_lt (slot % span s) s.first.slots then s.first.holds else s.second.holds

abbrev pub alternating : Schedule → Timing
alternating s =
    record {
      caps = larger (caps_of s.first.holds) (caps_of s.second.holds);
      hold = λ k core holder line requester. number (in_turn s (s.at + k)) holder requester;
    }

-- the set that rules now, where `at` lies within the two spells, and the schedule one slot on
abbrev pub ruling : Schedule → FourHolds
ruling s = if nat_lt s.at s.first.slots then s.first.holds else s.second.holds

abbrev pub advanced : Schedule → Schedule
advanced s = record s { at = (s.at + 1) % span s }

-- spells have at least one slot, and the first begins
abbrev pub spell : FourHolds → ℕ → Spell
spell holds slots = record { holds = holds; slots = max 1 slots }

abbrev pub schedule : Spell → Spell → Schedule
schedule first second = record { first = first; second = second; at = 0 }

-- a spell of at least one slot, and of numbers of sixteen bits
abbrev pub SomeSpell : Spell → Type 0
SomeSpell s = ((1 ≤ s.slots) × Few s.slots) × FewHolds s.holds
