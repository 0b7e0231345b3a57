-- The turns of an alternating policy, one slot on.
use Rattle.std.proofs.Common.{◌≡◌, ℕ, ◌+◌, ◌<◌, ap, mod-eq_of_lt, arith}
use Rattle.std.proofs.Math.Nat.{mod-add-mod}
use mathlib.Core.Path.{fun_ext}
use Rattle.alternating.specs.declared.schedule.Schedule.{Schedule}
use Rattle.policy.specs.FourNumbers.{FourHolds, number}
use Rattle.policy.specs.Timing.{later}
use Rattle.alternating.specs.Alternation.{span, in_turn, ruling, alternating, advanced}

-- the set that rules so many slots after the next is the one that rules one slot further on
turn_later : (s : Schedule) (k : ℕ) → in_turn (advanced s) ((advanced s).at + k) ≡ in_turn s (s.at + (k + 1))
turn_later s k = grind (arith, mod-add-mod (s.at + 1) (span s) k)

pub alternating_later : (s : Schedule) → alternating (advanced s) ≡ later (alternating s)
alternating_later s =
    ap (λ (turn : ℕ → FourHolds). record (alternating s) { hold = λ k core holder line requester. number (turn k) holder requester })
    (fun_ext (λ k. turn_later s k))

-- where now lies within the two spells, the set that rules now is the one of this slot
pub ruling_now : (s : Schedule) → s.at < span s → ruling s ≡ in_turn s (s.at + 0)
ruling_now s inside = grind (arith, mod-eq_of_lt)
