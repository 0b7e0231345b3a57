-- The seat of a request in its line's order.
use Rattle.std.proofs.Common.{ℕ, ◌-◌, cond, eqb}
use Rattle.machine.specs.declared.request.Request.{Request}
use Rattle.machine.specs.declared.request.Request.TheVariants.{Ordered}
use Rattle.machine.proofs.Queues.{Seat, unseated, seated}

abbrev pub seat_of : Request → Seat
seat_of (Ordered l p a w) = seated l a
seat_of _ = unseated

-- one before it on the line l has left
abbrev pub raised : ℕ → Request → Request
raised l (Ordered l' p a w) = Ordered l' p (cond (eqb l' l) (a - 1) a) w
raised l r = r
