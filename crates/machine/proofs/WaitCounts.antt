-- Waits are counted in slots.
use Rattle.std.proofs.Common.{◌≡◌, ℕ, ◌∷◌, subst, inl, inr, arith}
use Rattle.machine.specs.declared.call.Call.TheVariants.{Slot}
use Rattle.machine.specs.declared.op.Role.{Role}
use Rattle.machine.specs.declared.sizes.Sizes.{Sizes}
use Rattle.machine.specs.Arbitration.{move_mark}
use Rattle.machine.specs.History.{sizes, event, From}
use Rattle.machine.specs.Order.{order}
use Rattle.machine.specs.Parts.{wait_of}
use Rattle.machine.specs.Replies.{done}
use Rattle.machine.specs.Slot.{try_user, slotting}
use Rattle.machine.specs.State.{State}
use Rattle.machine.specs.Time.{tick_request, tick}
use Rattle.machine.specs.WaitCounts.{WaitsAreCountedInSlots}
use Rattle.machine.proofs.Histories.{earlier, cut}
use Rattle.machine.proofs.StillWaiting.{still_from}

order_wait : (z : Sizes) (s : State) (u : ℕ) → wait_of ((order z s u).requests u) ≡ wait_of (s.requests u)
unfolding order
order_wait z s u = grind arith

-- a done slot reports the wait of its user's request, once time has passed
done_wait : (z : Sizes) (s : State) (owner u l w n : ℕ) (k : Role) → done owner u l k w n ≡ (slotting z s).reply
    → n ≡ wait_of (tick_request (s.requests u))
unfolding slotting try_user tick move_mark
done_wait z s owner u l w n k e = grind (arith, order_wait)

pub waits_are_counted_in_slots : WaitsAreCountedInSlots
waits_are_counted_in_slots b h s f later before_it since owner core line asked_line word wait role op is un =
    let g = cut b later (event Slot (done owner core line role word wait) ∷ before_it) s (subst (λ k. From b k s) is f) in
    let u = earlier b g.1 in
    let asked = subst (λ k. From b k u.state) un.asked u.from in
    elim (still_from b core asked_line op since un.earlier u.state asked) [
      | inl served ↦ absurd (un.unserved served)
      | inr x ↦ grind (arith, done_wait (sizes b) u.state owner core line word wait role u.replied)
    ]
