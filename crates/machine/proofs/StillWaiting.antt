-- A request that waits goes on waiting and counts the slots, until a done slot of its core.
use Rattle.std.proofs.Common.{◌≡◌, ℕ, suc, min, true, cond, ◌≢◌, ◌⊎◌, [], ◌∷◌, ◌++◌, sym, subst, inl, inr, arith}
use Rattle.std.proofs.lemmas.Bool.{eqb-true}
use Rattle.machine.specs.declared.call.Call.{Call}
use Rattle.machine.specs.declared.call.Call.TheVariants.{Ask, Slot}
use Rattle.machine.specs.declared.op.Op.{Op}
use Rattle.machine.specs.declared.request.Request.{Request}
use Rattle.machine.specs.declared.sizes.Sizes.{Sizes}
use Rattle.machine.specs.Answering.{Served, before}
use Rattle.machine.specs.Arbitration.{move_mark}
use Rattle.machine.specs.Asking.{asking}
use Rattle.machine.specs.Grant.{grant}
use Rattle.machine.specs.History.{Start, sizes, event, History, From, is_slot, slots}
use Rattle.machine.specs.Machine.{step}
use Rattle.machine.specs.Order.{order}
use Rattle.machine.specs.Parts.{is_waiting, wait_of}
use Rattle.machine.specs.Questions.{telling_word, telling_state}
use Rattle.machine.specs.Replies.{waits}
use Rattle.machine.specs.Settling.{settling}
use Rattle.machine.specs.Slot.{end_slot, try_user, slotting}
use Rattle.machine.specs.State.{State}
use Rattle.machine.specs.Time.{tick_wait, tick}
use Rattle.machine.proofs.Effects.{effect, is_served, served_now}
use Rattle.machine.proofs.Histories.{earlier}

pub record Still (r : Request) (w : ℕ) : Type 0 where
  pub waits : is_waiting r ≡ true
  pub count : wait_of r ≡ w

module _ (z : Sizes) (i : ℕ) where
  still_order : (s : State) (u w : ℕ) → Still (s.requests i) w → Still ((order z s u).requests i) w
  unfolding order
  still_order s u w x = grind (arith, eqb-true)

  still_grant : (s : State) (u w : ℕ) → i ≢ u → Still (s.requests i) w → Still ((grant z s u).requests i) w
  unfolding grant
  still_grant s u w ne x = grind arith

  still_slot : (s : State) (w : ℕ) → Still (s.requests i) w
      → (is_served i (effect Slot (slotting z s).reply) ≡ true) ⊎ Still ((slotting z s).state.requests i) (tick_wait w)
  unfolding slotting try_user tick end_slot move_mark
  still_slot s w x = grind (arith, still_order, still_grant)

  still_ask : (s : State) (j l w : ℕ) (o : Op) → Still (s.requests i) w → Still ((asking z j l o s).state.requests i) w
  unfolding asking
  still_ask s j l w o x = grind (arith, eqb-true)

  -- n is the number of slots since the ask
  still_step : (s : State) (c : Call) (n : ℕ) → Still (s.requests i) (min n 4294967295)
      → (is_served i (effect c (step z c s).reply) ≡ true)
      ⊎ Still ((step z c s).state.requests i) (min (cond (is_slot c) (suc n) n) 4294967295)
  unfolding settling telling_word telling_state
  still_step s c n x = grind (arith, still_ask, still_slot s (min n 4294967295) x)

-- an ask that is told to wait leaves a request that has waited for 0 slots
still_new : (z : Sizes) (s : State) (i l : ℕ) (o : Op) → waits ≡ (asking z i l o s).reply
    → Still ((asking z i l o s).state.requests i) 0
unfolding asking
still_new z s i l o e = grind arith

-- since such an ask the core was served, or its request waits with the number of slots as its wait count
pub still_from : (b : Start) (i l : ℕ) (o : Op) (since before_it : History) (s : State)
    → From b (since ++ (event (Ask i l o) waits ∷ before_it)) s
    → Served i since ⊎ Still (s.requests i) (min (slots since) 4294967295)
still_from b i l o [] before_it s f =
    let u = earlier b f in
    inr (subst (λ t. Still (t.requests i) 0) (sym u.left) (still_new (sizes b) u.state i l o u.replied))
still_from b i l o (e ∷ since) before_it s f =
    let u = earlier b f in
    elim (still_from b i l o since before_it u.state u.from) [
      | inl y ↦ inl (before y)
      | inr x ↦ elim (still_step (sizes b) i u.state e.call (slots since) x) [
        | inl d ↦ inl (served_now i e since (rw u.replied d))
        | inr y ↦ inr (subst (λ t. Still (t.requests i) (min (slots (e ∷ since)) 4294967295)) (sym u.left) y)
      ]
    ]
