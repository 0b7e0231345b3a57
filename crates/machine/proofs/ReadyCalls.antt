-- Every call keeps a hub ready, and so it is in every state reached.
use Rattle.std.proofs.Common.{◌≡◌, ℕ, ◌+◌, ◌-◌, ◌*◌, ◌<◌, ◌≤◌, true, Some, sym, refl, subst, mul-le-mul, arith}
use Rattle.setup.specs.Bound.{Caps}
use Rattle.policy.specs.Timing.{Lawful}
use Rattle.setup.specs.declared.class.Class.TheVariants.{Critical, NonCritical}
use Rattle.machine.specs.declared.call.Call.{Call}
use Rattle.machine.specs.declared.call.Call.TheVariants.{Ask, Slot, Settle, WordOf, StateOf, BoundOf}
use Rattle.machine.specs.declared.held.Held.{Held}
use Rattle.machine.specs.declared.op.Op.{Op}
use Rattle.machine.specs.declared.sizes.Sizes.{Sizes}
use Rattle.machine.specs.Asking.{write_hit, asking}
use Rattle.machine.specs.History.{Start, sizes, longest_wait, History, From, begun, called}
use Rattle.machine.specs.Machine.{step}
use Rattle.machine.specs.Parts.{is_waiting, wait_of}
use Rattle.machine.specs.Questions.{telling_word, telling_state}
use Rattle.machine.specs.Settling.{settling}
use Rattle.machine.specs.State.{State}
use Rattle.machine.proofs.Asks.{ask_all, unless_same}
use Rattle.machine.proofs.Due.{due_map}
use Rattle.machine.proofs.Histories.{limits_from, lawful_from}
use Rattle.setup.specs.Limits.{KeepsLimits}
use Rattle.machine.proofs.Limits.{limits}
use Rattle.machine.proofs.Queues.{queues_none}
use Rattle.machine.proofs.Ready.{Fit, Ready}
use Rattle.machine.proofs.ReadySlot.{ready_slot}
use Rattle.machine.proofs.ReadySteps.{ready_asked}

module _ (z : Sizes) (caps : Caps) (fit : Fit z caps) where
  -- a write hit touches no timer, and the copy stays in the way of the same requests
  ready_hit : (s : State) (i l w : ℕ) (old : Held) → s.copies l i ≡ Some old → Ready z caps 1 s
      → Ready z caps 1 (write_hit i l (record old { word = w }) s).state
  ready_hit s i l w old was r =
      record {
        in_turn = r.in_turn;
        timed = r.timed;
        capped = λ m k. grind (arith, r.capped m k);
        queues = r.queues;
        due = λ j h. due_map _ _ _ 1 _ _ _ _ s.owner j (λ _ _ _ e. e) (s.requests j)
            (λ m a n _ over j k b hj seat b≤a way. grind (arith, over j k b hj seat b≤a)) (r.due j h);
      }

  ready_ask : (s : State) (i l : ℕ) (o : Op) → Ready z caps 1 s → Ready z caps 1 (asking z i l o s).state
  ready_ask s i l o r =
      ask_all z i l s (λ o out. Ready z caps 1 out.state) (λ _ _. r) (λ o _ _ free _. ready_asked z caps fit s i l o free r)
      (λ _ _. r) (λ w copy _ was _. ready_hit s i l w copy was r) o

  ready_step : (s : State) (c : Call) → Ready z caps 1 s → Ready z caps 1 (step z c s).state
  unfolding settling telling_word telling_state
  ready_step s (Ask i l o) r = ready_ask s i l o r
  ready_step s Slot r = ready_slot z caps fit s r
  ready_step s Settle r = r
  ready_step s (WordOf l) r = subst (Ready z caps 1) (sym (unless_same _ _ s)) r
  ready_step s (StateOf i l) r = subst (Ready z caps 1) (sym (unless_same _ _ s)) r
  ready_step s BoundOf r = r

fit_from : (b : Start) {h : History} {s : State} → From b h s → Fit (sizes b) b.timing.caps
fit_from b f =
    let k = limits_from b f in
    record { some_critical = k.critical.0; few_critical = k.critical.1; some_caps = (lawful_from b f).some_cap }

ready_from : (b : Start) {h : History} {s : State} → From b h s → Ready (sizes b) b.timing.caps 1 s
ready_from b (begun k f) =
    let d = limits b.setup k in
    record {
      in_turn = record { owner_critical = d.critical.0; mark_low = omega arith; mark_high = d.critical.1 };
      timed = record { lawful = f; same_caps = refl };
      capped = λ l j. omega arith;
      queues = queues_none b.setup.critical b.setup.cores;
      due = λ i h. tt;
    }
ready_from b (called {s = s} c f) = ready_step (sizes b) b.timing.caps (fit_from b f) s c (ready_from b f)

-- between calls a critical request has waited less than the bound
pub wait_below : (b : Start) {h : History} {s : State} → From b h s → (i : ℕ) → i < b.setup.critical → is_waiting (s.requests i) ≡ true
    → wait_of (s.requests i) < longest_wait b
wait_below b {h} {s} f i a t =
    let fit = fit_from b f in
    let few = fit.some_caps Critical in
    let due = (ready_from b f).due i a in
    grind arith

-- .. so that no wait count stops short of it
pub bound_small : (b : Start) → KeepsLimits b.setup → Lawful b.timing → longest_wait b < 4294967295
bound_small b k f =
    let c : ℕ = b.setup.critical in
    let hc : ℕ = b.timing.caps.critical in
    let few : c - 1 ≤ 7 = omega (arith, k.critical.1, k.cores.1) in
    let short : hc + c - 1 ≤ 65542 = omega (arith, few, f.few_cap Critical, k.critical.0) in
    let product : (c - 1) * (hc + c - 1) ≤ 7 * 65542 = mul-le-mul few short in
    omega (arith, product, k.critical.1, k.cores.1, f.few_cap Critical, f.few_cap NonCritical)
