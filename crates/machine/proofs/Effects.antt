-- What an event does to requests, told from its call and reply.
use Rattle.std.proofs.Common.{arith, ◌≡◌, ℕ, Bool, true, false, eqb, ◌⊎◌, ◌∷◌, Ok, refl, subst, inl, inr}
use Rattle.std.proofs.lemmas.Bool.{eq-eqb, eqb-true}
use Rattle.machine.specs.declared.call.Call.{Call}
use Rattle.machine.specs.declared.call.Call.TheVariants.{Ask, Slot}
use Rattle.machine.specs.declared.op.Op.{Op}
use Rattle.machine.specs.declared.op.Role.{Role}
use Rattle.machine.specs.declared.reply.Answer.TheVariants.{ToAsk, ToSlot}
use Rattle.machine.specs.declared.reply.AskAnswer.TheVariants.{Hit, Waits}
use Rattle.machine.specs.declared.reply.SlotAnswer.TheVariants.{Done}
use Rattle.machine.specs.Answering.{Served, now, before}
use Rattle.machine.specs.History.{Event, event, History}
use Rattle.machine.specs.Replies.{Reply, hit, waits, done}

pub data Effect : Type 0 where
  no_effect : Effect
  -- a core's ask for a line was told to wait, or was a hit with a word
  begins : ℕ → ℕ → Op → Effect
  hits : ℕ → ℕ → Op → ℕ → Effect
  -- a done slot of a core, with a word
  serves : ℕ → ℕ → Effect

abbrev pub effect : Call → Reply → Effect
effect (Ask i l o) (Ok (ToAsk (Hit w))) = hits i l o w
effect (Ask i l o) (Ok (ToAsk Waits)) = begins i l o
effect Slot (Ok (ToSlot (Done owner user line role word wait))) = serves user word
effect _ _ = no_effect

abbrev pub effect_of : Event → Effect
effect_of e = effect e.call e.reply

-- which event has an effect
abbrev pub Caused : Effect → Event → Type 0
Caused no_effect e = Unit {0}
Caused (begins i l o) e = e ≡ event (Ask i l o) waits
Caused (hits i l o w) e = e ≡ event (Ask i l o) (hit w)
Caused (serves i w) e = (owner line wait : ℕ) × (role : Role) × (e ≡ event Slot (done owner i line role w wait))

caused_by : (c : Call) (r : Reply) → Caused (effect c r) (event c r)
caused_by (Ask i l o) (Ok (ToAsk (Hit w))) = refl
caused_by (Ask i l o) (Ok (ToAsk Waits)) = refl
caused_by Slot (Ok (ToSlot (Done owner user line role word wait))) = (owner, line, wait, role, refl)
caused_by _ _ = tt

pub caused : (e : Event) (x : Effect) → effect_of e ≡ x → Caused x e
caused e x q = subst (λ y. Caused y e) q (caused_by e.call e.reply)

-- Done slots of a core ----------------------------------------------------------------------------

abbrev pub is_served : ℕ → Effect → Bool
is_served i (serves j w) = eqb i j
is_served i _ = false

pub served_now : (i : ℕ) (e : Event) (h : History) → is_served i (effect_of e) ≡ true → Served i (e ∷ h)
served_now i e h t = go e.call e.reply t
  where
    go : (c : Call) (r : Reply) → is_served i (effect c r) ≡ true → Served i (event c r ∷ h)
    go Slot (Ok (ToSlot (Done owner user line role word wait))) t = rw (eqb-true i user t) now
    go _ _ t = grind arith

-- served by the latest event, or before
pub served_when : (i : ℕ) (e : Event) (h : History) → Served i (e ∷ h) → (is_served i (effect_of e) ≡ true) ⊎ Served i h
served_when i e h now = inl (eq-eqb i i refl)
served_when i e h (before y) = inr y
