-- Histories: what was called and what was answered, the latest first.
use Rattle.std.specs.Prelude.{◌≡◌, ℕ, suc, min, Bool, true, false, if◌then◌else◌, List, [], ◌∷◌, length, None, Ok}
use Rattle.setup.specs.Bound.{bound}
use Rattle.setup.specs.Limits.{checking}
use Rattle.setup.specs.declared.draft.Draft.{Draft}
use Rattle.policy.specs.Timing.{Timing, Lawful}
use Rattle.machine.specs.declared.call.Call.{Call}
use Rattle.machine.specs.declared.call.Call.TheVariants.{Ask, Slot, Settle, WordOf, StateOf, BoundOf}
use Rattle.machine.specs.declared.request.Request.TheVariants.{Free}
use Rattle.machine.specs.declared.sizes.Sizes.{Sizes}
use Rattle.machine.specs.Machine.{step}
use Rattle.machine.specs.Replies.{Reply}
use Rattle.machine.specs.State.{State}

-- What a hub is started on ------------------------------------------------------------------------

pub record Start : Type 0 where
  pub setup : Draft
  -- what the policy means, and what the memory means
  pub timing : Timing
  pub words : List ℕ

-- a hub has the lines of the set-up that its memory has too
abbrev pub sizes : Start → Sizes
sizes start = record {
  cores = start.setup.cores;
  critical = start.setup.critical;
  lines = min start.setup.lines (length start.words);
  width = start.setup.width;
}

-- nothing is held or asked for, and core 0 is the first owner
abbrev pub fresh : Start → State
fresh start = record {
  copies = λ line core. None;
  requests = λ core. Free;
  owner = 0;
  mark = start.setup.critical;
  words = start.words;
  timing = start.timing;
}

-- the bound of a critical wait, in slots
abbrev pub longest_wait : Start → ℕ
longest_wait start = bound start.setup.critical start.timing.caps

-- Histories ---------------------------------------------------------------------------------------

pub record Event : Type 0 where
  pub call : Call
  pub reply : Reply

abbrev pub event : Call → Reply → Event
event c r = record { call = c; reply = r }

abbrev pub History : Type 0
History = List Event

-- a hub was started so, with a set-up that passes the check and a lawful policy; then these calls were made, with these replies, and led
-- to this state
pub data From (start : Start) : History → State → Type 0 where
  begun : checking start.setup ≡ Ok start.setup → Lawful start.timing → From start [] (fresh start)
  called : {h : History} {s : State} (c : Call) → From start h s
      → From start (event c (step (sizes start) c s).reply ∷ h) (step (sizes start) c s).state

-- how many slot calls there are, whatever they answered
abbrev pub is_slot : Call → Bool
is_slot (Ask core line op) = false
is_slot Slot = true
is_slot Settle = false
is_slot (WordOf line) = false
is_slot (StateOf core line) = false
is_slot BoundOf = false

abbrev pub slots : History → ℕ
slots [] = 0
slots (e ∷ h) = if is_slot e.call then suc (slots h) else slots h
