-- Which event answers which request, and which word a line has, by calls and replies alone.
use Rattle.std.specs.Prelude.{◌≡◌, ℕ, [], ◌∷◌, ◌++◌, slice_index}
use Rattle.machine.specs.declared.call.Call.TheVariants.{Ask, Slot}
use Rattle.machine.specs.declared.op.Op.{Op}
use Rattle.machine.specs.declared.op.Op.TheVariants.{Write}
use Rattle.machine.specs.declared.op.Role.{Role}
use Rattle.machine.specs.History.{Start, Event, event, History}
use Rattle.machine.specs.Replies.{hit, waits, done}

-- the history has a done slot whose user is the core
pub data Served (core : ℕ) : History → Type 0 where
  now : {h : History} {owner line word wait : ℕ} {role : Role} → Served core (event Slot (done owner core line role word wait) ∷ h)
  before : {e : Event} {h : History} → Served core h → Served core (e ∷ h)

-- the core's ask was told to wait, and no done slot of the core has come since
pub record Unanswered (core line : ℕ) (op : Op) (since h : History) : Type 0 where
  pub earlier : History
  pub asked : h ≡ since ++ (event (Ask core line op) waits ∷ earlier)
  pub unserved : Served core since → ⊥

-- the event, coming after h, answers a request with this word: as the hit of its ask, or as the first done slot of the core since its ask
pub data Answers (core line : ℕ) (op : Op) (word : ℕ) : Event → History → Type 0 where
  at_once : {h : History} → Answers core line op word (event (Ask core line op) (hit word)) h
  in_slot : {since h : History} {owner l wait : ℕ} {role : Role} → Unanswered core line op since h
      → Answers core line op word (event Slot (done owner core l role word wait)) h

-- the word that the line's last finished write named, or the line's starting word; a write is finished by its answer
pub data Latest (start : Start) (line : ℕ) : History → ℕ → Type 0 where
  starting : Latest start line [] (slice_index start.words line)
  finished : {e : Event} {h : History} {core new word : ℕ} → Answers core line (Write new) word e h → Latest start line (e ∷ h) new
  kept : {e : Event} {h : History} {old : ℕ} → ((core new word : ℕ) → Answers core line (Write new) word e h → ⊥) → Latest start line h old
      → Latest start line (e ∷ h) old
