-- Histories one event shorter, or cut at an event.
use Rattle.std.proofs.Common.{◌≡◌, [], ◌∷◌, ◌++◌, refl}
use Rattle.policy.specs.Timing.{Lawful}
use Rattle.machine.specs.History.{Start, sizes, Event, History, From, begun, called}
use Rattle.machine.specs.Machine.{step}
use Rattle.machine.specs.State.{State}
use Rattle.setup.specs.Limits.{KeepsLimits}
use Rattle.machine.proofs.Limits.{limits}

pub record Earlier (b : Start) (e : Event) (h : History) (s : State) : Type 0 where
  pub state : State
  pub from : From b h state
  pub replied : e.reply ≡ (step (sizes b) e.call state).reply
  pub left : s ≡ (step (sizes b) e.call state).state

pub earlier : (b : Start) {e : Event} {h : History} {s : State} → From b (e ∷ h) s → Earlier b e h s
earlier b (called {s = s₀} c f) = record { state = s₀; from = f; replied = refl; left = refl }

pub cut : (b : Start) (later h : History) (s : State) → From b (later ++ h) s → (s₀ : State) × From b h s₀
cut b [] h s f = (s, f)
cut b (e ∷ later) h s f = let u = earlier b f in cut b later h u.state u.from

-- every hub was started on a set-up within its limits and on a lawful policy
pub limits_from : (b : Start) {h : History} {s : State} → From b h s → KeepsLimits b.setup
limits_from b (begun k f) = limits b.setup k
limits_from b (called c f) = limits_from b f

pub lawful_from : (b : Start) {h : History} {s : State} → From b h s → Lawful b.timing
lawful_from b (begun k f) = f
lawful_from b (called c f) = lawful_from b f
