-- Law: critical waits are bounded.
use Rattle.std.specs.Prelude.{◌≡◌, ℕ, ◌<◌, ◌≤◌, ◌⊎◌, ◌∷◌, ◌++◌, ◌≢◌}
use Rattle.setup.specs.declared.refusal.Refusal.{Refusal}
use Rattle.machine.specs.declared.call.Call.TheVariants.{Ask}
use Rattle.machine.specs.declared.op.Op.{Op}
use Rattle.machine.specs.Answering.{Served}
use Rattle.machine.specs.History.{Start, History, From, event, longest_wait, slots}
use Rattle.machine.specs.Replies.{Reply, refused, hit, waits}
use Rattle.machine.specs.State.{State}

-- An ask of a critical core that was not refused was a hit, or was told to wait; and then every stretch of calls right after it with at
-- least as many slots as the bound, refused slots counted, has a done slot of that core.
abbrev pub Bounded : Start → History → Type 0
Bounded start h =
    (later since earlier : History) (core line : ℕ) (op : Op) (r : Reply)
    → h ≡ later ++ (since ++ (event (Ask core line op) r ∷ earlier)) → ((e : Refusal) → r ≢ refused e) → core < start.setup.critical
    → ((word : ℕ) × (r ≡ hit word)) ⊎ ((r ≡ waits) × (longest_wait start ≤ slots since → Served core since))

abbrev pub CriticalWaitsAreBounded : Type 0
CriticalWaitsAreBounded = (start : Start) (h : History) (s : State) → From start h s → Bounded start h
