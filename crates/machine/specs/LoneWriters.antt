-- Law: writers are alone.
use Rattle.std.specs.Prelude.{ℕ, ◌≢◌}
use Rattle.machine.specs.declared.call.Call.TheVariants.{StateOf}
use Rattle.machine.specs.declared.core_state.CoreState.TheVariants.{S, M, Sti, Mti}
use Rattle.machine.specs.History.{Start, History, From, sizes}
use Rattle.machine.specs.Machine.{step}
use Rattle.machine.specs.Replies.{Reply, in_state}
use Rattle.machine.specs.State.{State}

-- the states of a writer's copy are M and MTI
pub data Writers : Reply → Type 0 where
  in_m : Writers (in_state M)
  in_mti : Writers (in_state Mti)

-- the states of any copy: besides those S and STI
pub data Copied : Reply → Type 0 where
  writers : {r : Reply} → Writers r → Copied r
  in_s : Copied (in_state S)
  in_sti : Copied (in_state Sti)

-- Where one core has a writer's copy of a line, no other core has a copy of it. `told` has the answers to all questions for a state, by core
-- and line.
abbrev pub Alone : (ℕ → ℕ → Reply) → Type 0
Alone told = (line i j : ℕ) → i ≢ j → Writers (told i line) → Copied (told j line) → ⊥

-- in every state reached, that of a fresh hub included
abbrev pub WritersAreAlone : Type 0
WritersAreAlone = (start : Start) (h : History) (s : State) → From start h s
    → Alone (λ core line. (step (sizes start) (StateOf core line) s).reply)
