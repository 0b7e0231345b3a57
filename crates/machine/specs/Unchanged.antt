-- Law: refusals and questions change nothing.
use Rattle.std.specs.Prelude.{◌≡◌, ℕ, ◌⊎◌}
use Rattle.setup.specs.declared.refusal.Refusal.{Refusal}
use Rattle.machine.specs.declared.call.Call.{Call}
use Rattle.machine.specs.declared.call.Call.TheVariants.{WordOf, StateOf, BoundOf}
use Rattle.machine.specs.History.{Start, History, From, sizes}
use Rattle.machine.specs.Machine.{step}
use Rattle.machine.specs.Replies.{refused}
use Rattle.machine.specs.State.{State}

pub data Question : Call → Type 0 where
  for_word : {line : ℕ} → Question (WordOf line)
  for_state : {core line : ℕ} → Question (StateOf core line)
  for_bound : Question BoundOf

-- in every state reached, a call that is refused, or that is a question, leaves the state as it was
abbrev pub RefusalsAndQuestionsChangeNothing : Type 0
RefusalsAndQuestionsChangeNothing =
    (start : Start) (h : History) (s : State) → From start h s
    → (c : Call) → ((e : Refusal) × ((step (sizes start) c s).reply ≡ refused e)) ⊎ Question c → (step (sizes start) c s).state ≡ s
