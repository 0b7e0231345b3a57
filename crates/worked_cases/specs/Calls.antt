-- One table of worked runs of the machine, call by call, and of the codes and names of its states.
use Rattle.std.specs.Prelude.{◌≡◌, ℕ, List, [], ◌∷◌, map, codes}
use Rattle.machine.specs.declared.call.Call.{Call}
use Rattle.machine.specs.declared.core_state.CoreState.{CoreState}
use Rattle.machine.specs.declared.core_state.CoreState.TheVariants.{I, S, M, Sti, Mti, Isad, Isd, Imad, Imd}
use Rattle.machine.specs.CoreState.{code_of}
use Rattle.machine.specs.History.{Start, sizes, fresh}
use Rattle.machine.specs.Machine.{Played, play}
use Rattle.machine.specs.Replies.{Reply}
use Rattle.machine.specs.StateNames.{state_name}
use Rattle.worked_cases.specs.Runs.{Run, small, hand_over, upgrade, critical_first, two_orders, three_in_order, settled_twice, round, all_states, refusals, no_memory, bound_reached, timetable}

pub data Question : Type 0 where
  -- the code of a state
  coded : CoreState → Question
  -- the name of a state, by its code
  named : ℕ → Question
  -- what a hub answers to calls in a row, and what its memory then holds
  called : Start → List Call → Question

pub data Outcome : Type 0 where
  number : ℕ → Outcome
  letters : List ℕ → Outcome
  answers : List Reply → List ℕ → Outcome

abbrev pub outcome : Question → Outcome
outcome (coded state) = number (code_of state)
outcome (named code) = letters (state_name code)
outcome (called b calls) = let end : Played = play (sizes b) calls (fresh b) in answers end.replies end.state.words

pub record Row : Type 0 where
  pub question : Question
  pub worked : Outcome

abbrev pub row : Question → Outcome → Row
row q o = record { question = q; worked = o }

-- the calls of a run, answered as the run says
abbrev pub as_told : Run → Row
as_told r = row (called r.start (map (λ e. e.call) r.events)) (answers (map (λ e. e.reply) r.events) r.left)

abbrev pub table : List Row
table =
    -- codes of states
    row (coded I) (number 0)
    ∷ row (coded S) (number 1)
    ∷ row (coded M) (number 2)
    ∷ row (coded Sti) (number 3)
    ∷ row (coded Mti) (number 4)
    ∷ row (coded Isad) (number 5)
    ∷ row (coded Isd) (number 6)
    ∷ row (coded Imad) (number 7)
    ∷ row (coded Imd) (number 8)
    -- names of states, and of a number that is no code
    ∷ row (named 0) (letters (codes "I   "))
    ∷ row (named 1) (letters (codes "S   "))
    ∷ row (named 2) (letters (codes "M   "))
    ∷ row (named 3) (letters (codes "STI "))
    ∷ row (named 4) (letters (codes "MTI "))
    ∷ row (named 5) (letters (codes "ISAD"))
    ∷ row (named 6) (letters (codes "ISD "))
    ∷ row (named 7) (letters (codes "IMAD"))
    ∷ row (named 8) (letters (codes "IMD "))
    ∷ row (named 9) (letters (codes "    "))
    -- runs
    ∷ as_told small
    ∷ as_told hand_over
    ∷ as_told upgrade
    ∷ as_told critical_first
    ∷ as_told two_orders
    ∷ as_told three_in_order
    ∷ as_told settled_twice
    ∷ as_told round
    ∷ as_told all_states
    ∷ as_told refusals
    ∷ as_told no_memory
    ∷ as_told bound_reached
    ∷ as_told timetable
    ∷ []

abbrev pub CallsWorked : Type 0
CallsWorked = map (λ r. outcome r.question) table ≡ map (λ r. r.worked) table
