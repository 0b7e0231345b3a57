-- What a call is answered, and the words for it in which the rules, histories and laws speak.
use Rattle.std.specs.Prelude.{ℕ, Ok, Err, Result}
use Rattle.setup.specs.declared.refusal.Refusal.{Refusal}
use Rattle.machine.specs.declared.core_state.CoreState.{CoreState}
use Rattle.machine.specs.declared.op.Role.{Role}
use Rattle.machine.specs.declared.reply.Answer.{Answer}
use Rattle.machine.specs.declared.reply.Answer.TheVariants.{ToAsk, ToSlot, Settled, Word, State, Bound}
use Rattle.machine.specs.declared.reply.AskAnswer.TheVariants.{Hit, Waits}
use Rattle.machine.specs.declared.reply.SlotAnswer.TheVariants.{Idle, Waiting, Done}

-- the alias of src/reply.rt, whose name is not known here
abbrev pub Reply : Type 0
Reply = Result Answer Refusal

abbrev pub refused : Refusal → Reply
refused e = Err e

-- Asks --------------------------------------------------------------------------------------------

abbrev pub hit : ℕ → Reply
hit word = Ok (ToAsk (Hit word))

abbrev pub waits : Reply
waits = Ok (ToAsk Waits)

-- Slots: of an owner, for a user, on a line -------------------------------------------------------

abbrev pub idle : ℕ → Reply
idle owner = Ok (ToSlot (Idle owner))

abbrev pub waiting : ℕ → ℕ → ℕ → Role → Reply
waiting owner user line role = Ok (ToSlot (Waiting owner user line role))

-- with the word of the new copy, and the wait count
abbrev pub done : ℕ → ℕ → ℕ → Role → ℕ → ℕ → Reply
done owner user line role word wait = Ok (ToSlot (Done owner user line role word wait))

-- The other calls ---------------------------------------------------------------------------------

abbrev pub settled : ℕ → Reply
settled stored = Ok (Settled stored)

abbrev pub has_word : ℕ → Reply
has_word word = Ok (Word word)

abbrev pub in_state : CoreState → Reply
in_state state = Ok (State state)

-- the bound in slots and in cycles
abbrev pub bounded : ℕ → ℕ → Reply
bounded slots cycles = Ok (Bound slots cycles)
