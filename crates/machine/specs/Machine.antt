-- The machine: what each call answers, and the state that it leaves.
use Rattle.std.specs.Prelude.{List, [], ◌∷◌}
use Rattle.machine.specs.declared.call.Call.{Call}
use Rattle.machine.specs.declared.call.Call.TheVariants.{Ask, Slot, Settle, WordOf, StateOf, BoundOf}
use Rattle.machine.specs.declared.sizes.Sizes.{Sizes}
use Rattle.machine.specs.Arbitration.{first_in_turn, user_of, move_mark}
use Rattle.machine.specs.Asking.{asking}
use Rattle.machine.specs.Grant.{words_after, granted_word, loaded, grant}
use Rattle.machine.specs.Granting.{is_granted}
use Rattle.machine.specs.Order.{queue_length, order}
use Rattle.machine.specs.Questions.{telling_word, telling_state, telling_bound}
use Rattle.machine.specs.Replies.{Reply}
use Rattle.machine.specs.Settling.{settling}
use Rattle.machine.specs.Slot.{end_slot, try_user, slotting}
use Rattle.machine.specs.State.{State, Outcome}
use Rattle.machine.specs.Time.{tick}

abbrev pub step : Sizes → Call → State → Outcome
step z (Ask core line op) s = asking z core line op s
step z Slot s = slotting z s
step z Settle s = settling z s
step z (WordOf line) s = telling_word z line s
step z (StateOf core line) s = telling_state z core line s
step z BoundOf s = telling_bound z s

-- calls in a row: what they answer, and the state that they leave
pub record Played : Type 0 where
  pub replies : List Reply
  pub state : State

-- with all definitions open, so that it computes
unfoldable pub play : Sizes → List Call → State → Played
unfolding tick first_in_turn user_of move_mark queue_length order is_granted words_after granted_word loaded grant end_slot try_user
    slotting asking settling telling_word telling_state
play z [] s = record { replies = []; state = s }
play z (c ∷ cs) s =
    let out : Outcome = step z c s in
    let rest : Played = play z cs out.state in
    record { replies = out.reply ∷ rest.replies; state = rest.state }
