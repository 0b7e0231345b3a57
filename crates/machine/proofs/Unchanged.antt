-- Refusals and questions change nothing.
use Rattle.std.proofs.Common.{◌≡◌, inl, inr, arith}
use Rattle.setup.specs.declared.refusal.Refusal.{Refusal}
use Rattle.machine.specs.declared.call.Call.{Call}
use Rattle.machine.specs.declared.sizes.Sizes.{Sizes}
use Rattle.machine.specs.Asking.{asking}
use Rattle.machine.specs.History.{sizes}
use Rattle.machine.specs.Machine.{step}
use Rattle.machine.specs.Questions.{telling_word, telling_state}
use Rattle.machine.specs.Replies.{refused}
use Rattle.machine.specs.Settling.{settling}
use Rattle.machine.specs.Slot.{try_user, slotting}
use Rattle.machine.specs.State.{State}
use Rattle.machine.specs.Unchanged.{Question, RefusalsAndQuestionsChangeNothing}

module _ (z : Sizes) (s : State) where
  refused_unchanged : (c : Call) (e : Refusal) → (step z c s).reply ≡ refused e → (step z c s).state ≡ s
  unfolding asking slotting try_user settling telling_word telling_state
  refused_unchanged c e r = grind arith

  question_unchanged : (c : Call) → Question c → (step z c s).state ≡ s
  unfolding telling_word telling_state
  question_unchanged c q = grind arith

pub refusals_and_questions_change_nothing : RefusalsAndQuestionsChangeNothing
refusals_and_questions_change_nothing b h s f c d =
    elim d [
      | inl r ↦ refused_unchanged (sizes b) s c r.0 r.1
      | inr q ↦ question_unchanged (sizes b) s c q
    ]
