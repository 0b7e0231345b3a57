-- Writers are alone.
use Rattle.std.proofs.Common.{Ok, ◌≡◌, ℕ, Bool, true, false, refl, arith, sym}
use Rattle.machine.specs.declared.core_state.CoreState.TheVariants.{S, M, Sti, Mti}
use Rattle.machine.specs.declared.reply.Answer.TheVariants.{State as Told}
use Rattle.machine.specs.declared.sizes.Sizes.{Sizes}
use Rattle.machine.specs.History.{sizes}
use Rattle.machine.specs.LoneWriters.{Writers, in_m, in_mti, Copied, writers, in_s, in_sti, WritersAreAlone}
use Rattle.machine.specs.Parts.{word_in}
use Rattle.machine.specs.Questions.{telling_state}
use Rattle.machine.specs.Replies.{Reply}
use Rattle.machine.specs.State.{State}
use Rattle.machine.proofs.Coherence.{nothing, writes}
use Rattle.machine.proofs.CoherentCalls.{story}
use Rattle.machine.proofs.Shapes.{shapes}

-- whether a reply tells of a copy, and whether of a writer's
abbrev tells_copy : Reply → Bool
tells_copy (Ok (Told S)) = true
tells_copy (Ok (Told M)) = true
tells_copy (Ok (Told Sti)) = true
tells_copy (Ok (Told Mti)) = true
tells_copy _ = false

abbrev tells_writer : Reply → Bool
tells_writer (Ok (Told M)) = true
tells_writer (Ok (Told Mti)) = true
tells_writer _ = false

copied_tells : (r : Reply) → Copied r → tells_copy r ≡ true
copied_tells r (writers in_m) = refl
copied_tells r (writers in_mti) = refl
copied_tells r in_s = refl
copied_tells r in_sti = refl

writers_tells : (r : Reply) → Writers r → tells_writer r ≡ true
writers_tells r in_m = refl
writers_tells r in_mti = refl

module _ (z : Sizes) (s : State) (i l : ℕ) where
  -- a copy's state is told of a copy alone, and a writer's of a writer's
  told_copy : tells_copy (telling_state z i l s).reply ≡ true → shapes s l i ≡ nothing → ⊥
  unfolding telling_state
  told_copy t none = grind arith

  told_writer : tells_writer (telling_state z i l s).reply ≡ true → shapes s l i ≡ writes (word_in (s.copies l i))
  unfolding telling_state
  told_writer t = grind arith

pub writers_are_alone : WritersAreAlone
writers_are_alone b h s f line i j ne w c =
    let z : Sizes = sizes b in
    let writer = told_writer z s i line (writers_tells _ w) in
    told_copy z s j line (copied_tells _ c) (((story b f).good.line line).alone i j _ writer (λ e. ne (sym e)))
