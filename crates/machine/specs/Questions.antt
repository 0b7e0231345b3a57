-- Three questions: which word a line has, which state a core is in on a line, and what the bound is. They change nothing.
use Rattle.std.specs.Prelude.{ℕ, zero, suc, Bool, false, if◌then◌else◌, not, ◌&&◌, Some, None, Option, ◌==◌, slice_index}
use Rattle.setup.specs.Bound.{bound, cycles}
use Rattle.machine.specs.declared.core_state.CoreState.{CoreState}
use Rattle.machine.specs.declared.core_state.CoreState.TheVariants.{I, S, M, Sti, Mti, Isad, Isd, Imad, Imd}
use Rattle.machine.specs.declared.held.Held.{Held}
use Rattle.machine.specs.declared.op.Op.TheVariants.{Read, Write}
use Rattle.machine.specs.declared.op.Role.{Role}
use Rattle.machine.specs.declared.op.Role.TheVariants.{Reader, Writer}
use Rattle.machine.specs.declared.request.Request.{Request}
use Rattle.machine.specs.declared.request.Request.TheVariants.{Free, Asked, Ordered}
use Rattle.machine.specs.declared.sizes.Sizes.{Sizes}
use Rattle.machine.specs.Asking.{unless, test_core, test_line}
use Rattle.machine.specs.Granting.{in_way}
use Rattle.machine.specs.Parts.{is_writers, word_in}
use Rattle.machine.specs.Places.{count_below}
use Rattle.machine.specs.Replies.{has_word, in_state, bounded}
use Rattle.machine.specs.State.{State, Outcome, unchanged}

-- The word of a line ------------------------------------------------------------------------------

-- the writer's among the first n cores, else the memory's
abbrev pub writers_word : (ℕ → Option Held) → ℕ → ℕ → ℕ
writers_word held zero word = word
writers_word held (suc n) word = if is_writers (held n) then word_in (held n) else writers_word held n word

unfoldable pub telling_word : Sizes → ℕ → State → Outcome
telling_word z line s =
    unless (test_line z line None) (unchanged (has_word (writers_word (s.copies line) z.cores (slice_index s.words line))) s) s

-- The state of a core on a line -------------------------------------------------------------------

-- whether core i's copy of line l is in the way of core j's request, an ordered one
abbrev pub blocks : ℕ → ℕ → Option Held → ℕ → Request → Bool
blocks i l held j Free = false
blocks i l held j (Asked line op wait) = false
blocks i l held j (Ordered line op ahead wait) = line == l && in_way j op i held

-- where the core has no copy: I, or by its request on that line ISAD, ISD, IMAD or IMD
abbrev pub request_state : ℕ → Request → CoreState
request_state l Free = I
request_state l (Asked line Read wait) = if line == l then Isad else I
request_state l (Ordered line Read ahead wait) = if line == l then Isd else I
request_state l (Asked line (Write w) wait) = if line == l then Imad else I
request_state l (Ordered line (Write w) ahead wait) = if line == l then Imd else I

-- S or STI for a reader's copy, M or MTI for a writer's: the second if it is called for
abbrev pub copy_state : Role → Bool → CoreState
copy_state Reader called_for = if called_for then Sti else S
copy_state Writer called_for = if called_for then Mti else M

module _ (z : Sizes) where
  -- whether the copy blocks any request
  abbrev pub is_called_for : State → ℕ → ℕ → Option Held → Bool
  is_called_for s core line held = not (count_below (λ j. blocks core line held j (s.requests j)) z.cores == 0)

  abbrev pub core_state : State → ℕ → ℕ → Option Held → CoreState
  core_state s core line None = request_state line (s.requests core)
  core_state s core line (Some copy) = copy_state copy.role (is_called_for s core line (Some copy))

  unfoldable pub telling_state : ℕ → ℕ → State → Outcome
  telling_state core line s =
      unless (test_core z core (test_line z line None)) (unchanged (in_state (core_state s core line (s.copies line core))) s) s

  -- The bound of a critical wait ------------------------------------------------------------------

  abbrev pub telling_bound : State → Outcome
  telling_bound s =
      let slots : ℕ = bound z.critical s.timing.caps in
      unchanged (bounded slots (cycles z.width slots)) s
