-- A settle: every writer's word goes to the memory, and the copies stay.
use Rattle.std.specs.Prelude.{ℕ, zero, suc, ◌+◌, Bool, true, List, Option}
use Rattle.machine.specs.declared.held.Held.{Held}
use Rattle.machine.specs.declared.sizes.Sizes.{Sizes}
use Rattle.machine.specs.Grant.{write_back}
use Rattle.machine.specs.Parts.{is_writers}
use Rattle.machine.specs.Places.{count_below}
use Rattle.machine.specs.Replies.{settled}
use Rattle.machine.specs.State.{State, Outcome}

abbrev pub all_copies : ℕ → Option Held → Bool
all_copies core held = true

module _ (z : Sizes) where
  -- the words once the lines below n are stored, in rising order
  abbrev pub settle_below : (ℕ → ℕ → Option Held) → ℕ → List ℕ → List ℕ
  settle_below copies zero words = words
  settle_below copies (suc line) words = write_back all_copies (copies line) line z.cores (settle_below copies line words)

  -- how many words that are
  abbrev pub writers_below : (ℕ → ℕ → Option Held) → ℕ → ℕ
  writers_below copies zero = 0
  writers_below copies (suc line) = writers_below copies line + count_below (λ core. is_writers (copies line core)) z.cores

  unfoldable pub settling : State → Outcome
  settling s =
      record {
        reply = settled (writers_below s.copies z.lines);
        state = record s { words = settle_below s.copies z.lines s.words };
      }
