-- Step 7 of a slot: the grant.
use Rattle.std.specs.Prelude.{ℕ, zero, suc, ◌-◌, Bool, if◌then◌else◌, ◌&&◌, List, Some, None, Option, ◌==◌, slice_index, slice_set}
use Rattle.setup.specs.declared.class.Class.{Class}
use Rattle.setup.specs.declared.class.Class.TheVariants.{Critical, NonCritical}
use Rattle.policy.specs.FourNumbers.{Against}
use Rattle.machine.specs.declared.held.Held.{Held}
use Rattle.machine.specs.declared.op.Op.{Op}
use Rattle.machine.specs.declared.op.Op.TheVariants.{Read, Write}
use Rattle.machine.specs.declared.request.Request.{Request}
use Rattle.machine.specs.declared.request.Request.TheVariants.{Free, Asked, Ordered}
use Rattle.machine.specs.declared.sizes.Sizes.{Sizes}
use Rattle.machine.specs.Granting.{in_way}
use Rattle.machine.specs.Parts.{role_of, is_writers, word_in, line_of, op_of}
use Rattle.machine.specs.Places.{put}
use Rattle.machine.specs.State.{State, class_of, is_of}

-- the words once the writers' words on a line are stored, of those copies of the first n cores that pass
abbrev pub write_back : (ℕ → Option Held → Bool) → (ℕ → Option Held) → ℕ → ℕ → List ℕ → List ℕ
write_back passes held line zero words = words
write_back passes held line (suc n) words =
    let before : List ℕ = write_back passes held line n words in
    if passes n (held n) && is_writers (held n) then slice_set before line (word_in (held n)) else before

-- the copies that pass end
abbrev pub ended : (ℕ → Option Held → Bool) → (ℕ → Option Held) → ℕ → Option Held
ended passes held core = if passes core (held core) then None else held core

-- the word of the new copy: what the memory has by then for a read, and for a write the word that was asked
abbrev pub word_for : Op → ℕ → ℕ
word_for Read word = word
word_for (Write own) word = own

module _ (z : Sizes) where
  -- a request of the class on the line has one fewer ahead
  abbrev pub step_up : Class → ℕ → ℕ → Request → Request
  step_up c l core Free = Free
  step_up c l core (Asked line op wait) = Asked line op wait
  step_up c l core (Ordered line op ahead wait) = Ordered line op (if line == l && is_of z c core then ahead - 1 else ahead) wait

  -- the memory's words, with those of the writers in the way
  unfoldable pub words_after : State → ℕ → List ℕ
  words_after s user =
      let r : Request = s.requests user in
      write_back (in_way user (op_of r)) (s.copies (line_of r)) (line_of r) z.cores s.words

  unfoldable pub granted_word : State → ℕ → ℕ
  granted_word s user =
      let r : Request = s.requests user in
      word_for (op_of r) (slice_index (words_after s user) (line_of r))

  -- both timers, as the policy has the holds in this slot
  unfoldable pub loaded : State → ℕ → ℕ → Against
  loaded s user line =
      record {
        critical = s.timing.hold 0 user (class_of z user) line Critical;
        noncritical = s.timing.hold 0 user (class_of z user) line NonCritical;
      }

  unfoldable pub grant : State → ℕ → State
  grant s user =
      let r : Request = s.requests user in
      let line : ℕ = line_of r in
      let new : Held = record { role = role_of (op_of r); word = granted_word s user; timers = loaded s user line } in
      record s {
        copies = put line (put user (Some new) (ended (in_way user (op_of r)) (s.copies line))) s.copies;
        requests = put user Free (λ core. step_up (class_of z user) line core (s.requests core));
        words = words_after s user;
      }
