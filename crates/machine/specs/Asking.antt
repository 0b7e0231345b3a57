-- An ask: its refusals in their order, and a hit or a new request.
use Rattle.std.specs.Prelude.{ℕ, Bool, if◌then◌else◌, not, Some, None, Option, nat_lt}
use Rattle.setup.specs.declared.refusal.Refusal.{Refusal}
use Rattle.setup.specs.declared.refusal.Refusal.TheVariants.{NoSuchCore, NoSuchLine, RequestPending}
use Rattle.machine.specs.declared.held.Held.{Held}
use Rattle.machine.specs.declared.op.Op.{Op}
use Rattle.machine.specs.declared.op.Op.TheVariants.{Read, Write}
use Rattle.machine.specs.declared.request.Request.TheVariants.{Asked}
use Rattle.machine.specs.declared.sizes.Sizes.{Sizes}
use Rattle.machine.specs.Parts.{serves_writes, is_waiting}
use Rattle.machine.specs.Places.{put}
use Rattle.machine.specs.Replies.{refused, hit, waits}
use Rattle.machine.specs.State.{State, Outcome, unchanged, with_request}

-- Refusals ----------------------------------------------------------------------------------------

-- refused where the test fails, else the next test decides
abbrev pub tested : Bool → Refusal → Option Refusal → Option Refusal
tested ok e next = if ok then next else Some e

-- a refused call answers its refusal and changes nothing
abbrev pub unless : Option Refusal → Outcome → State → Outcome
unless None out s = out
unless (Some e) out s = unchanged (refused e) s

module _ (z : Sizes) where
  -- refusal 5: the hub has no such core
  abbrev pub test_core : ℕ → Option Refusal → Option Refusal
  test_core core = tested (nat_lt core z.cores) NoSuchCore

  -- refusal 6: the hub has no such line
  abbrev pub test_line : ℕ → Option Refusal → Option Refusal
  test_line line = tested (nat_lt line z.lines) NoSuchLine

  -- 5, 6, and 7 for a core whose request is not free, in that order
  abbrev pub ask_refusal : ℕ → ℕ → State → Option Refusal
  ask_refusal core line s = test_core core (test_line line (tested (not (is_waiting (s.requests core))) RequestPending None))

-- Accepted asks -----------------------------------------------------------------------------------

abbrev pub new_request : ℕ → ℕ → Op → State → Outcome
new_request core line op s = record { reply = waits; state = with_request core (Asked line op 0) s }

-- a hit touches no timer
abbrev pub write_hit : ℕ → ℕ → Held → State → Outcome
write_hit core line new s =
    record { reply = hit new.word; state = record s { copies = put line (put core (Some new) (s.copies line)) s.copies } }

-- a copy serves reads, and a writer's copy serves writes; all else waits
abbrev pub accepted : ℕ → ℕ → Op → Option Held → State → Outcome
accepted core line op None s = new_request core line op s
accepted core line Read (Some copy) s = unchanged (hit copy.word) s
accepted core line (Write w) (Some copy) s =
    if serves_writes copy.role then write_hit core line (record copy { word = w }) s else new_request core line (Write w) s

unfoldable pub asking : Sizes → ℕ → ℕ → Op → State → Outcome
asking z core line op s = unless (ask_refusal z core line s) (accepted core line op (s.copies line core) s) s
