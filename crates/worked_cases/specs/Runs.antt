-- Runs worked out from the rules: a hub, the calls made to it, and what each of them answers.
use Rattle.std.specs.Prelude.{ℕ, ◌+◌, min, List, [], ◌∷◌, replicate}
use Rattle.setup.specs.declared.draft.Draft.{Draft}
use Rattle.setup.specs.declared.refusal.Refusal.TheVariants.{NoSuchCore, NoSuchLine, RequestPending}
use Rattle.policy.specs.FourNumbers.{FourHolds, fixed}
use Rattle.policy.specs.Timing.{Timing}
use Rattle.setup.specs.declared.class.Class.{Class}
use Rattle.setup.specs.declared.class.Class.TheVariants.{Critical, NonCritical}
use Rattle.machine.specs.declared.call.Call.TheVariants.{Ask, Slot, Settle, WordOf, StateOf, BoundOf}
use Rattle.machine.specs.declared.core_state.CoreState.TheVariants.{I, S, M, Sti, Mti, Isad, Isd, Imad, Imd}
use Rattle.machine.specs.declared.op.Op.TheVariants.{Read, Write}
use Rattle.machine.specs.declared.op.Role.TheVariants.{Reader, Writer}
use Rattle.machine.specs.History.{Start, Event, event}
use Rattle.machine.specs.Replies.{refused, hit, waits, idle, waiting, done, settled, has_word, in_state, bounded}

-- what the hub is started on, the events, the earliest first, and the words that the memory has at the end
pub record Run : Type 0 where
  pub start : Start
  pub events : List Event
  pub left : List ℕ

-- cores, critical cores, lines and slot width
abbrev pub numbers : ℕ → ℕ → ℕ → ℕ → Draft
numbers n c l w = record { cores = n; critical = c; lines = l; width = w }

-- the holds of a critical holder against critical and other requesters, and those of a non-critical holder
abbrev pub holds : ℕ → ℕ → ℕ → ℕ → FourHolds
holds cc cn nc nn = record { critical = record { critical = cc; noncritical = cn }; noncritical = record { critical = nc; noncritical = nn } }

abbrev pub started : Draft → Timing → List ℕ → List Event → List ℕ → Run
started d t words events left = record { start = record { setup = d; timing = t; words = words }; events = events; left = left }

-- on a policy of four fixed holds and a memory of these words
abbrev pub run : Draft → FourHolds → List ℕ → List Event → List ℕ → Run
run d v words events left = started d (fixed v) words events left

-- A small run: a non-critical writer, and a critical reader that sits out its hold and has its word.
abbrev pub small : Run
small =
    run (numbers 2 1 1 50) (holds 1 2 2 1) (replicate 32 0)
    (event BoundOf (bounded 2 100)
    ∷ event (Ask 1 0 (Write 7)) waits
    ∷ event Slot (done 0 1 0 Writer 7 1)
    ∷ event (Ask 0 0 Read) waits
    ∷ event Slot (waiting 0 0 0 Reader)
    ∷ event Slot (done 0 0 0 Reader 7 2)
    ∷ event Settle (settled 0)
    ∷ [])
    (7 ∷ replicate 31 0)

-- A line is handed over: two readers, a critical writer that sits out their holds, and a non-critical writer after it.
abbrev pub hand_over : Run
hand_over =
    run (numbers 3 2 1 50) (holds 2 3 1 4) (5 ∷ [])
    (event (Ask 2 0 Read) waits
    ∷ event Slot (done 0 2 0 Reader 5 1)
    ∷ event (Ask 1 0 Read) waits
    ∷ event (Ask 0 0 (Write 9)) waits
    ∷ event Slot (done 1 1 0 Reader 5 1)
    ∷ event Slot (waiting 0 0 0 Writer)
    ∷ event (StateOf 2 0) (in_state Sti)
    ∷ event Slot (idle 1)
    ∷ event (Ask 2 0 (Write 8)) waits
    ∷ event Slot (done 0 0 0 Writer 9 4)
    ∷ event Slot (waiting 1 2 0 Writer)
    ∷ event Slot (waiting 0 2 0 Writer)
    ∷ event (Ask 0 0 (Write 6)) (hit 6)
    ∷ event Slot (done 1 2 0 Writer 8 4)
    ∷ event Settle (settled 1)
    ∷ event (WordOf 0) (has_word 8)
    ∷ [])
    (8 ∷ [])

-- A reader that becomes a writer sits out its own hold; then its copy serves reads and writes at once.
abbrev pub upgrade : Run
upgrade =
    run (numbers 2 2 1 50) (holds 3 2 0 0) (0 ∷ [])
    (event (Ask 0 0 Read) waits
    ∷ event Slot (done 0 0 0 Reader 0 1)
    ∷ event (Ask 0 0 (Write 4)) waits
    ∷ event (StateOf 0 0) (in_state S)
    ∷ event Slot (idle 1)
    ∷ event Slot (waiting 0 0 0 Writer)
    ∷ event (StateOf 0 0) (in_state Sti)
    ∷ event Slot (idle 1)
    ∷ event Slot (done 0 0 0 Writer 4 4)
    ∷ event (StateOf 0 0) (in_state M)
    ∷ event (Ask 0 0 Read) (hit 4)
    ∷ event (Ask 0 0 (Write 5)) (hit 5)
    ∷ event (WordOf 0) (has_word 5)
    ∷ [])
    (0 ∷ [])

-- A critical request is not overtaken on its line, neither by a critical one behind it, which nothing else bars, nor by a non-critical one.
abbrev pub critical_first : Run
critical_first =
    run (numbers 5 3 2 50) (holds 1 1 7 1) (0 ∷ 0 ∷ [])
    (event (Ask 3 0 Read) waits
    ∷ event Slot (done 0 3 0 Reader 0 1)
    ∷ event (Ask 1 0 (Write 7)) waits
    ∷ event Slot (waiting 1 1 0 Writer)
    ∷ event Slot (idle 2)
    ∷ event (Ask 0 0 Read) waits
    ∷ event Slot (waiting 0 0 0 Reader)
    ∷ event (Ask 2 1 Read) waits
    ∷ event Slot (waiting 1 1 0 Writer)
    ∷ event Slot (done 2 2 1 Reader 0 2)
    ∷ event Slot (waiting 0 0 0 Reader)
    ∷ event (Ask 4 0 Read) waits
    ∷ event Slot (done 1 1 0 Writer 7 7)
    ∷ event Slot (waiting 2 4 0 Reader)
    ∷ event Slot (done 0 0 0 Reader 7 7)
    ∷ event Slot (done 1 4 0 Reader 7 4)
    ∷ event (WordOf 0) (has_word 7)
    ∷ [])
    (7 ∷ 0 ∷ [])

-- A grant to one class does not move the other class up: of two non-critical writers the first in order stays first.
abbrev pub two_orders : Run
two_orders =
    run (numbers 4 1 1 50) (holds 0 0 3 6) (0 ∷ [])
    (event (Ask 1 0 (Write 1)) waits
    ∷ event Slot (done 0 1 0 Writer 1 1)
    ∷ event (Ask 2 0 (Write 2)) waits
    ∷ event Slot (waiting 0 2 0 Writer)
    ∷ event (Ask 3 0 (Write 3)) waits
    ∷ event Slot (waiting 0 3 0 Writer)
    ∷ event Slot (waiting 0 2 0 Writer)
    ∷ event (Ask 0 0 Read) waits
    ∷ event Slot (done 0 0 0 Reader 1 1)
    ∷ event Slot (waiting 0 3 0 Writer)
    ∷ event Slot (done 0 2 0 Writer 2 6)
    ∷ [])
    (1 ∷ [])

-- Three critical writers in order on one line, each of which could be granted but for those ahead.
abbrev pub three_in_order : Run
three_in_order =
    run (numbers 4 4 1 50) (holds 2 0 0 0) (0 ∷ [])
    (event (Ask 0 0 (Write 1)) waits
    ∷ event Slot (done 0 0 0 Writer 1 1)
    ∷ event (Ask 1 0 (Write 2)) waits
    ∷ event (Ask 2 0 (Write 3)) waits
    ∷ event (Ask 3 0 (Write 4)) waits
    ∷ event Slot (waiting 1 1 0 Writer)
    ∷ event Slot (waiting 2 2 0 Writer)
    ∷ event Slot (waiting 3 3 0 Writer)
    ∷ event Slot (idle 0)
    ∷ event Slot (done 1 1 0 Writer 2 5)
    ∷ event Slot (waiting 2 2 0 Writer)
    ∷ event Slot (waiting 3 3 0 Writer)
    ∷ event Slot (idle 0)
    ∷ event Slot (idle 1)
    ∷ event Slot (done 2 2 0 Writer 3 10)
    ∷ [])
    (2 ∷ [])

-- A settle stores the words of all writers and leaves their copies; a later hit needs another settle.
abbrev pub settled_twice : Run
settled_twice =
    run (numbers 2 1 3 50) (holds 0 0 0 0) (1 ∷ 2 ∷ 3 ∷ [])
    (event (Ask 0 0 (Write 5)) waits
    ∷ event (Ask 1 2 (Write 6)) waits
    ∷ event Slot (done 0 0 0 Writer 5 1)
    ∷ event Slot (done 0 1 2 Writer 6 2)
    ∷ event Settle (settled 2)
    ∷ event (Ask 1 2 (Write 7)) (hit 7)
    ∷ event (WordOf 2) (has_word 7)
    ∷ event (Ask 0 0 Read) (hit 5)
    ∷ event Settle (settled 2)
    ∷ [])
    (5 ∷ 2 ∷ 7 ∷ [])

-- Slots that no owner uses go round among the non-critical cores, and a critical user does not disturb the turn.
abbrev pub round : Run
round =
    run (numbers 5 2 4 50) (holds 0 0 0 0) (1 ∷ 2 ∷ 3 ∷ 4 ∷ [])
    (event (Ask 2 2 Read) waits
    ∷ event Slot (done 0 2 2 Reader 3 1)
    ∷ event (Ask 2 2 (Write 9)) waits
    ∷ event (Ask 3 3 Read) waits
    ∷ event (Ask 4 1 Read) waits
    ∷ event Slot (done 1 3 3 Reader 4 1)
    ∷ event (Ask 0 0 Read) waits
    ∷ event Slot (done 0 0 0 Reader 1 1)
    ∷ event Slot (done 1 4 1 Reader 2 3)
    ∷ event Slot (done 0 2 2 Writer 9 4)
    ∷ event (Ask 2 3 Read) waits
    ∷ event Slot (done 1 2 3 Reader 4 1)
    ∷ event Slot (idle 0)
    ∷ [])
    (1 ∷ 2 ∷ 3 ∷ 4 ∷ [])

-- All nine states, also on a line that is not asked for.
abbrev pub all_states : Run
all_states =
    run (numbers 2 1 2 50) (holds 0 3 2 0) (0 ∷ 0 ∷ [])
    (event (Ask 1 1 Read) waits
    ∷ event Slot (done 0 1 1 Reader 0 1)
    ∷ event (StateOf 1 0) (in_state I)
    ∷ event (Ask 1 0 (Write 6)) waits
    ∷ event (StateOf 1 0) (in_state Imad)
    ∷ event Slot (done 0 1 0 Writer 6 1)
    ∷ event (StateOf 1 0) (in_state M)
    ∷ event (Ask 0 0 Read) waits
    ∷ event (StateOf 0 0) (in_state Isad)
    ∷ event Slot (waiting 0 0 0 Reader)
    ∷ event (StateOf 0 0) (in_state Isd)
    ∷ event (StateOf 0 1) (in_state I)
    ∷ event (StateOf 1 0) (in_state Mti)
    ∷ event Slot (done 0 0 0 Reader 6 2)
    ∷ event (StateOf 0 0) (in_state S)
    ∷ event (Ask 1 0 (Write 2)) waits
    ∷ event Slot (waiting 0 1 0 Writer)
    ∷ event (StateOf 1 0) (in_state Imd)
    ∷ event (StateOf 0 0) (in_state Sti)
    ∷ event (StateOf 1 1) (in_state S)
    ∷ event Slot (waiting 0 1 0 Writer)
    ∷ event Slot (done 0 1 0 Writer 2 3)
    ∷ event (StateOf 0 0) (in_state I)
    ∷ [])
    (6 ∷ 0 ∷ [])

-- Refusals come in the order of their numbers; the hub has as many lines as the memory.
abbrev pub refusals : Run
refusals =
    run (numbers 2 1 4 50) (holds 0 0 0 0) (8 ∷ 9 ∷ [])
    (event (Ask 2 7 Read) (refused NoSuchCore)
    ∷ event (Ask 1 2 Read) (refused NoSuchLine)
    ∷ event (Ask 1 1 Read) waits
    ∷ event (Ask 1 1 Read) (refused RequestPending)
    ∷ event (Ask 1 2 Read) (refused NoSuchLine)
    ∷ event (StateOf 2 2) (refused NoSuchCore)
    ∷ event (StateOf 1 2) (refused NoSuchLine)
    ∷ event (WordOf 2) (refused NoSuchLine)
    ∷ event (WordOf 1) (has_word 9)
    ∷ event Slot (done 0 1 1 Reader 9 1)
    ∷ [])
    (8 ∷ 9 ∷ [])

-- An empty memory: no line, and slots go by.
abbrev pub no_memory : Run
no_memory =
    run (numbers 2 1 4 50) (holds 0 0 0 0) ([])
    (event (Ask 0 0 Read) (refused NoSuchLine)
    ∷ event (Ask 2 0 Read) (refused NoSuchCore)
    ∷ event Slot (idle 0)
    ∷ event Settle (settled 0)
    ∷ [])
    ([])

-- A critical core waits as long as the bound says.
abbrev pub bound_reached : Run
bound_reached =
    run (numbers 2 1 1 50) (holds 1 0 3 0) (0 ∷ [])
    (event BoundOf (bounded 3 150)
    ∷ event (Ask 1 0 (Write 1)) waits
    ∷ event Slot (done 0 1 0 Writer 1 1)
    ∷ event (Ask 0 0 Read) waits
    ∷ event Slot (waiting 0 0 0 Reader)
    ∷ event Slot (waiting 0 0 0 Reader)
    ∷ event Slot (done 0 0 0 Reader 1 3)
    ∷ [])
    (1 ∷ [])

-- A timetable in which slot, core, line and both classes matter: each grant loads the timers of its own slot.
abbrev pub hold : ℕ → ℕ → Class → ℕ → Class → ℕ
hold k core Critical line Critical = min 2 (k + line)
hold k core NonCritical line Critical = min 3 (core + line)
hold k core Critical line NonCritical = k + core
hold k core NonCritical line NonCritical = k + core

abbrev pub timetable : Run
timetable =
    started (numbers 3 1 2 50) (record { caps = record { critical = 2; noncritical = 3 }; hold = hold }) (0 ∷ 0 ∷ [])
    (event BoundOf (bounded 3 150)
    ∷ event (Ask 0 1 (Write 4)) waits
    ∷ event Slot (done 0 0 1 Writer 4 1)
    ∷ event (Ask 1 1 Read) waits
    ∷ event Slot (done 0 1 1 Reader 4 1)
    ∷ event (Ask 2 1 (Write 6)) waits
    ∷ event Slot (waiting 0 2 1 Writer)
    ∷ event Slot (done 0 2 1 Writer 6 2)
    ∷ event (Ask 0 1 Read) waits
    ∷ event Slot (waiting 0 0 1 Reader)
    ∷ event Slot (waiting 0 0 1 Reader)
    ∷ event Slot (done 0 0 1 Reader 6 3)
    ∷ event Settle (settled 0)
    ∷ [])
    (0 ∷ 6 ∷ [])
