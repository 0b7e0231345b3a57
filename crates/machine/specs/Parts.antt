-- The parts of copies and requests.
use Rattle.std.specs.Prelude.{ℕ, Bool, true, false, Some, None, Option, is_some, ◌==◌}
use Rattle.setup.specs.Classes.{of_class}
use Rattle.setup.specs.declared.class.Class.{Class}
use Rattle.machine.specs.declared.op.Op.{Op}
use Rattle.machine.specs.declared.op.Op.TheVariants.{Read, Write}
use Rattle.machine.specs.declared.op.Role.{Role}
use Rattle.machine.specs.declared.op.Role.TheVariants.{Reader, Writer}
use Rattle.machine.specs.declared.held.Held.{Held}
use Rattle.machine.specs.declared.request.Request.{Request}
use Rattle.machine.specs.declared.request.Request.TheVariants.{Free, Asked, Ordered}

abbrev pub role_of : Op → Role
role_of Read = Reader
role_of (Write w) = Writer

-- Copies: what a core holds of a line is a copy or nothing ----------------------------------------

abbrev pub is_copy : Option Held → Bool
is_copy = is_some

-- whether a copy that is held in this role serves writes
abbrev pub serves_writes : Role → Bool
serves_writes Reader = false
serves_writes Writer = true

-- whether it is a writer's copy
abbrev pub is_writers : Option Held → Bool
is_writers None = false
is_writers (Some copy) = serves_writes copy.role

abbrev pub word_in : Option Held → ℕ
word_in None = 0
word_in (Some copy) = copy.word

-- for how many slots it is still held against requesters of a class
abbrev pub timer : Class → Option Held → ℕ
timer c None = 0
timer c (Some copy) = of_class copy.timers c

-- Requests ----------------------------------------------------------------------------------------

-- asked or ordered
abbrev pub is_waiting : Request → Bool
is_waiting Free = false
is_waiting (Asked line op wait) = true
is_waiting (Ordered line op ahead wait) = true

abbrev pub is_ordered_on : ℕ → Request → Bool
is_ordered_on l Free = false
is_ordered_on l (Asked line op wait) = false
is_ordered_on l (Ordered line op ahead wait) = line == l

abbrev pub line_of : Request → ℕ
line_of Free = 0
line_of (Asked line op wait) = line
line_of (Ordered line op ahead wait) = line

abbrev pub op_of : Request → Op
op_of Free = Read
op_of (Asked line op wait) = op
op_of (Ordered line op ahead wait) = op

abbrev pub wait_of : Request → ℕ
wait_of Free = 0
wait_of (Asked line op wait) = wait
wait_of (Ordered line op ahead wait) = wait
