-- The memory refuses no line.
use Rattle.std.proofs.Common.{ℕ, ◌<◌, List, length, arith}
use Rattle.std.proofs.lemmas.Bool.{lt-ltb}
use Rattle.machine.specs.AcceptedLines.{Accepted, MemoryRefusesNoLine}
use Rattle.machine.specs.Parts.{line_of, op_of}
use Rattle.machine.proofs.CoherentCalls.{story}
use Rattle.machine.proofs.Shapes.{waiting_wish}

accepts : (words : List ℕ) (line : ℕ) → line < length words → Accepted words line
accepts words line h = (rw (lt-ltb line (length words) h), rw (lt-ltb line (length words) h))

pub memory_refuses_no_line : MemoryRefusesNoLine
memory_refuses_no_line b h s f =
    let g = (story b f).good in
    record {
      in_slot = λ core w. accepts s.words (line_of (s.requests core))
          (omega (
            arith,
            (g.room core (line_of (s.requests core)) (op_of (s.requests core)) (waiting_wish (s.requests core) w)).1,
            g.fits,
          ));
      in_settle = λ line l. accepts s.words line (omega (arith, g.fits));
    }
