-- The code of each state that a core can be in on a line.
use Rattle.std.specs.Prelude.{ℕ}
use Rattle.machine.specs.declared.core_state.CoreState.{CoreState}
use Rattle.machine.specs.declared.core_state.CoreState.TheVariants.{I, S, M, Sti, Mti, Isad, Isd, Imad, Imd}

abbrev pub code_of : CoreState → ℕ
code_of I = 0
code_of S = 1
code_of M = 2
code_of Sti = 3
code_of Mti = 4
code_of Isad = 5
code_of Isd = 6
code_of Imad = 7
code_of Imd = 8
