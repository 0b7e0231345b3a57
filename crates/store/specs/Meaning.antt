-- What a last-level store means, given what memories of the type below it mean.
use Rattle.std.specs.Prelude.{ℕ, List}
use Rattle.memory.specs.declared.Memory.{Ghosts}
use Rattle.store.specs.Overlay.{overlaid}
use Rattle.store.specs.declared.last_level.LastLevelStore.{LastLevelStore}

-- the words of the memory below
abbrev pub words_below : {M : Type 0} {g : Ghosts M} → (M → List ℕ) → LastLevelStore M g → List ℕ
words_below words s = words s.below

-- the words of the store
abbrev pub words_of : {M : Type 0} {g : Ghosts M} → (M → List ℕ) → LastLevelStore M g → List ℕ
words_of words s = overlaid (words_below words s) s.places
