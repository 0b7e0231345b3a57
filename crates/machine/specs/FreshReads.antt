-- Law: reads answer the last finished write.
use Rattle.std.specs.Prelude.{◌≡◌, ℕ, ◌∷◌, ◌++◌}
use Rattle.machine.specs.declared.op.Op.TheVariants.{Read}
use Rattle.machine.specs.Answering.{Answers, Latest}
use Rattle.machine.specs.History.{Start, Event, History, From}
use Rattle.machine.specs.State.{State}

-- Whatever answers a read answers it with the word of the line's last write that finished before, or with the starting word; and there is
-- no second word of which that could be said.
abbrev pub Fresh : Start → History → Type 0
Fresh start h =
    (later earlier : History) (e : Event) (core line word : ℕ)
    → h ≡ later ++ (e ∷ earlier) → Answers core line Read word e earlier
    → Latest start line earlier word × ((other : ℕ) → Latest start line earlier other → other ≡ word)

abbrev pub ReadsAnswerTheLastFinishedWrite : Type 0
ReadsAnswerTheLastFinishedWrite = (start : Start) (h : History) (s : State) → From start h s → Fresh start h
