-- What each core waits for, whom an event answers, and a line's last written word, computed from a history.
use Rattle.std.proofs.Common.{ℕ, cond, eqb, [], ◌∷◌, get_or}
use Rattle.machine.specs.declared.op.Op.{Op}
use Rattle.machine.specs.declared.op.Op.TheVariants.{Write}
use Rattle.machine.specs.History.{Start, Event, History}
use Rattle.machine.proofs.Effects.{Effect, begins, hits, serves, effect_of}

pub data Wish : Type 0 where
  no_wish : Wish
  wish : ℕ → Op → Wish

abbrev pub next_wish : ℕ → Effect → Wish → Wish
next_wish i (begins j l o) old = cond (eqb i j) (wish l o) old
next_wish i (serves j w) old = cond (eqb i j) no_wish old
next_wish i _ old = old

abbrev pub wish_in : History → ℕ → Wish
wish_in [] i = no_wish
wish_in (e ∷ h) i = next_wish i (effect_of e) (wish_in h i)

-- core, line, operation and word
pub data Answer : Type 0 where
  no_answer : Answer
  answer : ℕ → ℕ → Op → ℕ → Answer

abbrev pub granted_wish : ℕ → Wish → ℕ → Answer
granted_wish i no_wish w = no_answer
granted_wish i (wish l o) w = answer i l o w

abbrev pub answer_by : (ℕ → Wish) → Effect → Answer
answer_by ws (hits i l o w) = answer i l o w
answer_by ws (serves i w) = granted_wish i (ws i) w
answer_by ws _ = no_answer

abbrev pub answer_of : Event → History → Answer
answer_of e h = answer_by (wish_in h) (effect_of e)

abbrev pub after_answer : ℕ → Answer → ℕ → ℕ
after_answer l (answer i m (Write v) w) old = cond (eqb l m) v old
after_answer l _ old = old

abbrev pub last_write : Start → History → ℕ → ℕ
last_write b [] l = get_or b.words l 0
last_write b (e ∷ h) l = after_answer l (answer_of e h) (last_write b h l)
