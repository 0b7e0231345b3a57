-- Functions of a number, as of a core or a line: one place changed, and what the numbers below a limit do.
use Rattle.std.specs.Prelude.{ℕ, zero, suc, Bool, true, if◌then◌else◌, ◌&&◌, Some, None, Option, ◌==◌}

-- f, but v at i
abbrev pub put : {A : Type 0} → ℕ → A → (ℕ → A) → ℕ → A
put i v f j = if j == i then v else f j

-- how many numbers below n pass
abbrev pub count_below : (ℕ → Bool) → ℕ → ℕ
count_below p zero = 0
count_below p (suc n) = if p n then suc (count_below p n) else count_below p n

-- whether all numbers below n pass
abbrev pub all_below : (ℕ → Bool) → ℕ → Bool
all_below p zero = true
all_below p (suc n) = p n && all_below p n

-- the first of the n numbers k, k + 1, .. that passes
abbrev pub first_from : (ℕ → Bool) → ℕ → ℕ → Option ℕ
first_from p zero k = None
first_from p (suc n) k = if p k then Some k else first_from p n (suc k)
