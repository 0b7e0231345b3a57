-- The rows of a table of numbers, n to a row. They stand here since holds by line and words in bytes both lie in rows.
use Rattle.std.proofs.Common.{◌≡◌, ℕ, zero, suc, ◌+◌, ◌*◌, ◌<◌, List, get_or, drop, arith}
use Rattle.std.proofs.lemmas.List.{get_or-drop, get_or-take}
use Rattle.std.specs.Simd.{first_chunks}

-- number j of row i
pub number_at : (n k i j : ℕ) (xs none : List ℕ) → i < k → j < n → get_or (get_or (first_chunks n k xs) i none) j 0 ≡ get_or xs (i * n + j) 0
number_at n zero i j xs none inside within = grind arith
number_at n (suc k) zero j xs none inside within = grind (arith, get_or-take)
number_at n (suc k) (suc i) j xs none inside within = grind (arith, get_or-drop, number_at n k i j (drop n xs) none)
