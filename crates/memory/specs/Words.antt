-- Reading and storing, on the list of words that a memory means.
use Rattle.std.specs.Prelude.{ℕ, if◌then◌else◌, List, length, Ok, Err, Result, nat_lt, slice_index, slice_set}

-- what reading a line answers
abbrev pub reading : List ℕ → ℕ → Result ℕ ℕ
reading ws line = if nat_lt line (length ws) then Ok (slice_index ws line) else Err 9

-- what storing to a line answers
abbrev pub storing : List ℕ → ℕ → Result Unit ℕ
storing ws line = if nat_lt line (length ws) then Ok tt else Err 9

-- the words after a store: that one changed and no other, and none where the line is refused
abbrev pub stored : List ℕ → ℕ → ℕ → List ℕ
stored ws line word = if nat_lt line (length ws) then slice_set ws line word else ws
