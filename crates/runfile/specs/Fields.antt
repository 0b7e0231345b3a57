-- Numbers in a run file, and the bytes after them.
use Rattle.std.specs.Prelude.{◌≡◌, ℕ, Bool, if◌then◌else◌, not, List, length, take, drop, Some, None, Option, ◌==◌, bit_and, nat_le}
use Rattle.std.specs.Borrow.{Bor}
use Rattle.std.specs.Int.Digits.{number_from_digits}
use Rattle.runfile.specs.declared.reader.Reader.{Reader}

-- a value and the bytes after it, or nothing where the bytes cannot be read
abbrev pub Parsed : Type 0 → Type 0
Parsed A = Option (A × List ℕ)

-- one after the other
abbrev pub and_then : {A B : Type 0} → Parsed A → (A → List ℕ → Parsed B) → Parsed B
and_then None next = None
and_then (Some p) next = next p.0 p.1

-- a number of so many bytes, highest first
abbrev pub fixed : ℕ → List ℕ → Parsed ℕ
fixed width bs =
    if nat_le width (length bs) then Some (number_from_digits 256 (take width bs), drop width bs) else None

-- the same where the field is present, else its default and no byte
abbrev pub field : Bool → ℕ → ℕ → List ℕ → Parsed ℕ
field present width absent bs = if present then fixed width bs else Some (absent, bs)

-- the bit of that weight stands in the map
abbrev pub stands : ℕ → ℕ → Bool
stands map weight = not (bit_and map weight == 0)

-- what a function over a slice answered, with the bytes after it as a list
abbrev pub seen : {A : Type 0} → Option (A × Bor (List ℕ)) → Parsed A
seen None = None
seen (Some p) = Some (p.0, p.1.now)

-- what a reader answered, with the bytes that it has left
abbrev pub parsed : {A : Type 0} → Option A → List ℕ → Parsed A
parsed None left = None
parsed (Some a) left = Some (a, left)

-- the reader answered what f reads by its map from the bytes that it had left; it has those behind left now, and keeps its map
abbrev pub Reads : {A : Type 0} → (ℕ → List ℕ → Parsed A) → Reader → Option A → Reader → Type 0
Reads f old r new = (parsed r new.rest.now ≡ f old.map old.rest.now) × (new.map ≡ old.map)
