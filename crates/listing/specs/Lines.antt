-- The text of each line of a listing, and the buffer that it is written to.
use Rattle.std.specs.Prelude.{ℕ, if◌then◌else◌, List, [], ◌∷◌, ◌++◌, length, drop, Ok, Err, codes, decimal, Result, nat_le}
use Rattle.listing.specs.declared.line.HubLine.{HubLine}

-- a space and a number in decimal
abbrev pub spaced : ℕ → List ℕ
spaced n = 32 ∷ decimal n

-- each line ends with byte 10
abbrev pub hub_text : HubLine → List ℕ
hub_text h =
    codes "HUB" ++ spaced h.cores ++ spaced h.critical ++ spaced h.lines ++ spaced h.width ++ spaced h.memory ++ spaced h.policy
    ++ spaced h.bound ++ spaced h.cycles ++ (10 ∷ [])

abbrev pub no_text : ℕ → List ℕ
no_text number = codes "NO" ++ spaced number ++ (10 ∷ [])

-- the line of a hub, or of the number of a refusal
abbrev pub text : Result HubLine ℕ → List ℕ
text (Ok hub) = hub_text hub
text (Err number) = no_text number

-- what writing a line's text into a buffer answers
abbrev pub answer : List ℕ → List ℕ → Result ℕ ℕ
answer old line = if nat_le 64 (length old) then Ok (length line) else Err 11

-- the buffer after it: the line, and behind it the bytes that stood there
abbrev pub after : List ℕ → List ℕ → List ℕ
after old line = if nat_le 64 (length old) then line ++ drop (length line) old else old
