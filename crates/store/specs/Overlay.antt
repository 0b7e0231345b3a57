-- A last-level store: sixteen places over a memory below it.
use Rattle.std.specs.Prelude.{◌≡◌, ℕ, zero, suc, ◌+◌, ◌%◌, ◌<◌, Bool, true, if◌then◌else◌, List, map, length, Some, None, Option, ◌==◌, nat_lt, slice_index, slice_index_or, slice_set}
use Rattle.memory.specs.Words.{stored}
use Rattle.std.specs.List.{range_with_len}
use Rattle.std.specs.Option.{unwrap_or}
use Rattle.store.specs.declared.place.HeldWord.{HeldWord}

-- a place is free, or has one line's word
abbrev pub Place : Type 0
Place = Option HeldWord

-- a place with a word of a line
abbrev pub holds : ℕ → ℕ → Place
holds line word = Some (record { line = line; word = word })

-- the place that a line uses
abbrev pub place_of : ℕ → ℕ
place_of line = line % 16

-- the word that a place holds of a line, if it does
abbrev pub held_word : Place → ℕ → Option ℕ
held_word None line = None
held_word (Some h) line = if h.line == line then Some h.word else None

-- the word of a line, where its place is as given and the memory below has w
abbrev pub laid : Place → ℕ → ℕ → ℕ
laid p line w = unwrap_or (held_word p line) w

-- what the store means: at each line the held word, or else the word below
abbrev pub overlaid : List ℕ → List Place → List ℕ
overlaid ws ps = map (λ line. laid (slice_index_or ps (place_of line) None) line (slice_index ws line)) (range_with_len 0 (length ws))

-- place i is free, or holds a line that uses place i
abbrev pub fitting : ℕ → Place → Bool
fitting i None = true
fitting i (Some h) = place_of h.line == i

abbrev pub Placed : List Place → Type 0
Placed ps = (i : ℕ) → i < 16 → fitting i (slice_index_or ps i None) ≡ true

-- a place is free, or has the word of a line below the count
abbrev pub is_below : ℕ → Place → Bool
is_below count None = true
is_below count (Some h) = nat_lt h.line count

abbrev pub AllBelow : ℕ → List Place → Type 0
AllBelow count ps = (i : ℕ) → i < 16 → is_below count (slice_index_or ps i None) ≡ true

-- the words below once the place's word has gone there
abbrev pub words_sent : List ℕ → Place → List ℕ
words_sent ws None = ws
words_sent ws (Some h) = stored ws h.line h.word

-- the same, to make room for a line
abbrev pub displaced : List ℕ → Place → ℕ → List ℕ
displaced ws None line = ws
displaced ws (Some h) line = if h.line == line then ws else words_sent ws (Some h)

-- after a store to a line: the words below, and the places
abbrev pub below_after : List ℕ → List Place → ℕ → List ℕ
below_after ws ps line = if nat_lt line (length ws) then displaced ws (slice_index_or ps (place_of line) None) line else ws

abbrev pub places_after : List ℕ → List Place → ℕ → ℕ → List Place
places_after ws ps line word = if nat_lt line (length ws) then slice_set ps (place_of line) (holds line word) else ps

-- how many words a place has for a memory of that count
abbrev pub held : ℕ → Place → ℕ
held count None = 0
held count (Some h) = if nat_lt h.line count then 1 else 0

-- how many the first n places have
abbrev pub held_in : ℕ → List Place → ℕ → ℕ
held_in count ps zero = 0
held_in count ps (suc n) = held_in count ps n + held count (slice_index_or ps n None)
