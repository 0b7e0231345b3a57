-- Words in a buffer of bytes: eight bytes for a word, highest first.
use Rattle.std.specs.Prelude.{ℕ, ◌+◌, ◌*◌, ◌/◌, ◌%◌, ◌^◌, List, [], ◌∷◌, ◌++◌, map, length, take, drop, slice_index}
use Rattle.std.specs.List.{range_with_len}

-- the word of the eight bytes from `at` on
abbrev pub eight : List ℕ → ℕ → ℕ
eight bs at =
    slice_index bs at * 256 ^ 7 + slice_index bs (at + 1) * 256 ^ 6 + slice_index bs (at + 2) * 256 ^ 5 + slice_index bs (at + 3) * 256 ^ 4
    + slice_index bs (at + 4) * 256 ^ 3 + slice_index bs (at + 5) * 256 ^ 2 + slice_index bs (at + 6) * 256 + slice_index bs (at + 7)

-- the word of a line
abbrev pub word : List ℕ → ℕ → ℕ
word bs line = eight bs (8 * line)

-- a word as eight bytes
abbrev pub digits : ℕ → List ℕ
digits w =
    (w / 256 ^ 7 % 256) ∷ (w / 256 ^ 6 % 256) ∷ (w / 256 ^ 5 % 256) ∷ (w / 256 ^ 4 % 256)
    ∷ (w / 256 ^ 3 % 256) ∷ (w / 256 ^ 2 % 256) ∷ (w / 256 % 256) ∷ (w % 256) ∷ []

-- the buffer with a line's eight bytes replaced
abbrev pub put_word : List ℕ → ℕ → ℕ → List ℕ
put_word bs line w = take (8 * line) bs ++ (digits w ++ drop (8 * line + 8) bs)

-- the words of a buffer; a rest of fewer than eight bytes is ignored
abbrev pub words : List ℕ → List ℕ
words bs = map (word bs) (range_with_len 0 (length bs / 8))
