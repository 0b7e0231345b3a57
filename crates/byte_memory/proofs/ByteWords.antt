-- A word put into a buffer of bytes is that word stored in the list of words.
use Rattle.std.proofs.Common.{◌≡◌, ℕ, ◌+◌, ◌*◌, ◌/◌, ◌^◌, ◌<◌, ◌≤◌, ◌⊎◌, ◌≢◌, List, length, Some, get_or, set, map, sym, arith, rules}
use Rattle.std.proofs.lemmas.List.FromFn.{length-map-range_with_len, get_or-map-range_with_len, fill_by_all}
use Rattle.std.proofs.lemmas.List.{places, length-set, get_or-set_other}
use Rattle.std.proofs.lemmas.Grind.{common_steps, get_or-set_at}
use Rattle.std.specs.List.{slice_get, range_with_len}
use Rattle.std.proofs.lemmas.Option.{slice_get-get_or}
use Rattle.std.specs.Simd.{first_chunks}
use Rattle.setup.proofs.Rows.{number_at}
use Rattle.byte_memory.specs.Bytes.{eight, word, words, put_word}

pub length_words : (bs : List ℕ) → length (words bs) ≡ length bs / 8
length_words bs = length-map-range_with_len (word bs) 0 (length bs / 8)

-- the word of a line is what its row of eight bytes says
pub word_got : (bs row : List ℕ) (line : ℕ) → line < length bs / 8 → row ≡ get_or (first_chunks 8 (length bs / 8) bs) line row
    → slice_get (words bs) line ≡ Some (eight row 0)
word_got bs row line inside is_row =
    rw (
      slice_get-get_or (words bs) line 0 (grind (arith, length_words)),
      get_or-map-range_with_len (word bs) 0 (length bs / 8) line line 0 inside (omega arith),
    ) (grind (arith, number_at))

-- a list made by f is one made by g with one place set, where f and g differ nowhere else
made_set : (f g : ℕ → ℕ) (n place : ℕ) → place < n → ((i : ℕ) → i ≢ place → f i ≡ g i)
    → map f (range_with_len 0 n) ≡ set (map g (range_with_len 0 n)) place (f place)
made_set f g n place here same =
    sym (fill_by_all f _ n 0 (grind (arith, length-set, length-map-range_with_len))
    (λ k inside. grind (arith, length-map-range_with_len, get_or-map-range_with_len g 0 n k k 0, get_or-set_at, get_or-set_other, same k)))

module _ (bs : List ℕ) (line w : ℕ) (room : 8 * line + 8 ≤ length bs) where
  -- the bytes of the other lines stay, and this line's eight say w
  byte_other : (i : ℕ) → (i < 8 * line) ⊎ (8 * line + 8 ≤ i) → get_or (put_word bs line w) i 0 ≡ get_or bs i 0
  byte_other i apart = search (rules, places)

  word_other : (k : ℕ) → k ≢ line → word (put_word bs line w) k ≡ word bs k
  word_other k other = grind (arith, byte_other)

  word_put : w < 2 ^ 64 → word (put_word bs line w) line ≡ w
  word_put fits = grind (arith, common_steps)

  length_put : length (put_word bs line w) ≡ length bs
  length_put = grind (arith, common_steps)

pub words_put : (bs : List ℕ) (line w : ℕ) → line < length bs / 8 → w < 2 ^ 64 → words (put_word bs line w) ≡ set (words bs) line w
words_put bs line w inside fits =
    let room : 8 * line + 8 ≤ length bs = omega arith in
    rw (
      length_put bs line w room,
      made_set (word (put_word bs line w)) (word bs) (length bs / 8) line inside (word_other bs line w room),
      word_put bs line w room fits,
    )
