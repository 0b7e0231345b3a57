-- The names of the states that a core can be in on a line, four letters each, by code.
use Rattle.std.specs.Prelude.{ℕ, List, [], ◌∷◌, codes, slice_index_or}

abbrev pub state_names : List (List ℕ)
state_names =
    -- 0: nothing held, nothing asked for
    codes "I   "
    -- 1, 2: held as a reader, as a writer
    ∷ codes "S   "
    ∷ codes "M   "
    -- 3, 4: the same, and called for by an ordered request
    ∷ codes "STI "
    ∷ codes "MTI "
    -- 5, 6: nothing held; a read is asked, is ordered
    ∷ codes "ISAD"
    ∷ codes "ISD "
    -- 7, 8: nothing held; a write is asked, is ordered
    ∷ codes "IMAD"
    ∷ codes "IMD "
    ∷ []

-- spaces for a number that is no code
abbrev pub state_name : ℕ → List ℕ
state_name code = slice_index_or state_names code (codes "    ")
