-- The words of a last-level store, line by line.
use Rattle.std.proofs.Common.{◌≡◌, ℕ, zero, suc, ◌+◌, ◌%◌, ◌<◌, ◌≤◌, List, length, get_or, set, take, replicate, is_some, None, Some, refl, ap, ◌∙◌, add-one, arith}
use Rattle.std.specs.List.{count_by}
use Rattle.std.proofs.lemmas.List.{take_all}
use Rattle.std.proofs.lemmas.List.Sums.{count_by_more_no, count_by_more_yes}
use Rattle.std.proofs.lemmas.List.FromFn.{length-map-range_with_len, get_or-map-range_with_len}
use Rattle.std.proofs.lemmas.List.{length-set, ext_get_or, get_or-replicate}
use Rattle.std.proofs.lemmas.Grind.{common_steps}
use Rattle.memory.specs.Words.{stored}
use Rattle.store.specs.Overlay.{Place, holds, laid, overlaid, Placed, AllBelow, displaced, held, held_in}

pub length_overlaid : (ws : List ℕ) (ps : List Place) → length (overlaid ws ps) ≡ length ws
length_overlaid ws ps = length-map-range_with_len _ 0 (length ws)

-- the word of a line is its place's, or else the one below
pub get_or_overlaid : (ws : List ℕ) (ps : List Place) (n : ℕ) → n < length ws → get_or (overlaid ws ps) n 0 ≡ laid (get_or ps (n % 16) None) n (get_or ws n 0)
get_or_overlaid ws ps n inside = get_or-map-range_with_len _ 0 (length ws) n n 0 inside (omega arith)

-- a list with the store's word at each line is what the store means
pub overlaid_is : (ws vs : List ℕ) (ps : List Place) → length ws ≡ length vs
    → ((k : ℕ) → k < length ws → laid (get_or ps (k % 16) None) k (get_or ws k 0) ≡ get_or vs k 0) → overlaid ws ps ≡ vs
overlaid_is ws vs ps size same =
    ext_get_or 0 _ _ (length_overlaid ws ps ∙ size) (λ k inside. grind (arith, length_overlaid, get_or_overlaid, same k))

-- with all places free the store means the words below
pub overlaid_free : (ws : List ℕ) → overlaid ws (replicate 16 None) ≡ ws
overlaid_free ws = overlaid_is ws ws (replicate 16 None) refl (λ k inside. grind (arith, get_or-replicate))

-- a store to a line: the place's word goes below, and the line's comes into the place
pub overlaid_stored : (ws : List ℕ) (ps : List Place) (line word : ℕ) → line < length ws → length ps ≡ 16 → Placed ps
    → overlaid (displaced ws (get_or ps (line % 16) None) line) (set ps (line % 16) (holds line word)) ≡ stored (overlaid ws ps) line word
overlaid_stored ws ps line word inside sixteen fit =
    overlaid_is _ _ _ (grind (arith, length_overlaid, length-set))
    (λ k within. grind (arith, common_steps, length_overlaid, get_or_overlaid))

-- a store's places have words of lines below the count alone, so that the words below the count are all
pub held_in_all : (count : ℕ) (ps : List Place) → length ps ≡ 16 → AllBelow count ps → held_in count ps 16 ≡ count_by is_some ps
held_in_all count ps sixteen below = go 16 (omega arith) ∙ ap (count_by is_some) (take_all 16 ps (omega arith))
  where
    one_more : (n : ℕ) → n < 16 → (p : Place) → get_or ps n None ≡ p → held count p + count_by is_some (take n ps) ≡ count_by is_some (take (n + 1) ps)
    one_more n few None e = grind (arith, count_by_more_no)
    one_more n few (Some h) e = grind (arith, count_by_more_yes, below n)

    go : (n : ℕ) → n ≤ 16 → held_in count ps n ≡ count_by is_some (take n ps)
    go zero few = refl
    go (suc n) few =
        let more = one_more n (omega arith) (get_or ps n None) refl in
        let step = ap (λ m. count_by is_some (take m ps)) (add-one n) in
        omega (arith, go n (omega arith), more, step)
