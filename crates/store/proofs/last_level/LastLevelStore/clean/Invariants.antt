-- After the first places: of a line that uses one of them the word that the store means lies below, and of another line the word that lay
-- there; and these places are free. The loop has the store open: part 1.0 of it is the memory below, and `place-items` are the places.
use Rattle.std.proofs.Common.{◌≡◌, ℕ, ◌%◌, ◌<◌, ◌≤◌, length, get_or, None}
use Rattle.store.specs.Overlay.{laid, held_in}
use Rattle.store.proofs.last_level.LastLevelStore.clean.Given as goal

abbrev pub invariant-loop-place : goal.invariant-loop-place
invariant-loop-place g l =
    let words = g.M.Memory.words l.fn.self.below in
    let below = g.M.Memory.words l.self.1.0 in
    let places = l.fn.self.places in
    record {
      size : length below ≡ length words;
      sent : (k : ℕ) → k < length words → k % 16 < l.place-index → get_or below k 0 ≡ laid (get_or places (k % 16) None) k (get_or words k 0);
      kept : (k : ℕ) → k < length words → l.place-index ≤ k % 16 → get_or below k 0 ≡ get_or words k 0;
      sixteen : length l.place-items ≡ 16;
      freed : (k : ℕ) → k < l.place-index → get_or l.place-items k None ≡ None;
      left : (k : ℕ) → l.place-index ≤ k → get_or l.place-items k None ≡ get_or places k None;
      count : l.stored ≡ held_in (length words) places l.place-index;
      few : l.stored ≤ l.place-index;
    }
