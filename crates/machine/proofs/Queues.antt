-- The critical requests in order on each line: who sits where. There are c critical cores among n.
use Rattle.std.proofs.Common.{◌≡◌, ℕ, suc, ◌-◌, ◌<◌, ◌≤◌, Bool, false, cond, ◌&&◌, eqb, ltb, ◌≢◌, ◌⊎◌, sym, ap, ◌∙◌, inl, inr, arith}
use Rattle.std.proofs.lemmas.Bool.{cases_lt, eqb-true}
use Rattle.std.proofs.lemmas.Bool.Decides.{nat_tests}
use Rattle.machine.specs.Places.{count_below}
use Rattle.machine.proofs.Counting.{never, count_same, count_one_less, count_none, count_missed}

-- a place in a line's order: the line, and how many are ahead
pub data Seat : Type 0 where
  unseated : Seat
  seated : ℕ → ℕ → Seat

abbrev pub on : ℕ → Seat → Bool
on l unseated = false
on l (seated l' a) = eqb l' l

-- the first of line l has left
abbrev pub up : ℕ → Seat → Seat
up l unseated = unseated
up l (seated l' a) = seated l' (cond (eqb l' l) (a - 1) a)

on_up : (l l' : ℕ) (t : Seat) → on l' (up l t) ≡ on l' t
on_up l l' t = grind arith

-- a seat after the step comes from one before
up_from : (l l' a : ℕ) (t : Seat) → up l t ≡ seated l' a → (a' : ℕ) × (t ≡ seated l' a') × (a ≡ cond (eqb l' l) (a' - 1) a')
up_from l l' a t e = grind (arith, eqb-true)

module _ (c n : ℕ) where
  -- whether a critical core has a seat on the line, and how many have
  abbrev pub sits : (ℕ → Seat) → ℕ → ℕ → Bool
  sits S l k = ltb k c && on l (S k)

  unfoldable pub len : (ℕ → Seat) → ℕ → ℕ
  len S l = count_below (sits S l) n

  -- the seats of each line are taken from the first on, each by one core
  pub record Queues (S : ℕ → Seat) : Type 0 where
    pub filled : (l k : ℕ) → k < len S l → (j : ℕ) × (j < c) × (S j ≡ seated l k)
    pub inside : (l a j : ℕ) → j < c → S j ≡ seated l a → a < len S l
    pub apart : (l a i j : ℕ) → i < c → j < c → S i ≡ seated l a → S j ≡ seated l a → i ≡ j

-- nothing changes where no critical core's seat does
len_same : (c n : ℕ) (S S' : ℕ → Seat) (l : ℕ) → ((j : ℕ) → j < c → on l (S' j) ≡ on l (S j)) → len c n S' l ≡ len c n S l
unfolding len
len_same c n S S' l h = count_same (sits c n S' l) (sits c n S l) n (λ k _. grind (arith, nat_tests, h k))

pub queues_same : (c n : ℕ) (S S' : ℕ → Seat) → ((j : ℕ) → j < c → S' j ≡ S j) → Queues c n S → Queues c n S'
queues_same c n S S' h q =
    record {
      filled = λ l k a. let r = q.filled l k (rw (same l) at a) in (r.0, r.1, h r.0 r.1 ∙ r.2);
      inside = λ l a j b e. rw (same l) (q.inside l a j b (sym (h j b) ∙ e));
      apart = λ l a i j hi hj ei ej. q.apart l a i j hi hj (sym (h i hi) ∙ ei) (sym (h j hj) ∙ ej);
    }
  where
    same : (l : ℕ) → len c n S' l ≡ len c n S l
    same l = len_same c n S S' l (λ j a. ap (on l) (h j a))

-- at the start nobody sits
pub queues_none : (c n : ℕ) → Queues c n (λ j. unseated)
unfolding len
queues_none c n =
    record {
      filled = λ l k a. absurd (omega (arith, empty l));
      inside = λ l a j b e. absurd (never cc);
      apart = λ l a i j hi hj ei ej. absurd (never cc);
    }
  where
    empty : (l : ℕ) → len c n (λ j. unseated) l ≡ 0
    empty l = count_none (sits c n (λ j. unseated) l) n (λ k. grind arith)

-- fewer sit on a line than there are, where one sits nowhere
pub len_missed : (c n : ℕ) (S : ℕ → Seat) (l u : ℕ) → u < c → S u ≡ unseated → len c n S l < c
unfolding len
len_missed c n S l u h e = count_missed (sits c n S l) c u n (λ k t. grind (arith, nat_tests)) h (grind arith)

-- a core that sits nowhere takes the last seat of a line
module _ (c n : ℕ) (c≤n : c ≤ n) (S S' : ℕ → Seat) (u l : ℕ) (u<c : u < c)
    (was : S u ≡ unseated) (now_is : S' u ≡ seated l (len c n S l)) (rest : (j : ℕ) → j ≢ u → S' j ≡ S j) where
  join_len : len c n S' l ≡ suc (len c n S l)
  unfolding len
  join_len =
      count_one_less (sits c n S' l) (sits c n S l) u n (omega arith) (grind (arith, nat_tests)) (grind (arith, nat_tests))
      (λ k ne. rw (rest k ne))

  join_len_other : (l' : ℕ) → l ≢ l' → len c n S' l' ≡ len c n S l'
  join_len_other l' ne = len_same c n S S' l' (λ j _. grind (arith, nat_tests, rest j))

  join_from : (j l' a : ℕ) → S' j ≡ seated l' a
      → ((j ≡ u) × (l ≡ l') × (a ≡ len c n S l)) ⊎ ((j ≢ u) × (S j ≡ seated l' a))
  join_from j l' a e = grind (arith, rest j)

  pub join : Queues c n S → Queues c n S'
  join q =
      record {
        filled = λ l' k a. elim (cases_lt k (len c n S l')) [
          | inl b ↦ let r = q.filled l' k b in (r.0, r.1, grind (arith, rest r.0))
          | inr b ↦ (u, u<c, grind (arith, join_len, join_len_other l'))
        ];
        inside = λ l' a j b e. grind (arith, join_from j l' a e, join_len, join_len_other l', q.inside l' a j);
        apart = λ l' a i j hi hj ei ej. grind (arith, join_from i l' a ei, join_from j l' a ej, q.inside l' a, q.apart l' a i j);
      }

-- the first of a line leaves, and the others of that line move up
module _ (c n : ℕ) (c≤n : c ≤ n) (S S' : ℕ → Seat) (u l : ℕ) (u<c : u < c)
    (was : S u ≡ seated l 0) (now_is : S' u ≡ unseated) (rest : (j : ℕ) → j < c → j ≢ u → S' j ≡ up l (S j)) where
  pub leave_from : Queues c n S → (j l' a : ℕ) → j < c → S' j ≡ seated l' a
      → (j ≢ u) × (((l ≡ l') × (S j ≡ seated l' (suc a))) ⊎ ((l ≢ l') × (S j ≡ seated l' a)))
  leave_from q j l' a b e = grind (arith, rest j, up_from l l' a (S j), q.apart l 0 j u)

  leave_len : len c n S l ≡ suc (len c n S' l)
  unfolding len
  leave_len =
      count_one_less (sits c n S l) (sits c n S' l) u n (omega arith) (grind (arith, nat_tests)) (grind (arith, nat_tests))
      (λ k ne. grind (arith, nat_tests, rest k, on_up l l (S k)))

  leave_len_other : (l' : ℕ) → l ≢ l' → len c n S' l' ≡ len c n S l'
  leave_len_other l' ne = len_same c n S S' l' (λ j a. grind (arith, nat_tests, rest j, on_up l l' (S j)))

  pub leave : Queues c n S → Queues c n S'
  leave q =
      record {
        filled = λ l' k a.
            let r = q.filled l' (cond (eqb l l') (suc k) k) (grind (arith, leave_len, leave_len_other l')) in
            (r.0, r.1, grind (arith, rest r.0));
        inside = λ l' a j b e.
            grind (arith, leave_from q j l' a b e, leave_len, leave_len_other l', q.inside l' (suc a) j, q.inside l' a j);
        apart = λ l' a i j hi hj ei ej.
            grind (arith, leave_from q i l' a hi ei, leave_from q j l' a hj ej, q.apart l' (suc a) i j, q.apart l' a i j);
      }
