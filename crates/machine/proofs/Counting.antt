-- One place changed; counts and searches below a number.
use Rattle.std.proofs.Common.{◌≡◌, ℕ, zero, suc, ◌+◌, ◌<◌, ◌≤◌, Bool, true, false, cond, eqb, ◌≢◌, Some, sym, refl, subst, inl, inr, arith}
use Rattle.std.proofs.lemmas.Bool.{eq-eqb, ne_eqb, cases_eq}
use Rattle.std.proofs.lemmas.Bool.Decides.{nat_tests}
use Rattle.machine.specs.Places.{put, count_below, all_below, first_from}

pub never : ◌≡◌ {A = ℕ} 0 1 → ⊥
never e = omega arith

pub put_same : {A : Type 0} (i : ℕ) (v : A) (f : ℕ → A) → put i v f i ≡ v
put_same i v f = rw (eq-eqb i i refl)

pub put_other : {A : Type 0} (i j : ℕ) (v : A) (f : ℕ → A) → j ≢ i → put i v f j ≡ f j
put_other i j v f h = rw (ne_eqb j i h)

-- what holds of the new value and of the others holds after
pub put_all : {A : Type 0} (P : ℕ → A → Type 0) (i : ℕ) (v : A) (f : ℕ → A)
    → P i v → ((j : ℕ) → j ≢ i → P j (f j)) → (j : ℕ) → P j (put i v f j)
put_all P i v f new old j =
    elim (cases_eq j i) [
      | inl e ↦ subst (λ k. P k (put i v f k)) (sym e) (subst (P i) (sym (put_same i v f)) new)
      | inr n ↦ subst (P j) (sym (put_other i j v f n)) (old j n)
    ]

count_le : (p : ℕ → Bool) (n : ℕ) → count_below p n ≤ n
count_le p zero = omega arith
count_le p (suc n) = grind (arith, count_le p n)

pub count_same : (p q : ℕ → Bool) (n : ℕ) → ((k : ℕ) → k < n → p k ≡ q k) → count_below p n ≡ count_below q n
count_same p q zero h = refl
count_same p q (suc n) h = rw (h n (omega arith), count_same p q n (λ k l. h k (omega arith)))

-- one that passed passes no more
pub count_one_less : (p q : ℕ → Bool) (i n : ℕ) → i < n → p i ≡ true → q i ≡ false
    → ((k : ℕ) → k ≢ i → p k ≡ q k) → count_below p n ≡ suc (count_below q n)
count_one_less p q i zero l a b h = omega arith
count_one_less p q i (suc n) l a b h =
    let same : i ≡ n → count_below p n ≡ count_below q n = λ e. count_same p q n (λ k k<n. h k (omega arith)) in
    grind (arith, same, h n, count_one_less p q i n)

pub count_none : (p : ℕ → Bool) (n : ℕ) → ((k : ℕ) → p k ≡ false) → count_below p n ≡ 0
count_none p zero h = refl
count_none p (suc n) h = rw (h n, count_none p n h)

-- only numbers below c pass
count_capped : (p : ℕ → Bool) (c n : ℕ) → ((k : ℕ) → p k ≡ true → k < c) → count_below p n ≤ c
count_capped p c zero h = omega arith
count_capped p c (suc n) h = grind (arith, h n, count_le p n, count_capped p c n h)

-- .. and one of them does not
pub count_missed : (p : ℕ → Bool) (c i n : ℕ) → ((k : ℕ) → p k ≡ true → k < c) → i < c → p i ≡ false → count_below p n < c
count_missed p c i n h l f =
    let q : ℕ → Bool = λ k. cond (eqb k i) true (p k) in
    let below : (k : ℕ) → q k ≡ true → k < c = λ k t. grind (arith, nat_tests, h) in
    grind (arith, count_one_less q p i n, count_capped q c n below, count_le p n)

pub all_from : (p : ℕ → Bool) (n : ℕ) → ((i : ℕ) → i < n → p i ≡ true) → all_below p n ≡ true
all_from p zero h = refl
all_from p (suc n) h = rw (h n (omega arith), all_from p n (λ i l. h i (omega arith)))

pub first_found : (p : ℕ → Bool) (n k u : ℕ) → first_from p n k ≡ Some u → (k ≤ u) × (u < k + n) × (p u ≡ true)
first_found p zero k u e = absurd (never cc)
first_found p (suc n) k u e = grind (arith, first_found p n (suc k) u)
