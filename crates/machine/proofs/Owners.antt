-- The owners of the slots to come, of c critical cores in turn.
use Rattle.std.proofs.Common.{◌≢◌, refl, ◌≡◌, ℕ, zero, suc, ◌+◌, ◌-◌, ◌<◌, ◌≤◌, cond, ltb, ◌∙◌, inl, inr, arith}
use Rattle.std.proofs.lemmas.Bool.{cases_lt, lt-ltb, le-ltb}
use Rattle.std.proofs.lemmas.Bool.Decides.{nat_tests}

abbrev pub next_owner : ℕ → ℕ → ℕ
next_owner c o = cond (ltb (suc o) c) (suc o) 0

pub next_below : (c o : ℕ) → 0 < c → next_owner c o < c
next_below c o h = grind (arith, nat_tests)

-- the owner after k more slots
abbrev pub owner_in : ℕ → ℕ → ℕ → ℕ
owner_in c zero o = o
owner_in c (suc k) o = owner_in c k (next_owner c o)

-- a slot later it is one slot less
pub owner_sooner : (c k o : ℕ) → k ≢ 0 → owner_in c (k - 1) (next_owner c o) ≡ owner_in c k o
owner_sooner c zero o some = absurd (some refl)
owner_sooner c (suc k) o some = let less : suc k - 1 ≡ k = omega arith in rw less refl

owner_add : (c a b o : ℕ) → owner_in c (a + b) o ≡ owner_in c b (owner_in c a o)
owner_add c zero b o = let e : 0 + b ≡ b = omega arith in rw e
owner_add c (suc a) b o =
    let e : suc a + b ≡ suc (a + b) = omega arith in
    rw e (owner_add c a b (next_owner c o))

owner_below : (c k o : ℕ) → 0 < c → o < c → owner_in c k o < c
owner_below c zero o p l = l
owner_below c (suc k) o p l = owner_below c k (next_owner c o) p (next_below c o p)

owner_up : (c k o : ℕ) → o + k < c → owner_in c k o ≡ o + k
owner_up c zero o l = omega arith
owner_up c (suc k) o l =
    rw (lt-ltb (suc o) c (omega arith)) (owner_up c k (suc o) (omega arith) ∙ omega arith)

-- every critical core is owner within c slots
pub owner_reaches : (c o h : ℕ) → o < c → h < c → (k : ℕ) × (k < c) × (owner_in c k o ≡ h)
owner_reaches c o h l m =
    elim (cases_lt h o) [
      | inr le ↦ (h - o, omega arith, owner_up c (h - o) o (omega arith) ∙ omega arith)
      | inl lt ↦
          let a : ℕ = c - suc o in
          let e : owner_in c a o ≡ c - 1 = owner_up c a o (omega arith) ∙ omega arith in
          let z : owner_in c (a + 1) o ≡ 0 = owner_add c a 1 o ∙ rw (e, le-ltb (suc (c - 1)) c (omega arith)) in
          (a + 1 + h, omega arith, owner_add c (a + 1) h o ∙ rw z (owner_up c h 0 (omega arith) ∙ omega arith))
    ]

-- .. and so from t slots on
pub owner_reaches_from : (c t o h : ℕ) → o < c → h < c → (k : ℕ) × (t ≤ k) × (k < t + c) × (owner_in c k o ≡ h)
owner_reaches_from c t o h l m =
    let r = owner_reaches c (owner_in c t o) h (owner_below c t o (omega arith) l) m in
    (t + r.0, omega arith, omega arith, owner_add c t r.0 o ∙ r.2)
