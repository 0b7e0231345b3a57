-- What storing the writers of a line does to the words.
use Rattle.std.proofs.Common.{◌≡◌, ℕ, zero, suc, ◌<◌, Bool, true, false, ◌&&◌, ◌≢◌, List, length, get_or, refl, arith, length-set, get_or-set_other, get_or-set_same, Option}
use Rattle.machine.specs.declared.held.Held.{Held}
use Rattle.machine.specs.Grant.{write_back}
use Rattle.machine.specs.Parts.{is_writers, word_in}

module _ (way : ℕ → Option Held → Bool) (cs : ℕ → Option Held) (l : ℕ) where
  pub write_back_length : (n : ℕ) (m : List ℕ) → length (write_back way cs l n m) ≡ length m
  write_back_length zero m = refl
  write_back_length (suc n) m = grind (arith, length-set, write_back_length n m)

  pub write_back_other : (n : ℕ) (m : List ℕ) (l' : ℕ) → l' ≢ l → get_or (write_back way cs l n m) l' 0 ≡ get_or m l' 0
  write_back_other zero m l' ne = refl
  write_back_other (suc n) m l' ne = grind (arith, get_or-set_other, write_back_other n m l' ne)

  -- where each stored word and a word that stays are v
  pub write_back_word : (n : ℕ) (m : List ℕ) (v : ℕ) → l < length m
      → ((k : ℕ) → k < n → way k (cs k) ≡ true → is_writers (cs k) ≡ true → word_in (cs k) ≡ v)
      → (((k : ℕ) → k < n → way k (cs k) ≡ true → is_writers (cs k) ≡ true → ⊥) → get_or m l 0 ≡ v)
      → get_or (write_back way cs l n m) l 0 ≡ v
  write_back_word zero m v h stored stays = stays (λ k a _ _. omega arith)
  write_back_word (suc n) m v h stored stays =
      let before : (way n (cs n) && is_writers (cs n) ≡ false) → get_or (write_back way cs l n m) l 0 ≡ v =
      λ no. write_back_word n m v h (λ k a. stored k (omega arith)) (λ none. stays (λ k a w t. grind (arith, none k))) in
      grind (arith, get_or-set_same, write_back_length n m, stored n, before)
