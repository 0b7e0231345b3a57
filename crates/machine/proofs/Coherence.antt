-- Coherence, line by line, for any type V of what a line holds: a writer is alone, and every copy has the last written value; with no
-- writer, so has the memory.
use Rattle.std.proofs.Common.{◌≡◌, ℕ, ◌<◌, ◌≤◌, ◌≢◌, sym, ◌∙◌, arith}
use Rattle.machine.specs.declared.op.Op.{Op}
use Rattle.machine.specs.declared.op.Op.TheVariants.{Read}
use Rattle.machine.proofs.Wishes.{Wish, wish}

-- a copy without its timers; V is what a line holds
pub data Shape (V : Type 0) : Type 0 where
  nothing : Shape V
  reads : V → Shape V
  writes : V → Shape V

abbrev pub no_writer : {V : Type 0} → Shape V → Shape V
no_writer (reads x) = reads x
no_writer _ = nothing

-- One line: n cores with their shapes, the memory's word, the last write's word ------------------

pub record Line {V : Type 0} (n : ℕ) (X : ℕ → Shape V) (m last : V) : Type 0 where
  pub alone : (i j : ℕ) (x : V) → X i ≡ writes x → j ≢ i → X j ≡ nothing
  pub inside : (i : ℕ) → n ≤ i → X i ≡ nothing
  pub read_word : (i : ℕ) (x : V) → X i ≡ reads x → x ≡ last
  pub write_word : (i : ℕ) (x : V) → X i ≡ writes x → x ≡ last
  pub home : ((i : ℕ) (x : V) → X i ≡ writes x → ⊥) → m ≡ last

pub line_same : {V : Type 0} (n : ℕ) (X X' : ℕ → Shape V) (m m' last last' : V) → ((i : ℕ) → X' i ≡ X i) → m' ≡ m → last' ≡ last
    → Line n X m last → Line n X' m' last'
line_same n X X' m m' last last' x e v c =
    record {
      alone = λ i j y w ne. grind (arith, x, c.alone i j y);
      inside = λ i h. grind (arith, x, c.inside i);
      read_word = λ i y r. grind (arith, x, c.read_word i y);
      write_word = λ i y w. grind (arith, x, c.write_word i y);
      home = λ h. e ∙ (c.home (λ i y w. h i y (x i ∙ w)) ∙ sym v);
    }

-- the memory's word changes under a writer alone
pub line_stored : {V : Type 0} (n : ℕ) (X : ℕ → Shape V) (m m' last : V) → (((i : ℕ) (x : V) → X i ≡ writes x → ⊥) → m' ≡ m)
    → Line n X m last → Line n X m' last
line_stored n X m m' last stays c =
    record { alone = c.alone; inside = c.inside; read_word = c.read_word; write_word = c.write_word; home = λ h. stays h ∙ c.home h }

-- one writer alone
pub line_writer : {V : Type 0} (n : ℕ) (X : ℕ → Shape V) (m : V) (u : ℕ) (x : V) → u < n → X u ≡ writes x
    → ((i : ℕ) → i ≢ u → X i ≡ nothing) → Line n X m x
line_writer n X m u x h e rest =
    record {
      alone = λ i j y w ne. grind (arith, rest i, rest j);
      inside = λ i a. rest i (omega arith);
      read_word = λ i y r. grind (arith, rest i);
      write_word = λ i y w. grind (arith, rest i);
      home = λ f. absurd (f u x e);
    }

-- a new reader, and no writer is left
pub line_reader : {V : Type 0} (n : ℕ) (X X' : ℕ → Shape V) (m m' last : V) (u : ℕ) → u < n → X' u ≡ reads last
    → ((i : ℕ) → i ≢ u → X' i ≡ no_writer (X i)) → m' ≡ last
    → Line n X m last → Line n X' m' last
line_reader n X X' m m' last u h e rest back c =
    record {
      alone = λ i j y w ne. grind (arith, rest i);
      inside = λ i a. grind (arith, rest i, c.inside i);
      read_word = λ i y r. grind (arith, rest i, c.read_word i y);
      write_word = λ i y w. grind (arith, rest i);
      home = λ f. back;
    }

-- All lines ---------------------------------------------------------------------------------------

-- M line is what the memory holds of it, for size lines
pub record Coherent {V : Type 0} (n lines size : ℕ) (X : ℕ → ℕ → Shape V) (M : ℕ → V) (W : ℕ → Wish) (last : ℕ → V) : Type 0 where
  pub line : (l : ℕ) → Line n (X l) (M l) (last l)
  pub absent : (i l : ℕ) → W i ≡ wish l Read → X l i ≡ nothing
  pub room : (i l : ℕ) (o : Op) → W i ≡ wish l o → (i < n) × (l < lines)
  pub fits : lines ≤ size
