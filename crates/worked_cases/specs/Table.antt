-- One table of worked cases.
use Rattle.std.specs.Prelude.{◌≡◌, ℕ, List, [], ◌∷◌, map, Ok, Err, Result}
use Rattle.setup.specs.Bound.{bound, cycles}
use Rattle.setup.specs.Limits.{checking}
use Rattle.setup.specs.declared.draft.Draft.{Draft}

pub data Question : Type 0 where
  -- checking cores, critical cores, lines and slot width
  checked : ℕ → ℕ → ℕ → ℕ → Question
  -- the bound in slots, for so many critical cores and the caps of critical and non-critical holders
  in_slots : ℕ → ℕ → ℕ → Question
  -- the same in cycles, at a slot width
  in_cycles : ℕ → ℕ → ℕ → ℕ → Question

abbrev pub slots : ℕ → ℕ → ℕ → ℕ
slots c hc hn = bound c (record { critical = hc; noncritical = hn })

-- a refusal's number, or 0
abbrev pub refusal : Result Draft ℕ → ℕ
refusal (Ok d) = 0
refusal (Err n) = n

abbrev pub outcome : Question → ℕ
outcome (checked n c l w) = refusal (checking (record { cores = n; critical = c; lines = l; width = w }))
outcome (in_slots c hc hn) = slots c hc hn
outcome (in_cycles c hc hn w) = cycles w (slots c hc hn)

pub record Row : Type 0 where
  pub question : Question
  pub worked : ℕ

abbrev pub row : Question → ℕ → Row
row q n = record { question = q; worked = n }

abbrev pub table : List Row
table =
    -- the largest set-up is accepted
    row (checked 8 8 32 65535) 0
    -- one core too many
    ∷ row (checked 9 2 32 50) 1
    -- no critical core, which comes before too many lines
    ∷ row (checked 4 0 32 50) 2
    ∷ row (checked 4 0 33 50) 2
    -- more critical cores than cores
    ∷ row (checked 4 5 32 50) 2
    -- one line too many
    ∷ row (checked 4 2 33 50) 3
    -- a slot width of 0, and one too wide
    ∷ row (checked 4 2 32 0) 4
    ∷ row (checked 4 2 32 65536) 4
    -- a small bound
    ∷ row (in_slots 2 4 2) 11
    -- the largest bound, in slots and in cycles
    ∷ row (in_slots 8 65535 65535) 524343
    ∷ row (in_cycles 8 65535 65535 65535) 34362818505
    ∷ []

abbrev pub Worked : Type 0
Worked = map (λ r. outcome r.question) table ≡ map (λ r. r.worked) table
