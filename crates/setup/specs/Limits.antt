-- The limits of a set-up, and which of them decides a refusal.
use Rattle.std.specs.Prelude.{ℕ, ◌≤◌, Bool, if◌then◌else◌, not, ◌&&◌, Ok, Err, Result, nat_le}
use Rattle.setup.specs.declared.draft.Draft.{Draft}

pub record KeepsLimits (d : Draft) : Type 0 where
  pub cores : (1 ≤ d.cores) × (d.cores ≤ 8)
  pub critical : (1 ≤ d.critical) × (d.critical ≤ d.cores)
  pub lines : (1 ≤ d.lines) × (d.lines ≤ 32)
  pub width : (1 ≤ d.width) × (d.width ≤ 65535)

abbrev pub within : ℕ → ℕ → ℕ → Bool
within low high n = nat_le low n && nat_le n high

-- the draft itself, or the number of the first limit that it breaks
abbrev pub checking : Draft → Result Draft ℕ
checking d =
    if not (within 1 8 d.cores) then Err 1
    else if not (within 1 d.cores d.critical) then Err 2
    else if not (within 1 32 d.lines) then Err 3
    else if not (within 1 65535 d.width) then Err 4
    else Ok d
