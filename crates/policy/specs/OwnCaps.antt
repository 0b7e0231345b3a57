-- Caps that a policy is given, and holds that are cut to them.
use Rattle.std.specs.Prelude.{ℕ, ◌≤◌, min}
use Rattle.std.proofs.Common.{arith}
use Rattle.setup.specs.Bound.{Caps}
use Rattle.setup.specs.Classes.{of_class}
use Rattle.setup.specs.declared.class.Class.{Class}
use Rattle.setup.specs.declared.class.Class.TheVariants.{Critical, NonCritical}
use Rattle.policy.specs.FourNumbers.{Few}

-- a hold against a critical requester is cut to the cap of the holder's class
abbrev pub cut : Caps → Class → Class → ℕ → ℕ
cut caps holder Critical hold = min (of_class caps holder) hold
cut caps holder NonCritical hold = hold

-- caps of at least 1, and of sixteen bits
abbrev pub SomeCaps : Caps → Type 0
SomeCaps caps = (1 ≤ caps.critical) × (1 ≤ caps.noncritical)

abbrev pub FewCaps : Caps → Type 0
FewCaps caps = Few caps.critical × Few caps.noncritical

pub some_own : (caps : Caps) → SomeCaps caps → (holder : Class) → 1 ≤ of_class caps holder
some_own caps s holder = grind arith

pub few_own : (caps : Caps) → FewCaps caps → (holder : Class) → of_class caps holder ≤ 65535
few_own caps f holder = grind arith

pub cut_few : (caps : Caps) → (holder requester : Class) (hold : ℕ) → hold ≤ 65535 → cut caps holder requester hold ≤ 65535
cut_few caps holder requester hold few = grind arith
