-- What there is one of for each class of cores.
use Rattle.std.specs.Prelude.{◌≡◌, ℕ, List, slice_index}
use Rattle.setup.specs.declared.class.ByClass.{ByClass}
use Rattle.setup.specs.declared.class.Class.{Class}
use Rattle.setup.specs.declared.class.Class.TheVariants.{Critical, NonCritical}

-- that of one class
abbrev pub of_class : {A : Type 0} → ByClass A → Class → A
of_class each Critical = each.critical
of_class each NonCritical = each.noncritical

-- these are the four numbers of a row: by the first class and then by the second, critical before non-critical
abbrev pub AreFourNumbers : List ℕ → ByClass (ByClass ℕ) → Type 0
AreFourNumbers row each =
    each ≡ record {
      critical = record { critical = slice_index row 0; noncritical = slice_index row 1 };
      noncritical = record { critical = slice_index row 2; noncritical = slice_index row 3 };
    }
