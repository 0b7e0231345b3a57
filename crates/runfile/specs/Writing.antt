-- A head as somebody writes it down, field by field.
use Rattle.std.specs.Prelude.{ℕ, ◌+◌, ◌/◌, ◌%◌, Bool, if◌then◌else◌, List, [], ◌∷◌, ◌++◌, is_some, Some, None, Option}
use Rattle.std.specs.Option.{unwrap_or}
use Rattle.policy.specs.FourNumbers.{FourHolds}
use Rattle.runfile.specs.declared.head.Head.{Head}

-- the fields that are there
pub record Fields : Type 0 where
  pub cores : Option ℕ
  pub critical : Option ℕ
  pub lines : Option ℕ
  pub width : Option ℕ
  pub holds : Option FourHolds

abbrev pub bit : Bool → ℕ → ℕ
bit present weight = if present then weight else 0

abbrev pub map_of : Bool → Bool → Bool → Bool → Bool → ℕ
map_of a b c d e = bit a 1 + bit b 2 + bit c 4 + bit d 8 + bit e 16

abbrev pub map_byte : Fields → ℕ
map_byte f = map_of (is_some f.cores) (is_some f.critical) (is_some f.lines) (is_some f.width) (is_some f.holds)

-- a number of two bytes, highest first
abbrev pub two : ℕ → List ℕ
two n = (n / 256) ∷ (n % 256) ∷ []

-- the bytes of a field: none where it is absent
abbrev pub one_byte : Option ℕ → List ℕ
one_byte None = []
one_byte (Some n) = n ∷ []

abbrev pub two_bytes : Option ℕ → List ℕ
two_bytes None = []
two_bytes (Some n) = two n

abbrev pub eight_bytes : Option FourHolds → List ℕ
eight_bytes None = []
eight_bytes (Some v) = two v.critical.critical ++ (two v.critical.noncritical ++ (two v.noncritical.critical ++ two v.noncritical.noncritical))

-- the head, and behind it the rest of the file
abbrev pub file_of : Fields → List ℕ → List ℕ
file_of f rest =
    map_byte f ∷ (one_byte f.cores ++ (one_byte f.critical ++ (one_byte f.lines ++ (two_bytes f.width ++ (eight_bytes f.holds ++ rest)))))

-- what it stands for: absent fields have their defaults
abbrev pub default_holds : FourHolds
default_holds = record { critical = record { critical = 4; noncritical = 8 }; noncritical = record { critical = 2; noncritical = 4 } }

abbrev pub told : Fields → Head
told f =
    record {
      draft =
          record {
            cores = unwrap_or f.cores 4;
            critical = unwrap_or f.critical 2;
            lines = unwrap_or f.lines 32;
            width = unwrap_or f.width 50;
          };
      holds = unwrap_or f.holds default_holds;
    }
