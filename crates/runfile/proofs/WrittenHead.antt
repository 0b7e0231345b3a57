-- A head that is written field by field reads as what was written.
use Rattle.std.proofs.Common.{◌≡◌, ℕ, ◌≤◌, Bool, true, nat_lt, List, ◌∷◌, ◌++◌, length, is_some, Some, None, Ok, Option, Result, unwrap_or, refl, ◌∙◌, arith}
use Rattle.std.proofs.lemmas.Bool.{le-leb}
use Rattle.std.proofs.lemmas.Grind.{common_steps}
use Rattle.policy.specs.FourNumbers.{FourHolds}
use Rattle.runfile.specs.Fields.{fixed, field, stands}
use Rattle.runfile.specs.Head.{draft_of, holds_of, head, reading}
use Rattle.runfile.specs.declared.head.Head.{Head}
use Rattle.runfile.specs.Writing.{Fields, two, one_byte, two_bytes, eight_bytes, map_of, map_byte, file_of, default_holds, told}

-- each bit of the map byte says whether its field is there, and no other bit stands
module _ (cores critical lines width holds : Bool) where
  abbrev told_map : ℕ
  told_map = map_of cores critical lines width holds

  stands_cores : stands told_map 1 ≡ cores
  stands_cores = grind arith

  stands_critical : stands told_map 2 ≡ critical
  stands_critical = grind arith

  stands_lines : stands told_map 4 ≡ lines
  stands_lines = grind arith

  stands_width : stands told_map 8 ≡ width
  stands_width = grind arith

  stands_holds : stands told_map 16 ≡ holds
  stands_holds = grind arith

  map_named : nat_lt told_map 32 ≡ true
  map_named = grind arith

-- a number reads as what was written
fixed_one : (n : ℕ) (rest : List ℕ) → fixed 1 (n ∷ rest) ≡ Some (n, rest)
fixed_one n rest = grind (arith, common_steps)

fixed_two : (n : ℕ) (rest : List ℕ) → fixed 2 (two n ++ rest) ≡ Some (n, rest)
fixed_two n rest = grind (arith, common_steps)

-- and so does a field, there or absent
field_one : (o : Option ℕ) (absent : ℕ) (rest : List ℕ) → field (is_some o) 1 absent (one_byte o ++ rest) ≡ Some (unwrap_or o absent, rest)
field_one None absent rest = refl
field_one (Some n) absent rest = fixed_one n rest

field_two : (o : Option ℕ) (absent : ℕ) (rest : List ℕ) → field (is_some o) 2 absent (two_bytes o ++ rest) ≡ Some (unwrap_or o absent, rest)
field_two None absent rest = refl
field_two (Some n) absent rest = fixed_two n rest

draft_reads : (f : Fields) (rest : List ℕ)
    → draft_of (map_byte f) (one_byte f.cores ++ (one_byte f.critical ++ (one_byte f.lines ++ (two_bytes f.width ++ rest)))) ≡ Some ((told f).draft, rest)
draft_reads f rest =
    rw (stands_cores, stands_critical, stands_lines, stands_width, field_one, field_one, field_one, field_two)

holds_read : (map : ℕ) (o : Option FourHolds) (rest : List ℕ) → stands map 16 ≡ is_some o → holds_of map (eight_bytes o ++ rest) ≡ Some (unwrap_or o default_holds, rest)
holds_read map None rest absent = rw absent
holds_read map (Some v) rest there = rw (there, fixed_two, fixed_two, fixed_two, fixed_two)

head_reads : (f : Fields) (rest : List ℕ) → head (file_of f rest) ≡ Some (told f, rest)
head_reads f rest =
    let told_holds : stands (map_byte f) 16 ≡ is_some f.holds = stands_holds _ _ _ _ _ in
    rw (fixed_one, map_named, draft_reads, holds_read)

pub reads_what_was_written : (r : Result (Head × List ℕ) ℕ) (file : List ℕ) → r ≡ reading file
    → (f : Fields) (rest : List ℕ) → file ≡ file_of f rest → length file ≤ 65536 → r ≡ Ok (told f, rest)
reads_what_was_written r file value f rest written few = value ∙ rw (le-leb (length file) 65536, written, head_reads)
