-- The head of a run file.
use Rattle.std.specs.Prelude.{ℕ, Bool, if◌then◌else◌, List, length, Some, None, Ok, Err, Result, nat_le, nat_lt}
use Rattle.std.specs.Borrow.{Bor}
use Rattle.std.specs.Option.{ok_or}
use Rattle.policy.specs.FourNumbers.{Against, FourHolds}
use Rattle.setup.specs.Refusals.{number}
use Rattle.setup.specs.declared.draft.Draft.{Draft}
use Rattle.setup.specs.declared.refusal.Refusal.{Refusal}
use Rattle.runfile.specs.Fields.{Parsed, and_then, fixed, field, stands}
use Rattle.runfile.specs.declared.head.Head.{Head}

-- cores, critical cores and lines of one byte each, and the slot width of two
abbrev pub draft_of : ℕ → List ℕ → Parsed Draft
draft_of map bs =
    and_then (field (stands map 1) 1 4 bs) (λ cores a.
    and_then (field (stands map 2) 1 2 a) (λ critical b.
    and_then (field (stands map 4) 1 32 b) (λ lines c.
    and_then (field (stands map 8) 2 50 c) (λ width d.
    Some (record { cores = cores; critical = critical; lines = lines; width = width }, d)))))

-- two holds of two bytes each, against critical and against non-critical requesters
abbrev pub against_of : Bool → Against → List ℕ → Parsed Against
against_of present absent bs =
    and_then (field present 2 absent.critical bs) (λ critical a.
    and_then (field present 2 absent.noncritical a) (λ noncritical b.
    Some (record { critical = critical; noncritical = noncritical }, b)))

-- those of critical and of non-critical holders, all present or none
abbrev pub holds_of : ℕ → List ℕ → Parsed FourHolds
holds_of map bs =
    and_then (against_of (stands map 16) (record { critical = 4; noncritical = 8 }) bs) (λ critical a.
    and_then (against_of (stands map 16) (record { critical = 2; noncritical = 4 }) a) (λ noncritical b.
    Some (record { critical = critical; noncritical = noncritical }, b)))

-- the fields, one after the other
abbrev pub fields_of : ℕ → List ℕ → Parsed Head
fields_of map bs =
    and_then (draft_of map bs) (λ draft a.
    and_then (holds_of map a) (λ holds b.
    Some (record { draft = draft; holds = holds }, b)))

-- the map byte, in which no bit above the fifth may stand, and then the fields
abbrev pub head : List ℕ → Parsed Head
head bs = and_then (fixed 1 bs) (λ map a. if nat_lt map 32 then fields_of map a else None)

-- what reading the head of a file answers
abbrev pub reading : List ℕ → Result (Head × List ℕ) ℕ
reading file = if nat_le (length file) 65536 then ok_or (head file) 10 else Err 10

-- what a function over a slice answered: the bytes after the head as a list, a refusal by its number
abbrev pub outcome : Result (Head × Bor (List ℕ)) Refusal → Result (Head × List ℕ) ℕ
outcome (Ok p) = Ok (p.0, p.1.now)
outcome (Err e) = Err (number e)
