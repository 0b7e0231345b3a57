-- What the listing of a run file says first.
use Rattle.std.specs.Prelude.{ℕ, min, List, Ok, Err, Result}
use Rattle.setup.specs.Bound.{Caps, bound, cycles}
use Rattle.setup.specs.Limits.{checking}
use Rattle.setup.specs.declared.draft.Draft.{Draft}
use Rattle.policy.specs.FourNumbers.{caps_of}
use Rattle.runfile.specs.Head.{reading}
use Rattle.listing.specs.Lines.{text}
use Rattle.listing.specs.declared.line.HubLine.{HubLine}

-- the hub of a set-up, on a memory of a count and a kind and a policy of a kind and caps
abbrev pub hub_line : Draft → ℕ → ℕ → ℕ → Caps → HubLine
hub_line d count memory policy caps =
    record {
      cores = d.cores;
      critical = d.critical;
      lines = min d.lines count;
      width = d.width;
      memory = memory;
      policy = policy;
      bound = bound d.critical caps;
      cycles = cycles d.width (bound d.critical caps);
    }

-- one after the other, where the first was not refused
abbrev and_then : {A B : Type 0} → Result A ℕ → (A → Result B ℕ) → Result B ℕ
and_then (Err n) next = Err n
and_then (Ok x) next = next x

-- the hub that a file asks for on a memory of a count and a kind, with policy kind 1, or a refusal's number
abbrev pub hub_of : List ℕ → ℕ → ℕ → Result HubLine ℕ
hub_of file count memory =
    and_then (reading file) (λ p.
    and_then (checking p.0.draft) (λ draft.
    Ok (hub_line draft count memory 1 (caps_of p.0.holds))))

abbrev pub first_line : List ℕ → ℕ → ℕ → List ℕ
first_line file count memory = text (hub_of file count memory)

-- what the programs print: their hub stands on 32 lines of memory kind 3
abbrev pub listing_of : List ℕ → List ℕ
listing_of file = first_line file 32 3
