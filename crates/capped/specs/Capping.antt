-- Kind 4: another policy's timing under caps of one's own.
use Rattle.std.specs.Prelude.{min}
use Rattle.setup.specs.Bound.{Caps}
use Rattle.policy.specs.OwnCaps.{cut}
use Rattle.policy.specs.Timing.{Timing}

-- the smaller caps of two pairs
abbrev pub smaller : Caps → Caps → Caps
smaller a b = record { critical = min a.critical b.critical; noncritical = min a.noncritical b.noncritical }

abbrev pub capped : Caps → Timing → Timing
capped caps t =
    record {
      caps = smaller caps t.caps;
      hold = λ k core holder line requester. cut caps holder requester (t.hold k core holder line requester);
    }
