use Rattle.std.proofs.Common.{ap, sym, ◌∙◌, None, arith}
use Rattle.std.proofs.lemmas.List.{ext_get_or, get_or-replicate}
use Rattle.store.specs.Overlay.{overlaid}
use Rattle.store.proofs.Laid.{overlaid_free, overlaid_is}
use Rattle.store.proofs.last_level.LastLevelStore.clean.Goals as goal

pub returns-clause-below : goal.returns-clause-below
returns-clause-below g c = let sent = c.loop-place.invariant.sent in sym (overlaid_is _ _ _ (omega arith) (λ k inside. grind (arith, sent k)))

pub returns-clause-places : goal.returns-clause-places
returns-clause-places g c =
    ext_get_or None _ _ c.loop-place.invariant.sixteen
    (λ k inside. c.loop-place.invariant.freed k (omega (arith, c.loop-place.invariant.sixteen)) ∙ sym (get_or-replicate 16 k None None (omega (arith, c.loop-place.invariant.sixteen))))

pub returns-clause-meaning : goal.returns-clause-meaning
returns-clause-meaning g c = ap (overlaid _) (returns-clause-places g c) ∙ overlaid_free _ ∙ returns-clause-below g c
