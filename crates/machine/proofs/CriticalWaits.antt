-- Critical waits are bounded.
use Rattle.std.proofs.Common.{◌≡◌, ℕ, ◌⊎◌, ◌∷◌, ◌++◌, subst, inl, inr, arith}
use Rattle.setup.specs.declared.refusal.Refusal.{Refusal}
use Rattle.machine.specs.declared.call.Call.TheVariants.{Ask}
use Rattle.machine.specs.declared.op.Op.{Op}
use Rattle.machine.specs.declared.sizes.Sizes.{Sizes}
use Rattle.machine.specs.Asking.{asking}
use Rattle.machine.specs.CriticalWaits.{CriticalWaitsAreBounded}
use Rattle.machine.specs.History.{sizes, event, From}
use Rattle.machine.specs.Replies.{Reply, refused, hit, waits}
use Rattle.machine.specs.State.{State}
use Rattle.machine.proofs.Histories.{earlier, cut, limits_from, lawful_from}
use Rattle.machine.proofs.ReadyCalls.{wait_below, bound_small}
use Rattle.machine.proofs.StillWaiting.{still_from}

-- an ask that is not refused hits or waits
ask_replies : (z : Sizes) (s : State) (i l : ℕ) (o : Op) (r : Reply) → r ≡ (asking z i l o s).reply → ((e : Refusal) → r ≡ refused e → ⊥)
    → ((w : ℕ) × (r ≡ hit w)) ⊎ (r ≡ waits)
unfolding asking
ask_replies z s i l o r e not_refused = grind arith

pub critical_waits_are_bounded : CriticalWaitsAreBounded
critical_waits_are_bounded b h s f later since before_it core line o r is not_refused critical =
    let g = cut b later (since ++ (event (Ask core line o) r ∷ before_it)) s (subst (λ k. From b k s) is f) in
    let at_ask = earlier b (cut b since (event (Ask core line o) r ∷ before_it) g.0 g.1).1 in
    elim (ask_replies (sizes b) at_ask.state core line o r at_ask.replied not_refused) [
      | inl y ↦ inl y
      | inr y ↦ inr (
        y,
        λ long.
            let f' = subst (λ k. From b (since ++ (event (Ask core line o) k ∷ before_it)) g.0) y g.1 in
            elim (still_from b core line o since before_it g.0 f') [
              | inl served ↦ served
              | inr x ↦
                  absurd (omega (
                    arith,
                    wait_below b f' core critical x.waits,
                    x.count,
                    long,
                    bound_small b (limits_from b f)
                        (lawful_from b f),
                  ))
            ],
      )
    ]
