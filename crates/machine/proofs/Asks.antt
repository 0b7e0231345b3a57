-- What an ask that is not refused says of its numbers, how it is accepted, and what questions leave.
use Rattle.std.proofs.Common.{◌≡◌, ℕ, ◌<◌, false, Some, None, Option, refl, cond, arith}
use Rattle.std.proofs.lemmas.Bool.Decides.{nat_tests}
use Rattle.setup.specs.declared.refusal.Refusal.{Refusal}
use Rattle.machine.specs.declared.held.Held.{Held}
use Rattle.machine.specs.declared.op.Op.{Op}
use Rattle.machine.specs.declared.op.Op.TheVariants.{Read, Write}
use Rattle.machine.specs.declared.op.Role.{Role}
use Rattle.machine.specs.declared.op.Role.TheVariants.{Reader, Writer}
use Rattle.machine.specs.declared.sizes.Sizes.{Sizes}
use Rattle.machine.specs.Asking.{unless, ask_refusal, new_request, write_hit, accepted, asking}
use Rattle.machine.specs.Parts.{serves_writes, is_waiting}
use Rattle.machine.specs.Replies.{Reply, refused, hit}
use Rattle.machine.specs.State.{State, Outcome, unchanged}
use Rattle.machine.proofs.Counting.{never}

ask_accepted : (z : Sizes) (i l : ℕ) (s : State) → ask_refusal z i l s ≡ None
    → (i < z.cores) × (l < z.lines) × (is_waiting (s.requests i) ≡ false)
ask_accepted z i l s e = (grind (arith, nat_tests), grind (arith, nat_tests), grind arith)

-- what holds of each way in which an ask is answered
pub ask_all : (z : Sizes) (i l : ℕ) (s : State) (P : Op → Outcome → Type 0)
    → ((o : Op) (e : Refusal) → P o (unchanged (refused e) s))
    → ((o : Op) → i < z.cores → l < z.lines → is_waiting (s.requests i) ≡ false → (o ≡ Read → s.copies l i ≡ None) → P o (new_request i l o s))
    → ((copy : Held) → s.copies l i ≡ Some copy → P Read (unchanged (hit copy.word) s))
    → ((w : ℕ) (copy : Held) → i < z.cores → s.copies l i ≡ Some copy → copy.role ≡ Writer → P (Write w) (write_hit i l (record copy { word = w }) s))
    → (o : Op) → P o (asking z i l o s)
unfolding asking
ask_all z i l s P refuse new read write o = go o (ask_refusal z i l s) refl (s.copies l i) refl
  where
    go : (o : Op) (v : Option Refusal) → ask_refusal z i l s ≡ v → (x : Option Held) → s.copies l i ≡ x → P o (unless v (accepted i l o x s) s)
    go o (Some e) a x b = refuse o e
    go o None a None b = let f = ask_accepted z i l s a in new o f.0 f.1 f.2 (λ _. b)
    go Read None a (Some copy) b = read copy b
    go (Write w) None a (Some copy) b = at copy.role refl
      where
        at : (r : Role) → copy.role ≡ r → P (Write w) (cond (serves_writes r) (write_hit i l (record copy { word = w }) s) (new_request i l (Write w) s))
        at Reader e = let f = ask_accepted z i l s a in new (Write w) f.0 f.1 f.2 (λ x. absurd (never cc))
        at Writer e = write w copy (ask_accepted z i l s a).0 b e

pub unless_same : (v : Option Refusal) (r : Reply) (s : State) → (unless v (unchanged r s) s).state ≡ s
unless_same None r s = refl
unless_same (Some e) r s = refl
