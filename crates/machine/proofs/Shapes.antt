-- The state without timers, which the steps of a slot leave as it is until a grant.
use Rattle.std.proofs.Common.{eqb-true, ◌≡◌, ℕ, true, length, get_or, sym, refl, ap, ◌∙◌, Some, None, Option, arith}
use Rattle.machine.specs.declared.held.Held.{Held}
use Rattle.machine.specs.declared.op.Role.{Role}
use Rattle.machine.specs.declared.op.Role.TheVariants.{Reader, Writer}
use Rattle.machine.specs.declared.request.Request.{Request}
use Rattle.machine.specs.declared.request.Request.TheVariants.{Free, Asked, Ordered}
use Rattle.machine.specs.declared.sizes.Sizes.{Sizes}
use Rattle.machine.specs.Order.{order}
use Rattle.machine.specs.Parts.{is_writers, word_in, is_waiting, line_of, op_of}
use Rattle.machine.specs.State.{State}
use Rattle.machine.specs.Time.{tick}
use Rattle.machine.proofs.Coherence.{Shape, nothing, reads, writes, line_same, Coherent}
use Rattle.machine.proofs.Wishes.{Wish, no_wish, wish}

abbrev pub shape_of : Role → ℕ → Shape ℕ
shape_of Reader w = reads w
shape_of Writer w = writes w

abbrev pub shape : Option Held → Shape ℕ
shape None = nothing
shape (Some copy) = shape_of copy.role copy.word

abbrev pub wish_of : Request → Wish
wish_of Free = no_wish
wish_of (Asked l o w) = wish l o
wish_of (Ordered l o a w) = wish l o

abbrev pub shapes : State → ℕ → ℕ → Shape ℕ
shapes s l i = shape (s.copies l i)

abbrev pub wishes : State → ℕ → Wish
wishes s i = wish_of (s.requests i)

abbrev pub Good : Sizes → State → (ℕ → ℕ) → Type 0
Good z s last = Coherent z.cores z.lines (length s.words) (shapes s) (λ l. get_or s.words l 0) (wishes s) last

pub shape_writer : (x : Option Held) → is_writers x ≡ true → shape x ≡ writes (word_in x)
shape_writer x e = grind arith

pub writer_shape : (x : Option Held) (w : ℕ) → shape x ≡ writes w → is_writers x ≡ true
writer_shape x w e = grind arith

pub waiting_wish : (r : Request) → is_waiting r ≡ true → wish_of r ≡ wish (line_of r) (op_of r)
waiting_wish r e = grind arith

-- the same, place by place
pub good_same : (z : Sizes) (s s' : State) (last : ℕ → ℕ) → ((l i : ℕ) → shapes s' l i ≡ shapes s l i) → s'.words ≡ s.words
    → ((i : ℕ) → wishes s' i ≡ wishes s i) → Good z s last → Good z s' last
good_same z s s' last x m w g =
    record {
      line = λ l. line_same _ _ _ _ _ _ _ (x l) (ap (λ k. get_or k l 0) m) refl (g.line l);
      absent = λ i l e. x l i ∙ g.absent i l (sym (w i) ∙ e);
      room = λ i l o e. g.room i l o (sym (w i) ∙ e);
      fits = rw m g.fits;
    }

pub ticked_wish : (s : State) (i : ℕ) → wishes (tick s) i ≡ wishes s i
unfolding tick
ticked_wish s i = grind arith

pub good_tick : (z : Sizes) (s : State) (last : ℕ → ℕ) → Good z s last → Good z (tick s) last
unfolding tick
good_tick z s last g = good_same z s (tick s) last (λ l i. grind arith) refl (ticked_wish s) g

pub ordered_wish : (z : Sizes) (s : State) (u i : ℕ) → wishes (order z s u) i ≡ wishes s i
unfolding order
ordered_wish z s u i = grind (arith, eqb-true)

pub good_order : (z : Sizes) (s : State) (u : ℕ) (last : ℕ → ℕ) → Good z s last → Good z (order z s u) last
unfolding order
good_order z s u last g = good_same z s (order z s u) last (λ l i. refl) refl (ordered_wish z s u) g
