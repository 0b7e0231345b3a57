-- Every call keeps the lines coherent, and so they are in every state reached.
use Rattle.std.proofs.Common.{◌≡◌, ℕ, zero, suc, ◌<◌, ◌≤◌, Bool, true, false, cond, eqb, ◌≢◌, List, [], length, get_or, Some, None, Option, sym, refl, ap, ◌∙◌, inl, inr, arith}
use Rattle.std.proofs.lemmas.Bool.{eq-eqb, ne_eqb, cases_eq}
use Rattle.machine.specs.declared.call.Call.{Call}
use Rattle.machine.specs.declared.call.Call.TheVariants.{Ask, Slot, Settle, WordOf, StateOf, BoundOf}
use Rattle.machine.specs.declared.held.Held.{Held}
use Rattle.machine.specs.declared.op.Op.{Op}
use Rattle.machine.specs.declared.op.Op.TheVariants.{Read, Write}
use Rattle.machine.specs.declared.op.Role.TheVariants.{Writer}
use Rattle.machine.specs.declared.sizes.Sizes.{Sizes}
use Rattle.machine.specs.Arbitration.{user_of, move_mark}
use Rattle.machine.specs.Asking.{new_request, write_hit, asking}
use Rattle.machine.specs.Grant.{granted_word}
use Rattle.machine.specs.Granting.{is_granted}
use Rattle.machine.specs.History.{Start, sizes, fresh, History, From, begun, called}
use Rattle.machine.specs.Machine.{step}
use Rattle.machine.specs.Order.{order}
use Rattle.machine.specs.Parts.{is_waiting, op_of}
use Rattle.machine.specs.Places.{put}
use Rattle.machine.specs.Questions.{telling_word, telling_state, telling_bound}
use Rattle.machine.specs.Settling.{all_copies, settle_below, settling}
use Rattle.machine.specs.Slot.{end_slot, tried, try_user, used_by, slotting}
use Rattle.machine.specs.State.{State, Outcome, unchanged}
use Rattle.machine.specs.Replies.{refused}
use Rattle.machine.specs.Time.{tick}
use Rattle.machine.proofs.Asks.{ask_all, unless_same}
use Rattle.machine.proofs.Coherence.{nothing, writes, Line, line_stored, line_writer}
use Rattle.machine.proofs.CoherentGrant.{words_last, grant_wish, grant_wish_user, good_grant}
use Rattle.machine.proofs.Counting.{never, put_all}
use Rattle.machine.proofs.Effects.{no_effect, effect}
use Rattle.machine.proofs.Grants.{the_line}
use Rattle.machine.proofs.Shapes.{shape, shapes, wishes, Good, shape_writer, waiting_wish, ticked_wish, good_tick, ordered_wish, good_order}
use Rattle.machine.proofs.Users.{user_waits}
use Rattle.machine.proofs.Wishes.{Wish, wish, next_wish, wish_in, answer, answer_by, after_answer, last_write}
use Rattle.machine.proofs.WriteBack.{write_back_length, write_back_other, write_back_word}

pub record Kept (z : Sizes) (c : Call) (out : Outcome) (ws : ℕ → Wish) (last : ℕ → ℕ) : Type 0 where
  pub good : Good z out.state (λ l. after_answer l (answer_by ws (effect c out.reply)) (last l))
  pub asks : (i : ℕ) → next_wish i (effect c out.reply) (ws i) ≡ wishes out.state i
  pub right : (i l w : ℕ) → answer_by ws (effect c out.reply) ≡ answer i l Read w → w ≡ last l

module _ (z : Sizes) (ws : ℕ → Wish) (last : ℕ → ℕ) where
  -- where a call has no effect and leaves the state
  kept_same : (s : State) (c : Call) (out : Outcome) → effect c out.reply ≡ no_effect → out.state ≡ s → Good z s last
      → ((i : ℕ) → ws i ≡ wishes s i) → Kept z c out ws last
  kept_same s c out none same g e =
      record { good = rw (none, same) g; asks = λ i. rw (none, same) (e i); right = λ i l x a. grind (arith, none) }

  kept_tried : (s : State) (u : ℕ) → Good z s last → is_waiting (s.requests u) ≡ true → ((i : ℕ) → ws i ≡ wishes s i) → (t : Bool)
      → Kept z Slot (tried z t s u) ws last
  unfolding end_slot granted_word
  kept_tried s u g w e false = record { good = g; asks = e; right = λ i l x a. absurd (never cc) }
  kept_tried s u g w e true =
      record {
        good = rw mine (good_grant z s u last g w (granted_word z s u));
        asks = λ i. grind (arith, e i, grant_wish z s u last g w i, grant_wish_user z s u last g w);
        right = λ i l x a. grind (arith, mine, words_last z s u last g w);
      }
    where
      mine : ws u ≡ wish (the_line z s u) (op_of (s.requests u))
      mine = e u ∙ waiting_wish (s.requests u) w

  order_waiting : (s : State) (u : ℕ) → is_waiting (s.requests u) ≡ true → is_waiting ((order z s u).requests u) ≡ true
  unfolding order
  order_waiting s u t = grind arith

  kept_slot : (s : State) → Good z s last → ((i : ℕ) → ws i ≡ wishes s i) → Kept z Slot (slotting z s) ws last
  unfolding slotting try_user move_mark end_slot
  kept_slot s g e = go (user_of z (tick s)) refl
    where
      asks : (i : ℕ) → ws i ≡ wishes (tick s) i
      asks i = e i ∙ sym (ticked_wish s i)

      go : (f : Option ℕ) → user_of z (tick s) ≡ f → Kept z Slot (used_by z f (tick s)) ws last
      go None x = record { good = good_tick z s last g; asks = asks; right = λ i l w a. absurd (never cc) }
      go (Some u) x =
          let s₁ : State = move_mark z (tick s) u in
          let s₂ : State = order z s₁ u in
          kept_tried s₂ u (good_order z s₁ u last (good_tick z s last g)) (order_waiting s₁ u (user_waits z (tick s) u x))
          (λ i. asks i ∙ sym (ordered_wish z s₁ u i)) (is_granted z s₂ u)

  -- a new request
  kept_new : (s : State) (j l : ℕ) (o : Op) → j < z.cores → l < z.lines → (o ≡ Read → shapes s l j ≡ nothing) → Good z s last
      → ((i : ℕ) → ws i ≡ wishes s i)
      → Kept z (Ask j l o) (new_request j l o s) ws last
  kept_new s j l o hj hl no_copy_yet g e =
      record {
        good = record {
          line = g.line;
          absent = λ i k a. grind (arith, no_copy_yet, g.absent i k);
          room = λ i k p a. (grind (arith, g.room i k p), grind (arith, g.room i k p));
          fits = g.fits;
        };
        asks = λ i. grind (arith, e i);
        right = λ i l x a. absurd (never cc);
      }

  -- a write hit
  kept_hit : (s : State) (j l x : ℕ) (old : Held) → j < z.cores → s.copies l j ≡ Some old → old.role ≡ Writer → Good z s last
      → ((i : ℕ) → ws i ≡ wishes s i)
      → Kept z (Ask j l (Write x)) (write_hit j l (record old { word = x }) s) ws last
  kept_hit s j l x old hj was writers g e =
      record {
        good = record {
          line = λ k. put_all (λ m cs. Line z.cores (λ i. shape (cs i)) (get_or s.words m 0) (cond (eqb m l) x (last m))) l
              held s.copies here (λ m ne. rw (ne_eqb m l ne) (g.line m)) k;
          absent = λ i k a. grind (arith, g.absent i k, others i);
          room = g.room;
          fits = g.fits;
        };
        asks = e;
        right = λ i k w a. absurd (never cc);
      }
    where
      held : ℕ → Option Held
      held = put j (Some (record old { word = x })) (s.copies l)

      others : (i : ℕ) → i ≢ j → shape (held i) ≡ nothing
      others i ne = grind (arith, (g.line l).alone j i old.word)

      here : Line z.cores (λ i. shape (held i)) (get_or s.words l 0) (cond (eqb l l) x (last l))
      here = rw (eq-eqb l l refl) (line_writer z.cores _ _ j x hj (grind arith) others)

  -- every copy has the last write's word
  copy_last : (s : State) (j l : ℕ) (copy : Held) → s.copies l j ≡ Some copy → Good z s last → copy.word ≡ last l
  copy_last s j l copy was g = grind (arith, (g.line l).read_word j copy.word, (g.line l).write_word j copy.word)

  kept_ask : (s : State) (j l : ℕ) (o : Op) → Good z s last → ((i : ℕ) → ws i ≡ wishes s i) → Kept z (Ask j l o) (asking z j l o s) ws last
  kept_ask s j l o g e =
      ask_all z j l s (λ o out. Kept z (Ask j l o) out ws last)
      (λ o r. kept_same s (Ask j l o) (unchanged (refused r) s) refl refl g e)
      (λ o hj hl _ none. kept_new s j l o hj hl (λ r. ap shape (none r)) g e)
      (λ copy was. record { good = g; asks = e; right = λ i k x a. grind (arith, copy_last s j l copy was g) })
      (λ w copy hj was writers. kept_hit s j l w copy hj was writers g e) o

  settle_length : (cs : ℕ → ℕ → Option Held) (n : ℕ) (m : List ℕ) → length (settle_below z cs n m) ≡ length m
  settle_length cs zero m = refl
  settle_length cs (suc n) m = grind (arith, write_back_length, settle_length cs n m)

  -- with no writer a line's word stays
  settle_at : (cs : ℕ → ℕ → Option Held) (n : ℕ) (m : List ℕ) (l : ℕ) → n ≤ length m → ((i x : ℕ) → shape (cs l i) ≡ writes x → ⊥)
      → get_or (settle_below z cs n m) l 0 ≡ get_or m l 0
  settle_at cs zero m l h none = refl
  settle_at cs (suc n) m l h none =
      elim (cases_eq l n) [
        | inl same ↦
            let none_here : (i x : ℕ) → shape (cs n i) ≡ writes x → ⊥ = rw same at none in
            rw same (write_back_word all_copies (cs n) n z.cores (settle_below z cs n m) _ (omega (arith, settle_length cs n m))
            (λ k _ _ t. absurd (none_here k _ (shape_writer (cs n k) t))) (λ _. settle_at cs n m n (omega arith) none_here))
        | inr ne ↦ write_back_other all_copies (cs n) n z.cores (settle_below z cs n m) l ne ∙ settle_at cs n m l (omega arith) none
      ]

  kept_step : (s : State) (c : Call) → Good z s last → ((i : ℕ) → ws i ≡ wishes s i) → Kept z c (step z c s) ws last
  unfolding settling telling_word telling_state
  kept_step s (Ask j l o) g e = kept_ask s j l o g e
  kept_step s Slot g e = kept_slot s g e
  kept_step s Settle g e =
      record {
        good = record {
          line = λ l. line_stored _ _ _ _ _ (settle_at s.copies z.lines s.words l g.fits) (g.line l);
          absent = g.absent;
          room = g.room;
          fits = rw (settle_length s.copies z.lines s.words) g.fits;
        };
        asks = e;
        right = λ i l x a. absurd (never cc);
      }
  kept_step s (WordOf l) g e = kept_same s (WordOf l) (telling_word z l s) refl (unless_same _ _ s) g e
  kept_step s (StateOf j l) g e = kept_same s (StateOf j l) (telling_state z j l s) refl (unless_same _ _ s) g e
  kept_step s BoundOf g e = kept_same s BoundOf (telling_bound z s) refl refl g e

-- what a history tells of requests and words is what the state has
pub record Story (b : Start) (h : History) (s : State) : Type 0 where
  pub good : Good (sizes b) s (last_write b h)
  pub asks : (i : ℕ) → wish_in h i ≡ wishes s i

fresh_good : (b : Start) → Good (sizes b) (fresh b) (last_write b [])
fresh_good b =
    record {
      line = λ l. record {
        alone = λ i j x e ne. refl;
        inside = λ i h. refl;
        read_word = λ i x e. absurd (never cc);
        write_word = λ i x e. absurd (never cc);
        home = λ f. refl;
      };
      absent = λ i l e. refl;
      room = λ i l o e. absurd (never cc);
      fits = omega arith;
    }

pub kept_from : (b : Start) {h : History} {s : State} (c : Call) → Story b h s
    → Kept (sizes b) c (step (sizes b) c s) (wish_in h) (last_write b h)
kept_from b {h} {s} c y = kept_step (sizes b) (wish_in h) (last_write b h) s c y.good y.asks

pub story : (b : Start) {h : History} {s : State} → From b h s → Story b h s
story b (begun k f) = record { good = fresh_good b; asks = λ i. refl }
story b (called {h = h} {s = s} c f) = let k = kept_from b c (story b f) in record { good = k.good; asks = k.asks }
