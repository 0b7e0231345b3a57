-- A grant keeps the lines coherent.
use Rattle.std.proofs.Common.{◌≡◌, ℕ, ◌<◌, true, ◌≢◌, get_or, refl, ap, inl, inr, arith}
use Rattle.std.proofs.lemmas.Bool.{eq-eqb, cases_eq}
use Rattle.machine.specs.declared.op.Op.{Op}
use Rattle.machine.specs.declared.op.Op.TheVariants.{Read, Write}
use Rattle.machine.specs.declared.sizes.Sizes.{Sizes}
use Rattle.machine.specs.Grant.{words_after, granted_word, grant}
use Rattle.machine.specs.Parts.{is_writers, is_waiting, op_of}
use Rattle.machine.specs.State.{State}
use Rattle.machine.proofs.Coherence.{writes, Line, line_same, line_writer, line_reader}
use Rattle.machine.proofs.Grants.{the_line, the_way, grant_there, grant_new, grant_rest, grant_user, grant_others}
use Rattle.machine.proofs.Shapes.{shape, wish_of, shapes, wishes, Good, shape_writer, writer_shape, waiting_wish}
use Rattle.machine.proofs.Wishes.{no_wish, wish, answer, after_answer}
use Rattle.machine.proofs.WriteBack.{write_back_length, write_back_other, write_back_word}

module _ (z : Sizes) (s : State) (u : ℕ) (last : ℕ → ℕ) (g : Good z s last) (t : is_waiting (s.requests u) ≡ true) where
  its_wish : wishes s u ≡ wish (the_line z s u) (op_of (s.requests u))
  its_wish = waiting_wish (s.requests u) t

  -- a read is granted the last write's word, which then is the memory's
  pub words_last : op_of (s.requests u) ≡ Read → get_or (words_after z s u) (the_line z s u) 0 ≡ last (the_line z s u)
  unfolding words_after
  words_last e =
      write_back_word (the_way z s u) (s.copies l) l z.cores s.words (last l) (omega (arith, (g.room u l _ its_wish).1, g.fits))
      (λ k _ _ t. here.write_word k _ (shape_writer (s.copies l k) t)) (λ none. here.home (λ i x w. no_writes none i x w))
    where
      l : ℕ
      l = the_line z s u

      here : Line z.cores (shapes s l) (get_or s.words l 0) (last l)
      here = g.line l

      no_writes : ((k : ℕ) → k < z.cores → the_way z s u k (s.copies l k) ≡ true → is_writers (s.copies l k) ≡ true → ⊥) → (i x : ℕ)
          → shapes s l i ≡ writes x → ⊥
      no_writes none i x w = grind (arith, none i, here.inside i, g.absent u l, its_wish, writer_shape (s.copies l i) x, e)

  words_other : (l : ℕ) → l ≢ the_line z s u → get_or (words_after z s u) l 0 ≡ get_or s.words l 0
  unfolding words_after
  words_other l ne = write_back_other (the_way z s u) (s.copies (the_line z s u)) (the_line z s u) z.cores s.words l ne

  pub grant_wish : (i : ℕ) → i ≢ u → wishes (grant z s u) i ≡ wishes s i
  grant_wish i ne = grind (arith, grant_others z s u i ne)

  pub grant_wish_user : wishes (grant z s u) u ≡ no_wish
  grant_wish_user = ap wish_of (grant_user z s u)

  -- whose wish it is
  grant_wish_from : (i l : ℕ) (o : Op) → wishes (grant z s u) i ≡ wish l o → (i ≢ u) × (wishes s i ≡ wish l o)
  grant_wish_from i l o e = grind (arith, grant_wish, grant_wish_user)

  -- the user's line
  grant_line : (w l : ℕ) (o : Op) → op_of (s.requests u) ≡ o → l ≡ the_line z s u
      → Line z.cores (shapes (grant z s u) l) (get_or (words_after z s u) l 0) (after_answer l (answer u (the_line z s u) o w) (last l))
  unfolding granted_word
  grant_line w l Read e same =
      line_reader z.cores (shapes s l) _ _ _ _ u (g.room u _ _ its_wish).0 (grind (arith, grant_new z s u, words_last e))
      (λ i ne. grind (arith, grant_rest z s u i ne, e)) (rw same (words_last e)) (g.line l)
  grant_line w l (Write x) e same =
      rw (eq-eqb l (the_line z s u) same)
      (line_writer z.cores _ _ u x (g.room u _ _ its_wish).0 (grind (arith, grant_new z s u, e))
      (λ i ne. grind (arith, grant_rest z s u i ne, e)))

  grant_lines : (w l : ℕ) → Line z.cores (shapes (grant z s u) l) (get_or (words_after z s u) l 0)
      (after_answer l (answer u (the_line z s u) (op_of (s.requests u)) w) (last l))
  grant_lines w l =
      elim (cases_eq l (the_line z s u)) [
        | inl same ↦ grant_line w l _ refl same
        | inr ne ↦ line_same _ _ _ _ _ _ _ (λ i. ap shape (grant_there z s u l i ne)) (words_other l ne)
            (grind arith) (g.line l)
      ]

  pub good_grant : (w : ℕ) → Good z (grant z s u) (λ l. after_answer l (answer u (the_line z s u) (op_of (s.requests u)) w) (last l))
  unfolding grant words_after
  good_grant w =
      record {
        line = grant_lines w;
        absent = λ i l e. grind (arith, grant_wish_from i l Read, g.absent i l, grant_rest z s u i, grant_there z s u l i);
        room = λ i l o e. g.room i l o (grant_wish_from i l o e).1;
        fits = rw (write_back_length (the_way z s u) (s.copies (the_line z s u)) (the_line z s u) z.cores s.words) g.fits;
      }
