-- What a wire said came, by one call or by several.
use Rattle.std.proofs.Common.{◌≡◌, ℕ, ◌+◌, arith, List, [], ◌++◌, length, refl, sym, subst, append-nil, append_assoc, length-append, Option}
use Rattle.std.specs.Prelude.{Result}
use Rattle.wires.specs.Wires.{Carried, HasSaid, carried_in, failures_in, vain_in}
use Rattle.wires.specs.declared.wire.Arrival.{Arrival}
use Rattle.wires.specs.declared.wire.Unheard.{Unheard}

none_more : (n : ℕ) → 0 + n ≡ n
none_more n = omega arith

module _ {D W : Type 0} (has_brought : W → List (Carried D) → Type 0) (has_waited : W → ℕ → ℕ → Type 0) where
  -- waited for no more often
  waits_still : (w : W) (i f : ℕ) → has_waited w i f → has_waited w (0 + i) (0 + f)
  waits_still w i f h = subst (λ k. has_waited w k (0 + f)) (sym (none_more i)) (subst (λ k. has_waited w i k) (sym (none_more f)) h)

  pub said_none : (v : W) → HasSaid has_brought has_waited v v 0 0
  said_none v = record {
    brought = [];
    vain = 0;
    all = refl;
    brings = λ ds h. subst (λ l. has_brought v l) (sym (append-nil ds)) h;
    waits = λ i f h. waits_still v i f h;
  }

  -- the wire brought nothing, and was not waited for
  pub said_still : (v w : W) → ((ds : List (Carried D)) → has_brought v ds → has_brought w ds) → ((i f : ℕ) → has_waited v i f → has_waited w i f) → HasSaid has_brought has_waited v w 0 0
  said_still v w brings waits = record {
    brought = [];
    vain = 0;
    all = refl;
    brings = λ ds h. subst (λ l. has_brought w l) (sym (append-nil ds)) (brings ds h);
    waits = λ i f h. waits_still w i f (waits i f h);
  }

  -- first so much, and then so much more
  pub said_both : (v w u : W) (n m e f : ℕ) → HasSaid has_brought has_waited v w n e → HasSaid has_brought has_waited w u m f → HasSaid has_brought has_waited v u (n + m) (e + f)
  said_both v w u n m e f one two = record {
    brought = one.brought ++ two.brought;
    vain = one.vain + two.vain;
    all = let len = length-append one.brought two.brought in let first = one.all in let second = two.all in omega (arith, len, first, second);
    brings = λ ds h. subst (λ l. has_brought u l) (append_assoc ds one.brought two.brought) (two.brings (ds ++ one.brought) (one.brings ds h));
    waits = λ i g h. subst (λ k. has_waited u k ((e + f) + g)) (swapped two.vain one.vain i) (subst (λ k. has_waited u (two.vain + (one.vain + i)) k) (swapped f e g) (two.waits (one.vain + i) (e + g) (one.waits i g h)));
  }
    where
      swapped : (b a i : ℕ) → b + (a + i) ≡ (a + b) + i
      swapped b a i = omega arith

  -- the wire was asked for what waits already
  pub said_waiting : (v w : W) (r : Result (Option (Arrival D)) Unheard) (buffer : List ℕ) (bs : List (Carried D)) → carried_in r buffer ≡ bs
      → ((ds : List (Carried D)) → has_brought v ds → has_brought w (ds ++ carried_in r buffer)) → ((i f : ℕ) → has_waited v i f → has_waited w i f) → HasSaid has_brought has_waited v w (length bs) 0
  said_waiting v w r buffer bs is brings waits = record {
    brought = bs;
    vain = 0;
    all = none_more (length bs);
    brings = λ ds h. subst (λ l. has_brought w (ds ++ l)) is (brings ds h);
    waits = λ i f h. waits_still w i f (waits i f h);
  }

  -- it was waited for
  pub said_by : (v w : W) (r q : Result (Option (Arrival D)) Unheard) (buffer : List ℕ) → r ≡ q
      → ((ds : List (Carried D)) → has_brought v ds → has_brought w (ds ++ carried_in r buffer)) → ((i f : ℕ) → has_waited v i f → has_waited w (vain_in r + i) (failures_in r + f))
      → HasSaid has_brought has_waited v w (vain_in q + length (carried_in q buffer)) (failures_in q)
  said_by v w r q buffer is brings waits = subst (λ p. HasSaid has_brought has_waited v w (vain_in p + length (carried_in p buffer)) (failures_in p)) is (record {
    brought = carried_in r buffer;
    vain = vain_in r;
    all = refl;
    brings = brings;
    waits = waits;
  })

  -- and then it brought nothing, and was not waited for
  pub said_further : (v w u : W) (n f : ℕ) → HasSaid has_brought has_waited v w n f → ((ds : List (Carried D)) → has_brought w ds → has_brought u ds) → ((i g : ℕ) → has_waited w i g → has_waited u i g) → HasSaid has_brought has_waited v u n f
  said_further v w u n f said brings waits = record {
    brought = said.brought;
    vain = said.vain;
    all = said.all;
    brings = λ ds h. brings (ds ++ said.brought) (said.brings ds h);
    waits = λ i g h. waits (said.vain + i) (f + g) (said.waits i g h);
  }
