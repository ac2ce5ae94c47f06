-- A value that is put into a slot, and the runs then.
use Rattle.std.proofs.Common.{◌≡◌, ℕ, suc, ◌<◌, ◌≤◌, ◌^◌, Bool, true, false, cond, arith, refl, sym, ap, ◌∙◌, ◌⊎◌, inl, inr, List, [], ◌∷◌, Option, Some, None, IsSome, is_some, eqb}
use Rattle.std.proofs.lemmas.Bool.{false≢true, eqb-true, eq-eqb, ne_eqb, cases_eq}
use Rattle.std.specs.List.{list_any}
use Rattle.std.specs.Option.{option_flatten}
use Rattle.position_map.specs.declared.slot.Slot.{Slot as KeptSlot}
use Rattle.position_map.specs.Slots.{Slot, filled, value_at, HasSlot, Rise, IsRunEnd}
use Rattle.position_map.specs.Ends.{shown, end_at, first_of, last_of, KnowsEnds, Joins, IsFilled, IsKept}
use Rattle.position_map.proofs.Filling.{value_filled}
use Rattle.position_map.proofs.Keeping.{none_there}
use Rattle.position_map.proofs.Runs.{IsPut, IsBetween, run_of, between_of, joined}

-- slots are above what they rise from
pub slot_above : {A : Type 0} (p k : ℕ) (es : List (ℕ × A)) → Rise p es → IsSome (value_at k es) → p < k
slot_above p k [] h s = absurd (false≢true s)
slot_above p k (e ∷ es) h s = by_test (slot_above e.0 k es h.1) (eqb k e.0) refl s
  where
    by_test : (IsSome (value_at k es) → e.0 < k) → (b : Bool) → eqb k e.0 ≡ b → IsSome (cond b (Some e.1) (value_at k es)) → p < k
    by_test rest true i t = let l = h.0 in let f = eqb-true k e.0 i in omega arith
    by_test rest false i t = let l = h.0 in let m = rest t in omega arith

-- where there is a value there is a slot
slot_of : {V : Type 0} (q : ℕ) (ss : List (Slot V)) → Rise 0 ss → IsSome (value_at q (filled ss)) → HasSlot q ss
slot_of {V} q ss h s = by_case (value_at q ss) (rw (value_filled 0 q ss h) at s)
  where
    by_case : (o : Option (Option V)) → IsSome (option_flatten o) → IsSome o
    by_case None i = absurd (false≢true i)
    by_case (Some o) i = refl

-- A value that is put into a slot is put at its position.
pub put_of : {V : Type 0} (k : ℕ) (v : V) (es fs : List (ℕ × KeptSlot V)) → Rise 0 (shown es) → IsFilled k v es fs → IsPut k v (filled (shown es)) (filled (shown fs))
put_of {V} k v es fs r h = record {
  at = λ q. value_filled 0 q (shown fs) h.rise ∙ ap option_flatten (h.at q) ∙ by_test q (eqb q k);
}
  where
    by_test : (q : ℕ) (b : Bool) → option_flatten (cond b (Some (Some v)) (value_at q (shown es))) ≡ cond b (Some v) (value_at q (filled (shown es)))
    by_test q true = refl
    by_test q false = sym (value_filled 0 q (shown es) r)

-- the ends of the run that an empty slot joins
between : {V : Type 0} (k : ℕ) (v : V) (rooms : List ℕ) (es fs : List (ℕ × KeptSlot V)) → IsKept rooms es → IsFilled k v es fs → 1 ≤ k → value_at k (shown es) ≡ Some None → (d : ℕ) × (first_of (filled (shown fs)) (λ q. end_at q fs) k ≡ suc d) × IsBetween (filled (shown es)) k d (last_of (filled (shown fs)) (λ q. end_at q fs) k)
between k v rooms es fs h i l n = between_of k v (filled (shown es)) (filled (shown fs)) (λ q. end_at q es) (λ q. end_at q fs) l h.ends (value_filled 0 k (shown es) h.rise ∙ ap option_flatten n) (put_of k v es fs h.rise i) i.ends

-- The ends of that run have slots.
pub ends_there : {V : Type 0} (k : ℕ) (v : V) (rooms : List ℕ) (es fs : List (ℕ × KeptSlot V)) → IsKept rooms es → IsFilled k v es fs → 1 ≤ k → value_at k (shown es) ≡ Some None → HasSlot (first_of (filled (shown fs)) (λ q. end_at q fs) k) (shown fs) × HasSlot (last_of (filled (shown fs)) (λ q. end_at q fs) k) (shown fs)
ends_there k v rooms es fs h i l n =
    let b = between k v rooms es fs h i l n in
    let above = b.2.least in
    let most = b.2.most in
    let run = run_of k b.0 (last_of (filled (shown fs)) (λ q. end_at q fs) k) v (filled (shown es)) (filled (shown fs)) b.2 (put_of k v es fs h.rise i) in
    (rw b.1 (slot_of (suc b.0) (shown fs) i.rise (run.each (suc b.0) (omega arith) (omega arith))), slot_of (last_of (filled (shown fs)) (λ q. end_at q fs) k) (shown fs) i.rise (run.each _ (omega arith) (omega arith)))

-- no position above all has a value, and no room is filled
fits_filled : {V : Type 0} (k q : ℕ) (v : V) (rooms : List ℕ) (es fs : List (ℕ × KeptSlot V)) → IsKept rooms es → IsFilled k v es fs → k < 2 ^ 32 → 2 ^ 32 ≤ q → value_at q (shown fs) ≡ None
fits_filled k q v rooms es fs h i l m = i.at q ∙ rw (ne_eqb q k (λ e. omega arith)) (h.fits q m)

among_filled : {V : Type 0} (k q : ℕ) (v : V) (rooms : List ℕ) (es fs : List (ℕ × KeptSlot V)) → IsKept rooms es → IsFilled k v es fs → value_at q (shown fs) ≡ Some None → list_any (λ r. eqb q r) rooms ≡ true
among_filled {V} k q v rooms es fs h i n = by_test (eqb q k) (sym (i.at q) ∙ n)
  where
    by_test : (b : Bool) → cond b (Some (Some v)) (value_at q (shown es)) ≡ Some None → list_any (λ r. eqb q r) rooms ≡ true
    by_test true e = absurd (false≢true (sym (ap (λ (o : Option (Option V)). is_some (option_flatten o)) e)))
    by_test false e = h.among q e

-- Once the ends know each other, what held of the map holds.
pub kept_joined : {V : Type 0} (k : ℕ) (v : V) (rooms : List ℕ) (es fs gs : List (ℕ × KeptSlot V)) → IsKept rooms es → IsFilled k v es fs → 1 ≤ k → k < 2 ^ 32 → value_at k (shown es) ≡ Some None → shown gs ≡ shown fs → Joins (first_of (filled (shown fs)) (λ q. end_at q fs) k) (last_of (filled (shown fs)) (λ q. end_at q fs) k) (λ q. end_at q fs) (λ q. end_at q gs) → IsKept rooms gs
kept_joined k v rooms es fs gs h i l m n same j =
    let b = between k v rooms es fs h i l n in
    record {
      rise = rw same i.rise;
      fits = λ q a. ap (λ ss. value_at q ss) same ∙ fits_filled k q v rooms es fs h i m a;
      among = λ q e. among_filled k q v rooms es fs h i (sym (ap (λ ss. value_at q ss) same) ∙ e);
      ends = rw same (joined k b.0 (last_of (filled (shown fs)) (λ q. end_at q fs) k) v (filled (shown es)) (filled (shown fs)) (λ q. end_at q es) (λ q. end_at q fs) (λ q. end_at q gs) h.ends (put_of k v es fs h.rise i) b.2 i.ends (rw b.1 at j));
    }

-- what has values at the same positions has the same runs
pub knows_same : {V : Type 0} (es fs : List (ℕ × V)) (end mid : ℕ → ℕ) → ((q : ℕ) → is_some (value_at q fs) ≡ is_some (value_at q es)) → ((q : ℕ) → mid q ≡ end q) → KnowsEnds es end → KnowsEnds fs mid
knows_same {V} es fs end mid h m k = record {
  first = λ p n s. rw (m (suc p)) (run p (end (suc p)) (k.first p (none p n) (sym (h (suc p)) ∙ s)));
  last = λ q s n. let r = k.last q (sym (h q) ∙ s) (none (suc q) n) in (r.0, m q ∙ r.1, none_there _ (h r.0 ∙ ap is_some r.2), run r.0 q r.3);
}
  where
    none : (q : ℕ) → value_at q fs ≡ None → value_at q es ≡ None
    none q n = none_there _ (sym (h q) ∙ ap is_some n)

    run : (p e : ℕ) → IsRunEnd es p e → IsRunEnd fs p e
    run p e r = record {
      least = r.least;
      each = λ q a b. h q ∙ r.each q a b;
      longest = none_there _ (h (suc e) ∙ ap is_some r.longest);
    }

-- What held of the map holds where a value stands in place of another.
pub kept_over : {V : Type 0} (k : ℕ) (v : V) (rooms : List ℕ) (es fs : List (ℕ × KeptSlot V)) → IsKept rooms es → IsFilled k v es fs → k < 2 ^ 32 → HasSlot k (shown es) → (value_at k (shown es) ≡ Some None → ⊥) → IsKept rooms fs
kept_over {V} k v rooms es fs h i m s n = record {
  rise = i.rise;
  fits = λ q a. fits_filled k q v rooms es fs h i m a;
  among = λ q e. among_filled k q v rooms es fs h i e;
  ends = knows_same (filled (shown es)) (filled (shown fs)) (λ q. end_at q es) (λ q. end_at q fs) (λ q. ap is_some ((put_of k v es fs h.rise i).at q) ∙ by_test q (cases_eq q k)) i.ends h.ends;
}
  where
    there : (o : Option (Option V)) → value_at k (shown es) ≡ o → IsSome o → IsSome (option_flatten o)
    there None e t = absurd (false≢true t)
    there (Some None) e t = absurd (n e)
    there (Some (Some u)) e t = refl

    by_test : (q : ℕ) → (q ≡ k) ⊎ (q ≡ k → ⊥) → is_some (cond (eqb q k) (Some v) (value_at q (filled (shown es)))) ≡ is_some (value_at q (filled (shown es)))
    by_test q (inl e) = rw (e, eq-eqb k k refl, value_filled 0 k (shown es) h.rise) (sym (there (value_at k (shown es)) refl s))
    by_test q (inr f) = rw (ne_eqb q k f) refl
