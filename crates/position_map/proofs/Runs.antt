-- Runs of positions that all have values, and how one more value joins them.
use Rattle.std.proofs.Common.{◌≡◌, ℕ, suc, ◌-◌, ◌<◌, ◌≤◌, cond, arith, refl, sym, ap, ◌∙◌, ◌⊎◌, inl, inr, List, Option, Some, None, IsSome, is_some, eqb}
use Rattle.std.proofs.lemmas.Bool.{false≢true, eq-eqb, ne_eqb, cases_eq, cases_lt}
use Rattle.std.specs.Option.{unwrap_or}
use Rattle.position_map.specs.Slots.{value_at, IsRunEnd}
use Rattle.position_map.specs.Ends.{KnowsEnds, end_known, first_of, last_of, Joins}

-- nothing is not something
pub clash : {A B : Type 0} (o : Option A) → o ≡ None → IsSome o → B
clash o n s = absurd (false≢true (sym (ap is_some n) ∙ s))

-- fs are the values es with v put at p
pub record IsPut {V : Type 0} (p : ℕ) (v : V) (es fs : List (ℕ × V)) : Type 0 where
  pub at : (q : ℕ) → value_at q fs ≡ cond (eqb q p) (Some v) (value_at q es)

-- there is a value where it was put
put_here : {V : Type 0} (p q : ℕ) (v : V) (es fs : List (ℕ × V)) → IsPut p v es fs → q ≡ p → IsSome (value_at q fs)
put_here p q v es fs h e = rw (h.at q, eq-eqb q p e) refl

-- the others stay
put_other : {V : Type 0} (p q : ℕ) (v : V) (es fs : List (ℕ × V)) → IsPut p v es fs → (q ≡ p → ⊥) → value_at q fs ≡ value_at q es
put_other p q v es fs h n = h.at q ∙ rw (ne_eqb q p n) refl

-- what had a value has one
put_some : {V : Type 0} (p q : ℕ) (v : V) (es fs : List (ℕ × V)) → IsPut p v es fs → IsSome (value_at q es) → IsSome (value_at q fs)
put_some p q v es fs h s = by_test (cases_eq q p)
  where
    by_test : (q ≡ p) ⊎ (q ≡ p → ⊥) → IsSome (value_at q fs)
    by_test (inl e) = put_here p q v es fs h e
    by_test (inr n) = rw (put_other p q v es fs h n) s

-- what has none is another, and had none
put_none : {V : Type 0} (p q : ℕ) (v : V) (es fs : List (ℕ × V)) → IsPut p v es fs → value_at q fs ≡ None → (q ≡ p → ⊥) × (value_at q es ≡ None)
put_none p q v es fs h n =
    let other : q ≡ p → ⊥ = λ e. clash (value_at q fs) n (put_here p q v es fs h e) in
    (other, sym (put_other p q v es fs h other) ∙ n)

-- the values next to p, up to the ends of its run: none at d, all from there up to p, all from there up to `last`, none after it
pub record IsBetween {V : Type 0} (es : List (ℕ × V)) (p d last : ℕ) : Type 0 where
  pub none : value_at d es ≡ None
  pub least : d < p
  pub left : (q : ℕ) → d < q → q < p → IsSome (value_at q es)
  pub most : p ≤ last
  pub right : (q : ℕ) → p < q → q ≤ last → IsSome (value_at q es)
  pub longest : value_at (suc last) es ≡ None

-- the run of which p is then made
pub run_of : {V : Type 0} (p d last : ℕ) (v : V) (es fs : List (ℕ × V)) → IsBetween es p d last → IsPut p v es fs → IsRunEnd fs d last
run_of p d last v es fs b h = record {
  least = omega arith;
  each = λ q l m. by_test q l m (cases_eq q p);
  longest = put_other p (suc last) v es fs h (λ e. omega arith) ∙ b.longest;
}
  where
    other : (q : ℕ) → d < q → q ≤ last → (q ≡ p → ⊥) → (q < p) ⊎ (p ≤ q) → IsSome (value_at q fs)
    other q l m n (inl k) = put_some p q v es fs h (b.left q l k)
    other q l m n (inr k) = put_some p q v es fs h (b.right q (by_order (cases_lt p q)) m)
      where
        by_order : (p < q) ⊎ (q ≤ p) → p < q
        by_order (inl k') = k'
        by_order (inr k') = absurd (n (omega arith))

    by_test : (q : ℕ) → d < q → q ≤ last → (q ≡ p) ⊎ (q ≡ p → ⊥) → IsSome (value_at q fs)
    by_test q l m (inl e) = put_here p q v es fs h e
    by_test q l m (inr n) = other q l m n (cases_lt q p)

-- where the run that ends before p begins
left_of : {V : Type 0} (es : List (ℕ × V)) (end : ℕ → ℕ) (p : ℕ) → 1 ≤ p → KnowsEnds es end → value_at p es ≡ None → (d : ℕ) × (first_of es end p ≡ suc d) × (value_at d es ≡ None) × (d < p) × ((q : ℕ) → d < q → q < p → IsSome (value_at q es))
left_of {V} es end p l k n = by_test (value_at (p - 1) es) refl
  where
    above : suc (p - 1) ≡ p
    above = omega arith

    by_test : (o : Option V) → value_at (p - 1) es ≡ o → (d : ℕ) × (unwrap_or (cond (is_some o) (Some (end (p - 1))) None) p ≡ suc d) × (value_at d es ≡ None) × (d < p) × ((q : ℕ) → d < q → q < p → IsSome (value_at q es))
    by_test None e = (p - 1, sym above, e, omega arith, λ q g m. absurd (omega arith))
    by_test (Some v) e =
        let r = k.last (p - 1) (ap is_some e) (ap (λ q. value_at q es) above ∙ n) in
        let m : r.0 ≤ p - 1 = r.3.least in
        (r.0, r.1, r.2, omega arith, λ q g i. r.3.each q g (omega arith))

-- where the run that begins after p ends
right_of : {V : Type 0} (es : List (ℕ × V)) (end : ℕ → ℕ) (p : ℕ) → KnowsEnds es end → value_at p es ≡ None → IsRunEnd es p (last_of es end p)
right_of {V} es end p k n = by_test (value_at (suc p) es) refl
  where
    by_test : (o : Option V) → value_at (suc p) es ≡ o → IsRunEnd es p (unwrap_or (cond (is_some o) (Some (end (suc p))) None) p)
    by_test None e = record { least = omega arith; each = λ q g m. absurd (omega arith); longest = e }
    by_test (Some v) e = k.first p n (ap is_some e)

-- the ends of the runs next to p, as they are known once v is put there
pub between_of : {V : Type 0} (p : ℕ) (v : V) (es fs : List (ℕ × V)) (end mid : ℕ → ℕ) → 1 ≤ p → KnowsEnds es end → value_at p es ≡ None → IsPut p v es fs → ((q : ℕ) → mid q ≡ end q) → (d : ℕ) × (first_of fs mid p ≡ suc d) × IsBetween es p d (last_of fs mid p)
between_of {V} p v es fs end mid l k n h m =
    let a = left_of es end p l k n in
    let b = right_of es end p k n in
    (a.0, first ∙ a.1, rw last (record { none = a.2; least = a.3; left = a.4; most = b.least; right = b.each; longest = b.longest }))
  where
    known : (q : ℕ) → (q ≡ p → ⊥) → end_known fs mid q ≡ end_known es end q
    known q i = rw (put_other p q v es fs h i, m q) refl

    first : first_of fs mid p ≡ first_of es end p
    first = ap (λ o. unwrap_or o p) (known (p - 1) (λ e. omega arith))

    last : last_of fs mid p ≡ last_of es end p
    last = ap (λ o. unwrap_or o p) (known (suc p) (λ e. omega arith))

-- a run that p does not join stays
stays : {V : Type 0} (p q end : ℕ) (v : V) (es fs : List (ℕ × V)) → IsPut p v es fs → (suc end ≡ p → ⊥) → IsRunEnd es q end → IsRunEnd fs q end
stays p q end v es fs h n r = record {
  least = r.least;
  each = λ t a b. put_some p t v es fs h (r.each t a b);
  longest = put_other p (suc end) v es fs h n ∙ r.longest;
}

-- Once the ends of the run that p joins know each other, each end of a run knows the other.
pub joined : {V : Type 0} (p d last : ℕ) (v : V) (es fs : List (ℕ × V)) (end mid new_end : ℕ → ℕ) → KnowsEnds es end → IsPut p v es fs → IsBetween es p d last → ((q : ℕ) → mid q ≡ end q) → Joins (suc d) last mid new_end → KnowsEnds fs new_end
joined {V} p d last v es fs end mid new_end k h b m j = record {
  first = λ q n s. first_by q n s (cases_eq q d);
  last = λ q s n. last_by q s n (cases_eq q last);
}
  where
    run : IsRunEnd fs d last
    run = run_of p d last v es fs b h

    above : d < p
    above = b.least

    most : p ≤ last
    most = b.most

    -- another position without a value is outside the run
    outside : (q : ℕ) → value_at q fs ≡ None → d < q → q ≤ last → ⊥
    outside q n l i = clash (value_at q fs) n (run.each q l i)

    -- a run that begins after another position doesn't end before p
    not_before : (q e : ℕ) → value_at q fs ≡ None → (q ≡ d → ⊥) → IsRunEnd es q e → suc e ≡ p → ⊥
    not_before q e n i r f = by_order (cases_lt d q)
      where
        least : q ≤ e
        least = r.least

        by_order : (d < q) ⊎ (q ≤ d) → ⊥
        by_order (inl l) = outside q n l (omega arith)
        by_order (inr l) = clash (value_at d es) b.none (r.each d (omega arith) (omega arith))

    first_by : (q : ℕ) → value_at q fs ≡ None → IsSome (value_at (suc q) fs) → (q ≡ d) ⊎ (q ≡ d → ⊥) → IsRunEnd fs q (new_end (suc q))
    first_by q n s (inl e) = rw (e, j.at_first) run
    first_by q n s (inr i) =
        let not_p : suc q ≡ p → ⊥ = λ e. outside q n (omega arith) (omega arith) in
        let not_first : suc q ≡ suc d → ⊥ = λ e. i (omega arith) in
        let not_last : suc q ≡ last → ⊥ = λ e. outside q n (omega arith) (omega arith) in
        let none = put_none p q v es fs h n in
        let some : IsSome (value_at (suc q) es) = rw (← put_other p (suc q) v es fs h not_p) s in
        let r = k.first q none.1 some in
        rw (j.others (suc q) not_first not_last, m (suc q)) (stays p q (end (suc q)) v es fs h (not_before q (end (suc q)) n i r) r)

    -- the last position of another run is outside this one
    not_inside : (q : ℕ) → value_at (suc q) fs ≡ None → d ≤ q → q < last → ⊥
    not_inside q n l i = outside (suc q) n (omega arith) (omega arith)

    -- another run doesn't begin after p
    not_after : (q r : ℕ) → value_at (suc q) fs ≡ None → (q ≡ last → ⊥) → IsRunEnd es r q → r ≡ p → ⊥
    not_after q r n i a f = by_order (cases_lt last q)
      where
        least : r ≤ q
        least = a.least

        by_order : (last < q) ⊎ (q ≤ last) → ⊥
        by_order (inl l) = clash (value_at (suc last) es) b.longest (a.each (suc last) (omega arith) (omega arith))
        by_order (inr l) = not_inside q n (omega arith) (omega arith)

    last_by : (q : ℕ) → IsSome (value_at q fs) → value_at (suc q) fs ≡ None → (q ≡ last) ⊎ (q ≡ last → ⊥) → (r : ℕ) × (new_end q ≡ suc r) × (value_at r fs ≡ None) × IsRunEnd fs r q
    last_by q s n (inl e) = (d, ap new_end e ∙ j.at_last, put_other p d v es fs h (λ f. omega arith) ∙ b.none, rw e run)
    last_by q s n (inr i) =
        let not_p : q ≡ p → ⊥ = λ e. not_inside q n (omega arith) (omega arith) in
        let not_first : q ≡ suc d → ⊥ = λ e. not_inside q n (omega arith) (omega arith) in
        let none = put_none p (suc q) v es fs h n in
        let some : IsSome (value_at q es) = rw (← put_other p q v es fs h not_p) s in
        let r = k.last q some none.1 in
        (r.0, j.others q not_first i ∙ m q ∙ r.1, put_other p r.0 v es fs h (not_after q r.0 n i r.3) ∙ r.2, stays p r.0 q v es fs h none.0 r.3)
