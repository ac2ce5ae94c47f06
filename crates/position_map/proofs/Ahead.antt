-- The slots that a search of a map has not passed yet.
use Rattle.std.proofs.Common.{◌≡◌, ℕ, ◌<◌, ◌≤◌, Bool, true, false, cond, not, ◌&&◌, arith, refl, sym, ap, ◌∙◌, ◌⊎◌, inl, inr, List, [], ◌∷◌, ◌++◌, Option, Some, None, IsSome, is_some, ltb, eqb, ltb-true, ltb-false, eqb-true, nat_cmp, is_le, filter}
use Rattle.std.proofs.lemmas.Bool.{false≢true, eqb-false, eq-eqb, ne_eqb}
use Rattle.std.specs.Option.{option_flatten}
use Rattle.std.specs.BTreeMap.Range.{range_contains}
use Rattle.std.specs.declared.ops.Bound.TheVariants.{Included, Unbounded}
use Rattle.position_map.specs.declared.slot.Slot.{Slot as KeptSlot}
use Rattle.position_map.specs.Slots.{with_slot, filled, value_at, Rise, IsNext}
use Rattle.position_map.specs.Ends.{shown}
use Rattle.position_map.proofs.Filling.{cmp_by, rise_lower, none_below, value_filled}

-- whether a position is at or above p
abbrev pub is_from : (p q : ℕ) → Bool
is_from p q = range_contains nat_cmp (Included p) Unbounded q

-- what that test says
from_cases : (p q : ℕ) → ((is_from p q ≡ true) × (p ≤ q)) ⊎ ((is_from p q ≡ false) × (q < p))
from_cases p q = by_test (ltb p q) (eqb p q) refl refl
  where
    by_test : (a b : Bool) → ltb p q ≡ a → eqb p q ≡ b → (((is_le (cmp_by a b) && not false) ≡ true) × (p ≤ q)) ⊎ (((is_le (cmp_by a b) && not false) ≡ false) × (q < p))
    by_test true b g e = let l = ltb-true p q g in inl (refl, omega arith)
    by_test false true g e = let l = eqb-true p q e in inl (refl, omega arith)
    by_test false false g e = inr (refl, omega (arith, ltb-false p q g, eqb-false p q e))

-- positions are at p or above, and rise
abbrev pub RiseFrom : {A : Type 0} → (p : ℕ) → List (ℕ × A) → Type 0
RiseFrom p [] = Unit {0}
RiseFrom p (e ∷ es) = (p ≤ e.0) × Rise e.0 es

-- the slots `rest` have the values es from p on
pub record IsAhead {V : Type 0} (p : ℕ) (es : List (ℕ × V)) (rest : List (ℕ × KeptSlot V)) : Type 0 where
  pub rise : RiseFrom p (shown rest)
  pub same : (q : ℕ) → p ≤ q → value_at q es ≡ value_at q (filled (shown rest))

-- what is above a position rises from those up to it
rise_from : {A : Type 0} (p k : ℕ) (es : List (ℕ × A)) → p ≤ k → Rise k es → RiseFrom p es
rise_from p k [] l h = tt
rise_from p k (e ∷ es) l h = let a = h.0 in (omega arith, h.1)

-- those that are left rise
rise_filter : {V : Type 0} (k : ℕ) (test : ℕ → Bool) (es : List (ℕ × KeptSlot V)) → Rise k (shown es) → Rise k (shown (filter (λ e. test e.0) es))
rise_filter k test [] h = tt
rise_filter {V} k test (e ∷ es) h = by_test (rise_filter e.0 test es h.1) (test e.0)
  where
    by_test : Rise e.0 (shown (filter (λ d. test d.0) es)) → (a : Bool) → Rise k (shown (cond a (e ∷ filter (λ (d : ℕ × KeptSlot V). test d.0) es) (filter (λ (d : ℕ × KeptSlot V). test d.0) es)))
    by_test rest true = (h.0, rest)
    by_test rest false = rise_lower k e.0 _ (let a = h.0 in omega arith) rest

-- they begin at p or above
filter_from : {V : Type 0} (p k : ℕ) (es : List (ℕ × KeptSlot V)) → Rise k (shown es) → RiseFrom p (shown (filter (λ e. is_from p e.0) es))
filter_from p k [] h = tt
filter_from {V} p k (e ∷ es) h = by_test (filter_from p e.0 es h.1) (from_cases p e.0)
  where
    by_test : RiseFrom p (shown (filter (λ d. is_from p d.0) es)) → ((is_from p e.0 ≡ true) × (p ≤ e.0)) ⊎ ((is_from p e.0 ≡ false) × (e.0 < p)) → RiseFrom p (shown (filter (λ (d : ℕ × KeptSlot V). is_from p d.0) (e ∷ es)))
    by_test rest (inl t) = rw t.0 (t.1, rise_filter e.0 (is_from p) es h.1)
    by_test rest (inr t) = rw t.0 rest

-- and have what stood there
filter_at : {V : Type 0} (p q : ℕ) (es : List (ℕ × KeptSlot V)) → p ≤ q → value_at q (shown (filter (λ e. is_from p e.0) es)) ≡ value_at q (shown es)
filter_at p q [] l = refl
filter_at {V} p q (e ∷ es) l = by_test (filter_at p q es l) (from_cases p e.0)
  where
    by_test : value_at q (shown (filter (λ d. is_from p d.0) es)) ≡ value_at q (shown es) → ((is_from p e.0 ≡ true) × (p ≤ e.0)) ⊎ ((is_from p e.0 ≡ false) × (e.0 < p)) → value_at q (shown (filter (λ (d : ℕ × KeptSlot V). is_from p d.0) (e ∷ es))) ≡ value_at q (shown (e ∷ es))
    by_test rest (inl t) = rw (t.0, rest) refl
    by_test rest (inr t) = rw t.0 (rest ∙ sym (rw (ne_eqb q e.0 (λ i. let m = t.1 in omega arith)) refl))

-- A search from p begins at the slots at p or above.
pub ahead_first : {V : Type 0} (p : ℕ) (es : List (ℕ × KeptSlot V)) → Rise 0 (shown es) → IsAhead p (filled (shown es)) (filter (λ e. is_from p e.0) es)
ahead_first p es h = record {
  rise = filter_from p 0 es h;
  same = λ q l. value_filled 0 q (shown es) h ∙ sym (ap option_flatten (filter_at p q es l)) ∙ sym (value_filled 0 q _ (rise_filter 0 (is_from p) es h));
}

-- it passes an empty slot
pub ahead_more : {V : Type 0} (p k : ℕ) (s : KeptSlot V) (es : List (ℕ × V)) (rest : List (ℕ × KeptSlot V)) → is_some s.value ≡ false → IsAhead p es ((k, s) ∷ rest) → IsAhead p es rest
ahead_more {V} p k s es rest n h = record {
  rise = rise_from p k (shown rest) h.rise.0 h.rise.1;
  same = λ q l. h.same q l ∙ by_value q s.value n;
}
  where
    by_value : (q : ℕ) → (o : Option V) → is_some o ≡ false → value_at q (with_slot k o (filled (shown rest))) ≡ value_at q (filled (shown rest))
    by_value q None i = refl
    by_value q (Some v) i = absurd (false≢true (sym i))

-- it ends at the first value
pub ahead_found : {V : Type 0} (p k : ℕ) (s : KeptSlot V) (es : List (ℕ × V)) (rest : List (ℕ × KeptSlot V)) → is_some s.value ≡ true → IsAhead p es ((k, s) ∷ rest) → IsNext es p k
ahead_found {V} p k s es rest n h = record {
  least = h.rise.0;
  there = rw (h.same k h.rise.0) (by_value s.value n);
  first = λ q l m. h.same q l ∙ below q m s.value;
}
  where
    by_value : (o : Option V) → is_some o ≡ true → IsSome (value_at k (with_slot k o (filled (shown rest))))
    by_value None i = absurd (false≢true i)
    by_value (Some v) i = rw (eq-eqb k k refl) refl

    below : (q : ℕ) → q < k → (o : Option V) → value_at q (with_slot k o (filled (shown rest))) ≡ None
    below q m None = none_below q k (shown rest) (omega arith) h.rise.1
    below q m (Some v) = rw (ne_eqb q k (λ i. omega arith)) (none_below q k (shown rest) (omega arith) h.rise.1)

-- the slots before others rise
pub rise_front : {V : Type 0} (p : ℕ) (es fs : List (ℕ × KeptSlot V)) → Rise p (shown (es ++ fs)) → Rise p (shown es)
rise_front p [] fs h = tt
rise_front p (e ∷ es) fs h = (h.0, rise_front e.0 es fs h.1)

-- the last slot is above what the slots are above
below_last : {V : Type 0} (p k : ℕ) (s : KeptSlot V) (es : List (ℕ × KeptSlot V)) → Rise p (shown (es ++ (k, s) ∷ [])) → p < k
below_last p k s [] h = h.0
below_last p k s (e ∷ es) h = let a = h.0 in let b = below_last e.0 k s es h.1 in omega arith

-- an empty last slot is no value
pub behind_more : {V : Type 0} (k : ℕ) (s : KeptSlot V) (es : List (ℕ × KeptSlot V)) → is_some s.value ≡ false → filled (shown (es ++ (k, s) ∷ [])) ≡ filled (shown es)
behind_more {V} k s [] n = by_value s.value n
  where
    by_value : (o : Option V) → is_some o ≡ false → with_slot k o [] ≡ []
    by_value None i = refl
    by_value (Some v) i = absurd (false≢true (sym i))
behind_more k s (e ∷ es) n = ap (with_slot e.0 e.1.value) (behind_more k s es n)

-- a slot at another position
with_other : {V : Type 0} (q k : ℕ) (o : Option V) (es : List (ℕ × V)) → (q ≡ k → ⊥) → value_at q (with_slot k o es) ≡ value_at q es
with_other q k None es n = refl
with_other q k (Some v) es n = rw (ne_eqb q k n) refl

-- no value is above the last slot
pub none_above : {V : Type 0} (p k q : ℕ) (s : KeptSlot V) (es : List (ℕ × KeptSlot V)) → Rise p (shown (es ++ (k, s) ∷ [])) → k < q → value_at q (filled (shown (es ++ (k, s) ∷ []))) ≡ None
none_above p k q s [] h l = with_other q k s.value [] (λ i. omega arith)
none_above p k q s (e ∷ es) h l = let b = below_last e.0 k s es h.1 in with_other q e.0 e.1.value _ (λ i. omega arith) ∙ none_above e.0 k q s es h.1 l

-- the value of the last slot is there
pub value_last : {V : Type 0} (p k : ℕ) (s : KeptSlot V) (es : List (ℕ × KeptSlot V)) → is_some s.value ≡ true → Rise p (shown (es ++ (k, s) ∷ [])) → IsSome (value_at k (filled (shown (es ++ (k, s) ∷ []))))
value_last {V} p k s [] n h = by_value s.value n
  where
    by_value : (o : Option V) → is_some o ≡ true → IsSome (value_at k (with_slot k o []))
    by_value None i = absurd (false≢true i)
    by_value (Some v) i = rw (eq-eqb k k refl) refl
value_last p k s (e ∷ es) n h = let b = below_last e.0 k s es h.1 in rw (with_other k e.0 e.1.value (filled (shown (es ++ (k, s) ∷ []))) (λ i. omega arith)) (value_last e.0 k s es n h.1)
