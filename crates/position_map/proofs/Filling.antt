-- Values of slots, by position.
use Rattle.std.proofs.Common.{◌≡◌, ℕ, ◌<◌, ◌≤◌, Bool, true, false, cond, arith, refl, sym, ap, ◌∙◌, ◌⊎◌, inl, inr, List, [], ◌∷◌, Option, Some, None, IsSome, is_some, ltb, eqb, ltb-true, ltb-false, eqb-true, nat_cmp, is_eq, Ordering, Less, Equal, Greater}
use Rattle.std.proofs.lemmas.Bool.{false≢true, eqb-false, eq-eqb, ne_eqb, cases_eq}
use Rattle.std.specs.Ordering.{match_ordering}
use Rattle.std.specs.Option.{option_map, option_flatten}
use Rattle.std.specs.Map.{lookup, remove_entry, set_value}
use Rattle.std.specs.BTreeMap.{insert_entry, is_at}
use Rattle.position_map.specs.declared.slot.Slot.{Slot as KeptSlot}
use Rattle.position_map.specs.Slots.{Slot, with_slot, filled, value_at, Rise}
use Rattle.position_map.specs.Ends.{shown}

-- how two numbers compare, by the tests
abbrev pub cmp_by : (less equal : Bool) → Ordering
cmp_by a b = cond a Less (cond b Equal Greater)

-- the test of a look-up is equality
pub at_is : (p q : ℕ) → is_at (nat_cmp p) q ≡ eqb p q
at_is p q = by_test (ltb p q) (eqb p q) refl refl
  where
    by_test : (a b : Bool) → ltb p q ≡ a → eqb p q ≡ b → is_eq (cmp_by a b) ≡ b
    by_test true true g e = let l = ltb-true p q g in let k = eqb-true p q e in absurd (omega arith)
    by_test true false g e = refl
    by_test false true g e = refl
    by_test false false g e = refl

-- a look-up finds what is at its position
pub found : {A : Type 0} (p : ℕ) (es : List (ℕ × A)) → lookup (is_at (nat_cmp p)) es ≡ value_at p es
found p [] = refl
found p (e ∷ es) = by_test (found p es) (is_at (nat_cmp p) e.0) (eqb p e.0) (at_is p e.0)
  where
    by_test : lookup (is_at (nat_cmp p)) es ≡ value_at p es → (a b : Bool) → a ≡ b → cond a (Some e.1) (lookup (is_at (nat_cmp p)) es) ≡ cond b (Some e.1) (value_at p es)
    by_test rest true b h = rw (sym h) refl
    by_test rest false b h = rw (sym h) rest

-- what is at each position after a change at one
pub changed : {A : Type 0} (k q : ℕ) (w : Option A) (es fs : List (ℕ × A)) → lookup (is_at (nat_cmp q)) fs ≡ cond (is_at (nat_cmp k) q) w (lookup (is_at (nat_cmp q)) es) → value_at q fs ≡ cond (eqb q k) w (value_at q es)
changed k q w es fs e = sym (found q fs) ∙ e ∙ by_test (cases_eq q k)
  where
    by_test : (q ≡ k) ⊎ (q ≡ k → ⊥) → cond (is_at (nat_cmp k) q) w (lookup (is_at (nat_cmp q)) es) ≡ cond (eqb q k) w (value_at q es)
    by_test (inl i) = rw (at_is k q, eq-eqb k q (sym i), eq-eqb q k i) refl
    by_test (inr n) = rw (at_is k q, ne_eqb k q (λ i. n (sym i)), ne_eqb q k n) (found q es)

-- what is at each position after a write at one
pub written : {A : Type 0} (k q : ℕ) (w : A) (es : List (ℕ × A)) → IsSome (value_at k es) → value_at q (set_value (is_at (nat_cmp k)) es w) ≡ cond (eqb q k) (Some w) (value_at q es)
written k q w [] h = absurd (false≢true h)
written k q w (s ∷ ss) h = by_test (written k q w ss) (is_at (nat_cmp k) s.0) (eqb k s.0) (at_is k s.0) refl h
  where
    one : (eqb k s.0 ≡ true) → (b c : Bool) → eqb q s.0 ≡ b → eqb q k ≡ c → cond b (Some w) (value_at q ss) ≡ cond c (Some w) (cond b (Some s.1) (value_at q ss))
    one i true true e f = refl
    one i false false e f = refl
    one i true false e f = absurd (eqb-false q k f (eqb-true q s.0 e ∙ sym (eqb-true k s.0 i)))
    one i false true e f = absurd (eqb-false q s.0 e (eqb-true q k f ∙ eqb-true k s.0 i))

    other : (eqb k s.0 ≡ false) → (b c : Bool) → eqb q s.0 ≡ b → eqb q k ≡ c → cond b (Some s.1) (cond c (Some w) (value_at q ss)) ≡ cond c (Some w) (cond b (Some s.1) (value_at q ss))
    other i true true e f = absurd (eqb-false k s.0 i (sym (eqb-true q k f) ∙ eqb-true q s.0 e))
    other i true false e f = refl
    other i false c e f = refl

    by_test : (IsSome (value_at k ss) → value_at q (set_value (is_at (nat_cmp k)) ss w) ≡ cond (eqb q k) (Some w) (value_at q ss)) → (a b : Bool) → a ≡ b → eqb k s.0 ≡ b → IsSome (cond b (Some s.1) (value_at k ss)) → value_at q (cond a ((s.0, w) ∷ ss) (s ∷ set_value (is_at (nat_cmp k)) ss w)) ≡ cond (eqb q k) (Some w) (cond (eqb q s.0) (Some s.1) (value_at q ss))
    by_test rest true true i j l = one j (eqb q s.0) (eqb q k) refl refl
    by_test rest true false i j l = absurd (false≢true (sym i))
    by_test rest false true i j l = absurd (false≢true i)
    by_test rest false false i j l = rw (rest l) (other j (eqb q s.0) (eqb q k) refl refl)

-- what is at a position, without what it knows of its run
pub shown_at : {V : Type 0} (q : ℕ) (es : List (ℕ × KeptSlot V)) → value_at q (shown es) ≡ option_map (λ s. s.value) (value_at q es)
shown_at q [] = refl
shown_at q (e ∷ es) = by_test (shown_at q es) (eqb q e.0)
  where
    by_test : value_at q (shown es) ≡ option_map (λ s. s.value) (value_at q es) → (a : Bool) → cond a (Some e.1.value) (value_at q (shown es)) ≡ option_map (λ s. s.value) (cond a (Some e.1) (value_at q es))
    by_test rest true = refl
    by_test rest false = rest

-- a new slot, and a slot taken away or written to
pub shown_insert : {V : Type 0} (k : ℕ) (s : KeptSlot V) (es : List (ℕ × KeptSlot V)) → shown (insert_entry nat_cmp es k s) ≡ insert_entry nat_cmp (shown es) k s.value
shown_insert k s [] = refl
shown_insert {V} k s (e ∷ es) = by_test (shown_insert k s es) (nat_cmp k e.0)
  where
    by_test : shown (insert_entry nat_cmp es k s) ≡ insert_entry nat_cmp (shown es) k s.value → (o : Ordering) → shown (match_ordering o ((k, s) ∷ e ∷ es) ((e.0, s) ∷ es) (e ∷ insert_entry nat_cmp es k s)) ≡ match_ordering o ((k, s.value) ∷ (e.0, e.1.value) ∷ shown es) ((e.0, s.value) ∷ shown es) ((e.0, e.1.value) ∷ insert_entry nat_cmp (shown es) k s.value)
    by_test rest Less = refl
    by_test rest Equal = refl
    by_test rest Greater = ap (λ (ss : List (Slot V)). (e.0, e.1.value) ∷ ss) rest

pub shown_remove : {V : Type 0} (test : ℕ → Bool) (es : List (ℕ × KeptSlot V)) → shown (remove_entry test es) ≡ remove_entry test (shown es)
shown_remove test [] = refl
shown_remove {V} test (e ∷ es) = by_test (shown_remove test es) (test e.0)
  where
    by_test : shown (remove_entry test es) ≡ remove_entry test (shown es) → (a : Bool) → shown (cond a es (e ∷ remove_entry test es)) ≡ cond a (shown es) ((e.0, e.1.value) ∷ remove_entry test (shown es))
    by_test rest true = refl
    by_test rest false = ap (λ (ss : List (Slot V)). (e.0, e.1.value) ∷ ss) rest

pub shown_set : {V : Type 0} (test : ℕ → Bool) (s : KeptSlot V) (es : List (ℕ × KeptSlot V)) → shown (set_value test es s) ≡ set_value test (shown es) s.value
shown_set test s [] = refl
shown_set {V} test s (e ∷ es) = by_test (shown_set test s es) (test e.0)
  where
    by_test : shown (set_value test es s) ≡ set_value test (shown es) s.value → (a : Bool) → shown (cond a ((e.0, s) ∷ es) (e ∷ set_value test es s)) ≡ cond a ((e.0, s.value) ∷ shown es) ((e.0, e.1.value) ∷ set_value test (shown es) s.value)
    by_test rest true = refl
    by_test rest false = ap (λ (ss : List (Slot V)). (e.0, e.1.value) ∷ ss) rest

-- what is above a position is above those below it
pub rise_lower : {A : Type 0} (p q : ℕ) (es : List (ℕ × A)) → p ≤ q → Rise q es → Rise p es
rise_lower p q [] l h = tt
rise_lower p q (e ∷ es) l h = let a = h.0 in (omega arith, h.1)

-- a new entry goes to its place
pub rise_insert : {A : Type 0} (p k : ℕ) (v : A) (es : List (ℕ × A)) → p < k → Rise p es → Rise p (insert_entry nat_cmp es k v)
rise_insert p k v [] l h = (l, tt)
rise_insert p k v (s ∷ ss) l h = by_test (λ m. rise_insert s.0 k v ss m h.1) (ltb k s.0) (eqb k s.0) refl refl
  where
    by_test : (s.0 < k → Rise s.0 (insert_entry nat_cmp ss k v)) → (a b : Bool) → ltb k s.0 ≡ a → eqb k s.0 ≡ b → Rise p (match_ordering (cmp_by a b) ((k, v) ∷ s ∷ ss) ((s.0, v) ∷ ss) (s ∷ insert_entry nat_cmp ss k v))
    by_test rest true b g e = (l, (ltb-true k s.0 g, h.1))
    by_test rest false true g e = (h.0, h.1)
    by_test rest false false g e = (h.0, rest (omega (arith, ltb-false k s.0 g, eqb-false k s.0 e)))

-- an entry taken away leaves the others
pub rise_remove : {A : Type 0} (p : ℕ) (test : ℕ → Bool) (es : List (ℕ × A)) → Rise p es → Rise p (remove_entry test es)
rise_remove p test [] h = tt
rise_remove p test (s ∷ ss) h = by_test (rise_remove s.0 test ss h.1) (test s.0)
  where
    by_test : Rise s.0 (remove_entry test ss) → (a : Bool) → Rise p (cond a ss (s ∷ remove_entry test ss))
    by_test rest true = rise_lower p s.0 ss (let a = h.0 in omega arith) h.1
    by_test rest false = (h.0, rest)

-- what is written at a position leaves the position
pub rise_set : {A : Type 0} (p : ℕ) (test : ℕ → Bool) (v : A) (es : List (ℕ × A)) → Rise p es → Rise p (set_value test es v)
rise_set p test v [] h = tt
rise_set p test v (s ∷ ss) h = by_test (rise_set s.0 test v ss h.1) (test s.0)
  where
    by_test : Rise s.0 (set_value test ss v) → (a : Bool) → Rise p (cond a ((s.0, v) ∷ ss) (s ∷ set_value test ss v))
    by_test rest true = (h.0, h.1)
    by_test rest false = (h.0, rest)

-- no value stands below the first slot
pub none_below : {V : Type 0} (k p : ℕ) (ss : List (Slot V)) → k ≤ p → Rise p ss → value_at k (filled ss) ≡ None
none_below k p [] l h = refl
none_below {V} k p (s ∷ ss) l h = by_value (none_below k s.0 ss (let a = h.0 in omega arith) h.1) s.1
  where
    by_value : value_at k (filled ss) ≡ None → (o : Option V) → value_at k (with_slot s.0 o (filled ss)) ≡ None
    by_value rest None = rest
    by_value rest (Some v) = let a = h.0 in rw (ne_eqb k s.0 (λ q. omega arith)) rest

-- The value at a position is the one in its slot.
pub value_filled : {V : Type 0} (p k : ℕ) (ss : List (Slot V)) → Rise p ss → value_at k (filled ss) ≡ option_flatten (value_at k ss)
value_filled p k [] h = refl
value_filled {V} p k (s ∷ ss) h = by_test (value_filled s.0 k ss h.1) (eqb k s.0) refl
  where
    same : (o : Option V) → eqb k s.0 ≡ true → value_at k (with_slot s.0 o (filled ss)) ≡ o
    same None e = let i = eqb-true k s.0 e in none_below k s.0 ss (omega arith) h.1
    same (Some u) e = rw e refl

    other : (o : Option V) → eqb k s.0 ≡ false → value_at k (with_slot s.0 o (filled ss)) ≡ value_at k (filled ss)
    other None e = refl
    other (Some u) e = rw e refl

    by_test : value_at k (filled ss) ≡ option_flatten (value_at k ss) → (b : Bool) → eqb k s.0 ≡ b → value_at k (with_slot s.0 s.1 (filled ss)) ≡ option_flatten (cond b (Some s.1) (value_at k ss))
    by_test rest true e = same s.1 e
    by_test rest false e = other s.1 e ∙ rest

-- room for a value is no value
pub filled_insert : {V : Type 0} (k : ℕ) (ss : List (Slot V)) → lookup (is_at (nat_cmp k)) ss ≡ None → filled (insert_entry nat_cmp ss k None) ≡ filled ss
filled_insert k [] h = refl
filled_insert k (s ∷ ss) h = by_test (filled_insert k ss) (ltb k s.0) (eqb k s.0) h
  where
    by_test : (lookup (is_at (nat_cmp k)) ss ≡ None → filled (insert_entry nat_cmp ss k None) ≡ filled ss) → (a b : Bool) → cond (is_eq (cmp_by a b)) (Some s.1) (lookup (is_at (nat_cmp k)) ss) ≡ None → filled (match_ordering (cmp_by a b) ((k, None) ∷ s ∷ ss) ((s.0, None) ∷ ss) (s ∷ insert_entry nat_cmp ss k None)) ≡ with_slot s.0 s.1 (filled ss)
    by_test rest true b e = refl
    by_test rest false true e = absurd (false≢true (sym (ap is_some e)))
    by_test rest false false e = ap (with_slot s.0 s.1) (rest e)

-- room that is taken away was no value
pub filled_remove : {V : Type 0} (test : ℕ → Bool) (ss : List (Slot V)) → lookup test ss ≡ Some None → filled (remove_entry test ss) ≡ filled ss
filled_remove test [] h = refl
filled_remove test (s ∷ ss) h = by_test (filled_remove test ss) (test s.0) h
  where
    by_test : (lookup test ss ≡ Some None → filled (remove_entry test ss) ≡ filled ss) → (a : Bool) → cond a (Some s.1) (lookup test ss) ≡ Some None → filled (cond a ss (s ∷ remove_entry test ss)) ≡ with_slot s.0 s.1 (filled ss)
    by_test rest true e = rw (ap option_flatten e) refl
    by_test rest false e = ap (with_slot s.0 s.1) (rest e)
