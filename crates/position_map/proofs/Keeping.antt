-- What the functions on slots find and change.
use Rattle.std.proofs.Common.{◌≡◌, ℕ, suc, ◌<◌, ◌≤◌, ◌^◌, Bool, true, false, cond, not, ◌||◌, arith, refl, sym, ap, subst, ◌∙◌, ◌⊎◌, inl, inr, List, [], ◌∷◌, ◌++◌, Option, Some, None, IsSome, IsTrue, is_some, length, eqb, eqb-true, nat_cmp}
use Rattle.std.proofs.lemmas.Bool.{false≢true, eq-eqb, ne_eqb, cases_eq}
use Rattle.std.proofs.lemmas.Map.Steps.{set_value_same}
use Rattle.std.specs.Bool.{then_some}
use Rattle.std.specs.List.{list_any}
use Rattle.std.proofs.lemmas.List.Folds.{list_any-append}
use Rattle.std.specs.Option.{option_map, option_flatten}
use Rattle.std.specs.Map.{lookup, remove_entry, set_value}
use Rattle.std.specs.BTreeMap.{insert_entry, is_at}
use Rattle.position_map.specs.declared.slot.Slot.{Slot as KeptSlot}
use Rattle.position_map.specs.Slots.{Slot, filled, value_at, HasSlot, Rise}
use Rattle.position_map.specs.Ends.{shown, end_in, end_at, end_known, KnowsEnds, IsKept}
use Rattle.position_map.proofs.Filling.{found, changed, written, shown_at, shown_insert, shown_remove, shown_set, rise_insert, rise_remove, rise_set, value_filled, filled_insert, filled_remove}
use Rattle.position_map.proofs.Runs.{clash}

-- what a look-up found is what stands at the position
pub shown_found : {V : Type 0} (q : ℕ) (es : List (ℕ × KeptSlot V)) (o : Option (KeptSlot V)) → o ≡ lookup (is_at (nat_cmp q)) es → value_at q (shown es) ≡ option_map (λ s. s.value) o
shown_found {V} q es o e = shown_at q es ∙ ap (option_map (λ (s : KeptSlot V). s.value)) (sym (found q es) ∙ sym e)

-- and the value there
pub value_found : {V : Type 0} (q : ℕ) (es : List (ℕ × KeptSlot V)) (o : Option (KeptSlot V)) → Rise 0 (shown es) → o ≡ lookup (is_at (nat_cmp q)) es → value_at q (filled (shown es)) ≡ option_flatten (option_map (λ s. s.value) o)
value_found q es o h e = value_filled 0 q (shown es) h ∙ ap option_flatten (shown_found q es o e)

-- the same for the end that it knows
pub known_found : {V : Type 0} (q : ℕ) (es : List (ℕ × KeptSlot V)) (o : Option (KeptSlot V)) → Rise 0 (shown es) → o ≡ lookup (is_at (nat_cmp q)) es → end_known (filled (shown es)) (λ r. end_at r es) q ≡ cond (is_some (option_flatten (option_map (λ s. s.value) o))) (Some (end_in o)) None
known_found {V} q es o h e =
    let v : value_at q (filled (shown es)) ≡ option_flatten (option_map (λ (s : KeptSlot V). s.value) o) = value_found q es o h e in
    let w : value_at q es ≡ o = sym (found q es) ∙ sym e in
    rw (v, w) refl

-- no end is known where there is no slot
pub none_known : {V : Type 0} (q : ℕ) (es : List (ℕ × KeptSlot V)) → Rise 0 (shown es) → value_at q (shown es) ≡ None → end_known (filled (shown es)) (λ r. end_at r es) q ≡ None
none_known q es h e =
    let v = value_filled 0 q (shown es) h ∙ ap option_flatten e in
    rw v refl

-- whether a slot that was found is empty
pub empty_found : {V : Type 0} (o : Option V) (b : Bool) (w : Option (Option V)) → w ≡ Some o → is_some o ≡ not b → (IsTrue b → w ≡ Some None) × (w ≡ Some None → IsTrue b)
empty_found None true w e h = ((λ _. e), λ _. refl)
empty_found None false w e h = absurd (false≢true h)
empty_found (Some v) true w e h = absurd (false≢true (sym h))
empty_found (Some v) false w e h = ((λ t. absurd (false≢true t)), λ f. absurd (false≢true (sym (ap (λ x. is_some (option_flatten x)) (sym e ∙ f)))))

-- a slot is there
pub slot_found : {V : Type 0} (k : ℕ) (s : KeptSlot V) (es : List (ℕ × KeptSlot V)) → Some s ≡ lookup (is_at (nat_cmp k)) es → value_at k (shown es) ≡ Some s.value
slot_found k s es e = shown_found k es (Some s) e

-- what is written to a slot but its value leaves what is seen
pub set_same : {V : Type 0} (k : ℕ) (s w : KeptSlot V) (es fs : List (ℕ × KeptSlot V)) → Some s ≡ lookup (is_at (nat_cmp k)) es → w.value ≡ s.value → fs ≡ set_value (is_at (nat_cmp k)) es w → shown fs ≡ shown es
set_same k s w es fs e v f =
    ap shown f ∙ shown_set (is_at (nat_cmp k)) w es
    ∙ set_value_same (is_at (nat_cmp k)) (shown es) w.value (found k (shown es) ∙ slot_found k s es e ∙ ap (λ x. Some x) (sym v))

-- the ends that are known then
pub set_ends : {V : Type 0} (k q : ℕ) (s w : KeptSlot V) (es fs : List (ℕ × KeptSlot V)) → Some s ≡ lookup (is_at (nat_cmp k)) es → fs ≡ set_value (is_at (nat_cmp k)) es w → end_at q fs ≡ cond (eqb q k) w.other_end (end_at q es)
set_ends {V} k q s w es fs e f =
    ap (λ gs. end_at q gs) f ∙ ap end_in (written k q w es (ap is_some (sym (found k es) ∙ sym e))) ∙ by_test (eqb q k)
  where
    by_test : (b : Bool) → end_in (cond b (Some w) (value_at q es)) ≡ cond b w.other_end (end_at q es)
    by_test true = refl
    by_test false = refl

-- and where the other end stays, they are the same
pub put_ends : {V : Type 0} (k q : ℕ) (s w : KeptSlot V) (es fs : List (ℕ × KeptSlot V)) → Some s ≡ lookup (is_at (nat_cmp k)) es → w.other_end ≡ s.other_end → fs ≡ set_value (is_at (nat_cmp k)) es w → end_at q fs ≡ end_at q es
put_ends {V} k q s w es fs e o f = set_ends k q s w es fs e f ∙ by_test (eqb q k) refl
  where
    by_test : (b : Bool) → eqb q k ≡ b → cond b w.other_end (end_at q es) ≡ end_at q es
    by_test true i = o ∙ sym (ap end_in (ap (λ r. value_at r es) (eqb-true q k i) ∙ sym (found k es) ∙ sym e))
    by_test false i = refl

-- what stands at each position once a value is put into a slot
pub put_at : {V : Type 0} (k q : ℕ) (v : V) (s w : KeptSlot V) (es fs : List (ℕ × KeptSlot V)) → Some s ≡ lookup (is_at (nat_cmp k)) es → w.value ≡ Some v → fs ≡ set_value (is_at (nat_cmp k)) es w → value_at q (shown fs) ≡ cond (eqb q k) (Some (Some v)) (value_at q (shown es))
put_at k q v s w es fs e i f =
    ap (λ gs. value_at q (shown gs)) f ∙ ap (value_at q) (shown_set (is_at (nat_cmp k)) w es) ∙ written k q w.value (shown es) (ap is_some (slot_found k s es e))
    ∙ ap (λ x. cond (eqb q k) (Some x) (value_at q (shown es))) i

-- the slots rise as before
pub put_rise : {V : Type 0} (k : ℕ) (w : KeptSlot V) (es fs : List (ℕ × KeptSlot V)) → fs ≡ set_value (is_at (nat_cmp k)) es w → Rise 0 (shown es) → Rise 0 (shown fs)
put_rise k w es fs f h = rw (f, shown_set (is_at (nat_cmp k)) w es) (rise_set 0 (is_at (nat_cmp k)) w.value (shown es) h)

-- a slot that is there is found
pub not_found : {B V : Type 0} (k : ℕ) (es : List (ℕ × KeptSlot V)) → None ≡ lookup (is_at (nat_cmp k)) es → HasSlot k (shown es) → B
not_found k es e h = clash (value_at k (shown es)) (shown_found k es None e) h

-- a value by a test
pub then_is : {A : Type 0} (b : Bool) (x : A) → then_some b x ≡ cond b (Some x) None
then_is true x = refl
then_is false x = refl

-- what the ends know counts only where there is a value
pub ends_same : {V : Type 0} (es : List (ℕ × V)) (end new_end : ℕ → ℕ) → ((q : ℕ) → IsSome (value_at q es) → new_end q ≡ end q) → KnowsEnds es end → KnowsEnds es new_end
ends_same es end new_end h k = record {
  first = λ p n s. rw (h (suc p) s) (k.first p n s);
  last = λ q s n. let r = k.last q s n in (r.0, h q s ∙ r.1, r.2, r.3);
}

-- what is elsewhere once one position has changed
at_other : {A : Type 0} (k q : ℕ) (w : Option A) (es fs : List (ℕ × A)) → (q ≡ k → ⊥) → value_at q fs ≡ cond (eqb q k) w (value_at q es) → value_at q fs ≡ value_at q es
at_other k q w es fs n e = e ∙ rw (ne_eqb q k n) refl

-- the same of what is seen
pub shown_other : {V : Type 0} (k q : ℕ) (w : Option (KeptSlot V)) (es fs : List (ℕ × KeptSlot V)) → (q ≡ k → ⊥) → value_at q fs ≡ cond (eqb q k) w (value_at q es) → value_at q (shown fs) ≡ value_at q (shown es)
shown_other {V} k q w es fs n e =
    shown_at q fs ∙ ap (option_map (λ (s : KeptSlot V). s.value)) (at_other k q w es fs n e) ∙ sym (shown_at q es)

-- what stands there
pub shown_here : {V : Type 0} (k : ℕ) (w : Option (KeptSlot V)) (es fs : List (ℕ × KeptSlot V)) → value_at k fs ≡ cond (eqb k k) w (value_at k es) → value_at k (shown fs) ≡ option_map (λ s. s.value) w
shown_here {V} k w es fs e =
    let f : value_at k fs ≡ w = e ∙ rw (eq-eqb k k refl) refl in
    shown_at k fs ∙ ap (option_map (λ (s : KeptSlot V). s.value)) f

-- room that is made or taken away at a position leaves what holds of a map
pub kept_changed : {V : Type 0} (k : ℕ) (w : Option (KeptSlot V)) (rooms new_rooms : List ℕ) (es fs : List (ℕ × KeptSlot V)) → k < 2 ^ 32 → Rise 0 (shown fs) → filled (shown fs) ≡ filled (shown es) → value_at k (filled (shown es)) ≡ None → ((q : ℕ) → value_at q fs ≡ cond (eqb q k) w (value_at q es)) → ((q : ℕ) → value_at q (shown fs) ≡ Some None → list_any (λ r. eqb q r) new_rooms ≡ true) → IsKept rooms es → IsKept new_rooms fs
kept_changed {V} k w rooms new_rooms es fs l rise same none at among h = record {
  rise = rise;
  fits = λ q m. shown_other k q w es fs (λ e. omega arith) (at q) ∙ h.fits q m;
  among = among;
  ends = subst (λ (ws : List (ℕ × V)). KnowsEnds ws (λ q. end_at q fs)) (sym same)
      (ends_same (filled (shown es)) (λ q. end_at q es) (λ q. end_at q fs) (λ q s. ap end_in (at_other k q w es fs (λ e. clash (value_at q (filled (shown es))) (ap (λ r. value_at r (filled (shown es))) e ∙ none) s) (at q))) h.ends);
}

-- more rooms hold the same
pub kept_more : {V : Type 0} (k : ℕ) (rooms : List ℕ) (es : List (ℕ × KeptSlot V)) → IsKept rooms es → IsKept (rooms ++ k ∷ []) es
kept_more k rooms es h = record {
  rise = h.rise;
  fits = h.fits;
  among = λ q e. list_any-append (λ r. eqb q r) rooms (k ∷ []) ∙ rw (h.among q e) refl;
  ends = h.ends;
}

-- what is among rooms, but not the last, is among the others
pub among_others : (k q : ℕ) (rooms : List ℕ) → list_any (λ r. eqb q r) (rooms ++ k ∷ []) ≡ true → (q ≡ k → ⊥) → list_any (λ r. eqb q r) rooms ≡ true
among_others k q rooms h n = by_test (list_any (λ r. eqb q r) rooms) (sym (list_any-append (λ r. eqb q r) rooms (k ∷ [])) ∙ h)
  where
    by_test : (b : Bool) → (b || (eqb q k || false)) ≡ true → b ≡ true
    by_test true e = refl
    by_test false e = absurd (false≢true (rw (ne_eqb q k n) at e))

-- where the slot at a position isn't empty, the position need not be among the rooms
pub kept_full : {V : Type 0} (k : ℕ) (rooms : List ℕ) (es : List (ℕ × KeptSlot V)) → (value_at k (shown es) ≡ Some None → ⊥) → IsKept (rooms ++ k ∷ []) es → IsKept rooms es
kept_full k rooms es n h = record {
  rise = h.rise;
  fits = h.fits;
  among = λ q e. among_others k q rooms (h.among q e) (λ i. n (ap (λ r. value_at r (shown es)) (sym i) ∙ e));
  ends = h.ends;
}

-- room that is made is no value
pub made_same : {V : Type 0} (k e : ℕ) (es fs : List (ℕ × KeptSlot V)) → value_at k (shown es) ≡ None → fs ≡ insert_entry nat_cmp es k (record { value = None; other_end = e }) → filled (shown fs) ≡ filled (shown es)
made_same k e es fs n f = rw (f, shown_insert k (record { value = None; other_end = e }) es) (filled_insert k (shown es) (found k (shown es) ∙ n))

-- it is among the rooms
pub made_kept : {V : Type 0} (k e : ℕ) (rooms : List ℕ) (es fs : List (ℕ × KeptSlot V)) → 1 ≤ k → k < 2 ^ 32 → value_at k (shown es) ≡ None → fs ≡ insert_entry nat_cmp es k (record { value = None; other_end = e }) → ((q : ℕ) → lookup (is_at (nat_cmp q)) fs ≡ cond (is_at (nat_cmp k) q) (Some (record { value = None; other_end = e })) (lookup (is_at (nat_cmp q)) es)) → list_any (λ r. eqb k r) rooms ≡ true → IsKept rooms es → IsKept rooms fs
made_kept {V} k e rooms es fs l m n f u a h =
    kept_changed k w rooms rooms es fs m (rw (f, shown_insert k (record { value = None; other_end = e }) es) (rise_insert 0 k None (shown es) l h.rise)) (made_same k e es fs n f) (value_filled 0 k (shown es) h.rise ∙ ap option_flatten n) at
    (λ q i. by_test q i (cases_eq q k)) h
  where
    w : Option (KeptSlot V)
    w = Some (record { value = None; other_end = e })

    at : (q : ℕ) → value_at q fs ≡ cond (eqb q k) w (value_at q es)
    at q = changed k q w es fs (u q)

    by_test : (q : ℕ) → value_at q (shown fs) ≡ Some None → (q ≡ k) ⊎ (q ≡ k → ⊥) → list_any (λ r. eqb q r) rooms ≡ true
    by_test q i (inl j) = rw j a
    by_test q i (inr j) = h.among q (sym (shown_other k q w es fs j (at q)) ∙ i)

-- there is room where it was made, and elsewhere as before
pub made_room : {V : Type 0} (k e : ℕ) (es fs : List (ℕ × KeptSlot V)) → ((q : ℕ) → lookup (is_at (nat_cmp q)) fs ≡ cond (is_at (nat_cmp k) q) (Some (record { value = None; other_end = e })) (lookup (is_at (nat_cmp q)) es)) → HasSlot k (shown fs)
made_room k e es fs u = ap is_some (shown_here k (Some (record { value = None; other_end = e })) es fs (changed k k _ es fs (u k)))

pub made_elsewhere : {V : Type 0} (k e q : ℕ) (es fs : List (ℕ × KeptSlot V)) → ((r : ℕ) → lookup (is_at (nat_cmp r)) fs ≡ cond (is_at (nat_cmp k) r) (Some (record { value = None; other_end = e })) (lookup (is_at (nat_cmp r)) es)) → (q ≡ k → ⊥) → value_at q (shown fs) ≡ value_at q (shown es)
made_elsewhere k e q es fs u n = shown_other k q _ es fs n (changed k q _ es fs (u q))

-- room that is taken away was no value
pub removed_same : {V : Type 0} (k : ℕ) (es fs : List (ℕ × KeptSlot V)) → value_at k (shown es) ≡ Some None → fs ≡ remove_entry (is_at (nat_cmp k)) es → filled (shown fs) ≡ filled (shown es)
removed_same k es fs n f = rw (f, shown_remove (is_at (nat_cmp k)) es) (filled_remove (is_at (nat_cmp k)) (shown es) (found k (shown es) ∙ n))

-- it need not be among the rooms
pub removed_kept : {V : Type 0} (k : ℕ) (rooms : List ℕ) (es fs : List (ℕ × KeptSlot V)) → k < 2 ^ 32 → value_at k (shown es) ≡ Some None → fs ≡ remove_entry (is_at (nat_cmp k)) es → ((q : ℕ) → lookup (is_at (nat_cmp q)) fs ≡ cond (is_at (nat_cmp k) q) None (lookup (is_at (nat_cmp q)) es)) → IsKept (rooms ++ k ∷ []) es → IsKept rooms fs
removed_kept {V} k rooms es fs m n f u h =
    kept_changed k None (rooms ++ k ∷ []) rooms es fs m (rw (f, shown_remove (is_at (nat_cmp k)) es) (rise_remove 0 (is_at (nat_cmp k)) (shown es) h.rise)) (removed_same k es fs n f)
    (value_filled 0 k (shown es) h.rise ∙ ap option_flatten n) at (λ q i. by_test q i (cases_eq q k)) h
  where
    at : (q : ℕ) → value_at q fs ≡ cond (eqb q k) None (value_at q es)
    at q = changed k q None es fs (u q)

    by_test : (q : ℕ) → value_at q (shown fs) ≡ Some None → (q ≡ k) ⊎ (q ≡ k → ⊥) → list_any (λ r. eqb q r) rooms ≡ true
    by_test q i (inl j) = absurd (false≢true (ap is_some (sym (shown_here k None es fs (at k)) ∙ ap (λ r. value_at r (shown fs)) (sym j) ∙ i)))
    by_test q i (inr j) = among_others k q rooms (h.among q (sym (shown_other k q None es fs j (at q)) ∙ i)) j

-- what is last is among them
pub last_among : (k : ℕ) (rooms : List ℕ) → list_any (λ r. eqb k r) (rooms ++ k ∷ []) ≡ true
last_among k rooms = list_any-append (λ r. eqb k r) rooms (k ∷ []) ∙ rw (eq-eqb k k refl) (by_test (list_any (λ r. eqb k r) rooms))
  where
    by_test : (b : Bool) → (b || true) ≡ true
    by_test true = refl
    by_test false = refl

-- whether a slot is there
pub is_there : {V : Type 0} (k : ℕ) (es : List (ℕ × KeptSlot V)) → is_some (value_at k (shown es)) ≡ is_some (lookup (is_at (nat_cmp k)) es)
is_there {V} k es = ap is_some (shown_found k es (lookup (is_at (nat_cmp k)) es) refl) ∙ by_case (lookup (is_at (nat_cmp k)) es)
  where
    by_case : (o : Option (KeptSlot V)) → is_some (option_map (λ s. s.value) o) ≡ is_some o
    by_case None = refl
    by_case (Some s) = refl

-- what is not there is nothing
pub none_there : {A : Type 0} (o : Option A) → is_some o ≡ false → o ≡ None
none_there None h = refl
none_there (Some x) h = absurd (false≢true (sym h))

-- where nothing is among the rooms, each slot has a value
pub all_full : {V : Type 0} (ss : List (Slot V)) → Rise 0 ss → ((q : ℕ) → value_at q ss ≡ Some None → false ≡ true) → (q : ℕ) → HasSlot q ss → IsSome (value_at q (filled ss))
all_full {V} ss h n q s = rw (value_filled 0 q ss h) (by_case (value_at q ss) refl s)
  where
    by_case : (o : Option (Option V)) → value_at q ss ≡ o → IsSome o → IsSome (option_flatten o)
    by_case None e i = absurd (false≢true i)
    by_case (Some None) e i = absurd (false≢true (n q e))
    by_case (Some (Some v)) e i = refl

-- nothing is among none
pub none_among : (q : ℕ) (rooms : List ℕ) → length rooms ≡ 0 → list_any (λ r. eqb q r) rooms ≡ false
none_among q [] h = refl
none_among q (r ∷ rs) h = absurd (omega arith)
