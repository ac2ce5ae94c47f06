-- A copy of slots, each with a clone of its value.
use Rattle.std.proofs.Common.{◌≡◌, ℕ, Bool, true, false, cond, refl, sym, ap, ◌∙◌, List, [], ◌∷◌, Option, Some, None, is_some, eqb}
use Rattle.std.proofs.lemmas.Bool.{false≢true}
use Rattle.std.specs.Prelude.{MatchOption, IsSomeAnd}
use Rattle.std.specs.List.{AllZip}
use Rattle.std.specs.Option.{option_map, option_flatten}
use Rattle.position_map.specs.declared.slot.Slot.{Slot as KeptSlot}
use Rattle.position_map.specs.Slots.{filled, value_at, Rise}
use Rattle.position_map.specs.Ends.{shown, end_in, end_at, IsKept, IsSlotCopy}
use Rattle.position_map.proofs.Filling.{shown_at, value_filled}
use Rattle.position_map.proofs.Joining.{knows_same}

-- the one list is a copy of the other
abbrev pub AreCopies : {V : Type 0} → (V → V → Type 0) → List (ℕ × KeptSlot V) → List (ℕ × KeptSlot V) → Type 0
AreCopies C es fs = AllZip (λ p q. (q.0 ≡ p.0) × IsSlotCopy C p.1 q.1) es fs

-- whether a slot, if there is one, has a value
abbrev kind : {V : Type 0} → Option (KeptSlot V) → Option Bool
kind o = option_map (λ s. is_some s.value) o

-- a copy of a slot has a value where the slot has one
kind_copy : {V : Type 0} (C : V → V → Type 0) (o p : Option V) → MatchOption o (p ≡ None) (λ v. IsSomeAnd p (C v)) → is_some p ≡ is_some o
kind_copy C None p h = ap is_some h
kind_copy C (Some v) None h = absurd h
kind_copy C (Some v) (Some w) h = refl

-- at each position a copy knows the same end, and has a value where there was one
at_copy : {V : Type 0} (C : V → V → Type 0) (q : ℕ) (es fs : List (ℕ × KeptSlot V)) → AreCopies C es fs → (end_in (value_at q fs) ≡ end_in (value_at q es)) × (kind (value_at q fs) ≡ kind (value_at q es))
at_copy C q [] [] h = (refl, refl)
at_copy C q [] (f ∷ fs) h = absurd h
at_copy C q (e ∷ es) [] h = absurd h
at_copy {V} C q (e ∷ es) (f ∷ fs) h = by_test (at_copy C q es fs h.1) (eqb q e.0) (eqb q f.0) (ap (eqb q) h.0.0)
  where
    by_test : (end_in (value_at q fs) ≡ end_in (value_at q es)) × (kind (value_at q fs) ≡ kind (value_at q es)) → (a b : Bool) → b ≡ a → (end_in (cond b (Some f.1) (value_at q fs)) ≡ end_in (cond a (Some e.1) (value_at q es))) × (kind (cond b (Some f.1) (value_at q fs)) ≡ kind (cond a (Some e.1) (value_at q es)))
    by_test rest true true i = (h.0.1.0, ap (λ (b : Bool). Some b) (kind_copy C e.1.value f.1.value h.0.1.1))
    by_test rest true false i = absurd (false≢true i)
    by_test rest false true i = absurd (false≢true (sym i))
    by_test rest false false i = rest

-- its positions rise as before
rise_copy : {V : Type 0} (C : V → V → Type 0) (p : ℕ) (es fs : List (ℕ × KeptSlot V)) → AreCopies C es fs → Rise p (shown es) → Rise p (shown fs)
rise_copy C p [] [] h r = tt
rise_copy C p [] (f ∷ fs) h r = absurd h
rise_copy C p (e ∷ es) [] h r = absurd h
rise_copy C p (e ∷ es) (f ∷ fs) h r = rw h.0.0 (r.0, rise_copy C e.0 es fs h.1 r.1)

-- what a slot shows, by whether it has a value
none_copy : {V : Type 0} (o p : Option (KeptSlot V)) → kind o ≡ kind p → option_map (λ s. s.value) p ≡ None → option_map (λ s. s.value) o ≡ None
none_copy None p h e = refl
none_copy (Some s) None h e = absurd (false≢true (sym (ap is_some h)))
none_copy (Some s) (Some t) h e = absurd (false≢true (sym (ap is_some e)))

some_copy : {V : Type 0} (o p : Option (KeptSlot V)) → kind o ≡ kind p → is_some (option_flatten (option_map (λ s. s.value) o)) ≡ is_some (option_flatten (option_map (λ s. s.value) p))
some_copy None None h = refl
some_copy None (Some t) h = absurd (false≢true (ap is_some h))
some_copy (Some s) None h = absurd (false≢true (sym (ap is_some h)))
some_copy {V} (Some s) (Some t) h = by_value s.value t.value (ap is_true h)
  where
    is_true : Option Bool → Bool
    is_true None = false
    is_true (Some b) = b

    by_value : (v w : Option V) → is_some v ≡ is_some w → is_some v ≡ is_some w
    by_value v w e = e

room_copy : {V : Type 0} (o p : Option (KeptSlot V)) → kind o ≡ kind p → option_map (λ s. s.value) o ≡ Some None → option_map (λ s. s.value) p ≡ Some None
room_copy None p h e = absurd (false≢true (ap is_some e))
room_copy (Some s) None h e = absurd (false≢true (sym (ap is_some h)))
room_copy {V} (Some s) (Some t) h e = ap (λ (o : Option V). Some o) (none t.value (sym (some_copy (Some s) (Some t) h) ∙ ap (λ (x : Option (Option V)). is_some (option_flatten x)) e))
  where
    none : (v : Option V) → is_some v ≡ false → v ≡ None
    none None i = refl
    none (Some v) i = absurd (false≢true (sym i))

-- What held of the map holds of its copy.
pub kept_copy : {V : Type 0} (C : V → V → Type 0) (rooms : List ℕ) (es fs : List (ℕ × KeptSlot V)) → AreCopies C es fs → IsKept rooms es → IsKept rooms fs
kept_copy {V} C rooms es fs h k = record {
  rise = rise;
  fits = λ q l. shown_at q fs ∙ none_copy (value_at q fs) (value_at q es) (at_copy C q es fs h).1 (sym (shown_at q es) ∙ k.fits q l);
  among = λ q e. k.among q (shown_at q es ∙ room_copy (value_at q fs) (value_at q es) (at_copy C q es fs h).1 (sym (shown_at q fs) ∙ e));
  ends = knows_same (filled (shown es)) (filled (shown fs)) (λ q. end_at q es) (λ q. end_at q fs) some (λ q. (at_copy C q es fs h).0) k.ends;
}
  where
    rise : Rise 0 (shown fs)
    rise = rise_copy C 0 es fs h k.rise

    there : (gs : List (ℕ × KeptSlot V)) (q : ℕ) → Rise 0 (shown gs) → is_some (value_at q (filled (shown gs))) ≡ is_some (option_flatten (option_map (λ (s : KeptSlot V). s.value) (value_at q gs)))
    there gs q r = ap is_some (value_filled 0 q (shown gs) r ∙ ap option_flatten (shown_at q gs))

    some : (q : ℕ) → is_some (value_at q (filled (shown fs))) ≡ is_some (value_at q (filled (shown es)))
    some q = there fs q rise ∙ some_copy (value_at q fs) (value_at q es) (at_copy C q es fs h).1 ∙ sym (there es q k.rise)

-- where clones equal, a copy shows the same
pub same_copy : {V : Type 0} (C : V → V → Type 0) (es fs : List (ℕ × KeptSlot V)) → ((x y : V) → C x y → y ≡ x) → AreCopies C es fs → shown fs ≡ shown es
same_copy C [] [] g h = refl
same_copy C [] (f ∷ fs) g h = absurd h
same_copy C (e ∷ es) [] g h = absurd h
same_copy {V} C (e ∷ es) (f ∷ fs) g h = λ i. (h.0.0 i, value e.1.value f.1.value h.0.1.1 i) ∷ same_copy C es fs g h.1 i
  where
    value : (o p : Option V) → MatchOption o (p ≡ None) (λ v. IsSomeAnd p (C v)) → p ≡ o
    value None p i = i
    value (Some v) None i = absurd i
    value (Some v) (Some w) i = ap (λ x. Some x) (g v w i)
