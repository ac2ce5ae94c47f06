-- Taking in votes and positions, one after the other.
use Rattle.std.proofs.Common.{◌≡◌, ◌≢◌, ℕ, zero, suc, ◌+◌, ◌≤◌, ◌<◌, ◌⊎◌, inl, inr, Bool, true, false, ◌||◌, cond, arith, refl, sym, ap, ap₂, ◌∙◌, subst, List, [], ◌∷◌, ◌++◌, take, drop, length, get_or, Option, Some, None, is_some, eqb}
use Rattle.std.specs.Prelude.{remove}
use Rattle.std.proofs.Math.Seq.{drop-cons}
use Rattle.std.proofs.lemmas.Bool.{eq-eqb, ne_eqb, cases_eq}
use Rattle.ballots.specs.Values.{positions, IsRising}
use Rattle.ballots.specs.declared.value.Entry.{Entry}
use Rattle.ballots.specs.declared.value.Pair.{Pair}
use Rattle.ballots.specs.declared.value.Vote.{Vote}
use Rattle.paxos.specs.Knowledge.{higher}
use Rattle.paxos.specs.Proposing.{still_open}
use Rattle.paxos.specs.Records.{vote_at}
use Rattle.position_map.specs.Slots.{Slot, filled, value_at, HasSlot}
use Rattle.proposer.specs.Merging.{HaveRoom, HavePlaces, IsMerged, IsLearning}
use Rattle.proposer.specs.Beginning.{is_in}
use Rattle.proposer.specs.Inside.{IsWithin}
use Rattle.proposer.proofs.Positions.{rising_below}
use Rattle.proposer.specs.Views.{AreRising}

-- of entries some are left to take in, and the others were taken in
pub record Merges (all left : List Entry) (old now : List (Slot Vote)) : Type 0 where
  pub rising : AreRising 1 left
  pub places : HaveRoom left now
  pub reports : (p : ℕ) → higher (value_at p (filled now)) (vote_at p left) ≡ higher (value_at p (filled old)) (vote_at p all)
  pub room : (p : ℕ) → HasSlot p old → HasSlot p now
  pub within : IsWithin old → IsWithin now

-- what is known of the last of rising entries, and of those before it
pub parted : (k : ℕ) (es : List Entry) (e : Entry) → AreRising k (es ++ e ∷ []) → (AreRising k es) × (vote_at e.position es ≡ None) × (k ≤ e.position) × (e.position ≤ positions)
parted k [] e h = (tt, refl, h.0, h.1)
parted k (x ∷ es) e h =
    let r = parted (x.position + 1) es e h.2 in
    ((h.0, h.1, r.0), rw (ne_eqb e.position x.position (λ q. omega (arith, q, r.2))) r.1, omega (arith, h.0, r.2), r.3)

-- entries with one more at the end
vote_last : (p : ℕ) (es : List Entry) (e : Entry) → p ≢ e.position → vote_at p (es ++ e ∷ []) ≡ vote_at p es
vote_last p [] e n = rw (ne_eqb p e.position n) refl
vote_last p (x ∷ es) e n = ap (cond (eqb p x.position) (Some x.vote)) (vote_last p es e n)

vote_there : (es : List Entry) (e : Entry) → vote_at e.position es ≡ None → vote_at e.position (es ++ e ∷ []) ≡ Some e.vote
vote_there [] e h = rw (eq-eqb e.position e.position refl) refl
vote_there (x ∷ es) e h = by_test (λ k. vote_there es e k) (eqb e.position x.position) h
  where
    by_test : (vote_at e.position es ≡ None → vote_at e.position (es ++ e ∷ []) ≡ Some e.vote) → (b : Bool) → cond b (Some x.vote) (vote_at e.position es) ≡ None → cond b (Some x.vote) (vote_at e.position (es ++ e ∷ [])) ≡ Some e.vote
    by_test rest true h = let f : ⊥ = cc in absurd f
    by_test rest false h = rest h

-- no vote leaves what is reported
pub higher_none : (r : Option Vote) → higher r None ≡ r
higher_none None = refl
higher_none (Some a) = refl

-- room for the last
pub last_room : (es : List Entry) (e : Entry) (ss : List (Slot Vote)) → HaveRoom (es ++ e ∷ []) ss → (HaveRoom es ss) × HasSlot e.position ss
last_room [] e ss h = (tt, h.0)
last_room (x ∷ es) e ss h = let r = last_room es e ss h.1 in ((h.0, r.0), r.1)

-- room stays room
pub room_kept : (es : List Entry) (ss us : List (Slot Vote)) → ((p : ℕ) → HasSlot p ss → HasSlot p us) → HaveRoom es ss → HaveRoom es us
room_kept [] ss us k h = tt
room_kept (x ∷ es) ss us k h = (k x.position h.0, room_kept es ss us k h.1)

-- at first all are left
pub merge_first : (all : List Entry) (old : List (Slot Vote)) → AreRising 1 all → HaveRoom all old → Merges all all old old
merge_first all old h r = record { rising = h; places = r; reports = λ p. refl; room = λ p s. s; within = λ w. w }

-- one entry more is taken in
pub merge_more : (all left more : List Entry) (e : Entry) (old now new : List (Slot Vote)) → more ≡ left ++ e ∷ [] → Merges all more old now → IsMerged (e ∷ []) now new → Merges all left old new
merge_more all left more e old now new f m i =
    let rising : AreRising 1 (left ++ e ∷ []) = subst (AreRising 1) f m.rising in
    record {
      rising = (parted 1 left e rising).0;
      places = room_kept left now new i.room (last_room left e now (subst (λ es. HaveRoom es now) f m.places)).0;
      reports = λ p. at rising p (cases_eq p e.position) ∙ ap (λ es. higher (value_at p (filled now)) (vote_at p es)) (sym f) ∙ m.reports p;
      room = λ p s. i.room p (m.room p s);
      within = λ w. i.within (m.within w);
    }
  where
    at : AreRising 1 (left ++ e ∷ []) → (p : ℕ) → (p ≡ e.position) ⊎ (p ≡ e.position → ⊥) → higher (value_at p (filled new)) (vote_at p left) ≡ higher (value_at p (filled now)) (vote_at p (left ++ e ∷ []))
    at h p (inl q) =
        let none : vote_at p left ≡ None = ap (λ k. vote_at k left) q ∙ (parted 1 left e h).1 in
        let there : vote_at p (left ++ e ∷ []) ≡ Some e.vote = ap (λ k. vote_at k (left ++ e ∷ [])) q ∙ vote_there left e (parted 1 left e h).1 in
        ap₂ higher (i.reports p ∙ ap (λ b. higher (value_at p (filled now)) (cond b (Some e.vote) None)) (eq-eqb p e.position q)) none ∙ higher_none (higher (value_at p (filled now)) (Some e.vote)) ∙ ap (higher (value_at p (filled now))) (sym there)
    at h p (inr n) = ap₂ higher (i.reports p ∙ ap (λ b. higher (value_at p (filled now)) (cond b (Some e.vote) None)) (ne_eqb p e.position n) ∙ higher_none (value_at p (filled now))) (sym (vote_last p left e n))

-- all are taken in
pub merge_done : (all : List Entry) (left : List Entry) (old now : List (Slot Vote)) → left ≡ [] → Merges all left old now → IsMerged all old now
merge_done all left old now f m = record {
  reports = λ p. sym (higher_none (value_at p (filled now))) ∙ ap (λ es. higher (value_at p (filled now)) (vote_at p es)) (sym f) ∙ m.reports p;
  room = m.room;
  within = m.within;
}

-- of positions some are left to learn, and the others were learnt
pub record Learns (all left : List ℕ) (old now : List (Slot (Unit {0}))) : Type 0 where
  pub rising : IsRising 1 left
  pub places : HavePlaces left now
  pub learnt : (p : ℕ) → (is_some (value_at p (filled now)) || is_in p left) ≡ (is_some (value_at p (filled old)) || is_in p all)
  pub room : (p : ℕ) → HasSlot p old → HasSlot p now
  pub within : IsWithin old → IsWithin now

-- at first all are left
pub learn_first : (all : List ℕ) (old : List (Slot (Unit {0}))) → IsRising 1 all → HavePlaces all old → Learns all all old old
learn_first all old h r = record { rising = h; places = r; learnt = λ p. refl; room = λ p s. s; within = λ w. w }

-- a position is put into the map
pub record IsPut (q : ℕ) (now new : List (Slot (Unit {0}))) : Type 0 where
  pub put : (p : ℕ) → value_at p (filled new) ≡ cond (eqb p q) (Some tt) (value_at p (filled now))
  pub others : (p : ℕ) → HasSlot p now → HasSlot p new

-- places stay places
pub places_kept : (ps : List ℕ) (ss us : List (Slot (Unit {0}))) → ((p : ℕ) → HasSlot p ss → HasSlot p us) → HavePlaces ps ss → HavePlaces ps us
places_kept [] ss us k h = tt
places_kept (x ∷ ps) ss us k h = (k x h.0, places_kept ps ss us k h.1)

-- one position more is learnt
pub learn_more : (all left more : List ℕ) (q : ℕ) (old now new : List (Slot (Unit {0}))) → more ≡ q ∷ left → Learns all more old now → IsPut q now new → Learns all left old new
learn_more all left more q old now new f m i =
    let rising : IsRising 1 (q ∷ left) = subst (IsRising 1) f m.rising in
    let places : HavePlaces (q ∷ left) now = subst (λ ps. HavePlaces ps now) f m.places in
    record {
      rising = rising_below 1 (q + 1) left (omega arith) rising.2;
      places = places_kept left now new i.others places.1;
      learnt = λ p. rw (i.put p) (by_test (eqb p q) (value_at p (filled now)) (is_in p left)) ∙ ap (λ ps. is_some (value_at p (filled now)) || is_in p ps) (sym f) ∙ m.learnt p;
      room = λ p s. i.others p (m.room p s);
      within = λ w p l. i.put p ∙ ap (λ b. cond b (Some tt) (value_at p (filled now))) (ne_eqb p q (λ e. omega (arith, e, l, rising.1))) ∙ m.within w p l;
    }
  where
    by_test : (b : Bool) (o : Option (Unit {0})) (r : Bool) → (is_some (cond b (Some tt) o) || r) ≡ (is_some o || (b || r))
    by_test true (Some x) r = refl
    by_test true None r = refl
    by_test false o r = refl

-- all are learnt
pub learn_done : (all left : List ℕ) (old now : List (Slot (Unit {0}))) → left ≡ [] → Learns all left old now → IsLearning all old now
learn_done all left old now f m = record {
  learnt = λ p. sym (or_none (is_some (value_at p (filled now)))) ∙ ap (λ ps. is_some (value_at p (filled now)) || is_in p ps) (sym f) ∙ m.learnt p;
  room = m.room;
  within = m.within;
}
  where
    or_none : (b : Bool) → (b || false) ≡ b
    or_none true = refl
    or_none false = refl

-- Closing goes from the left: what stands before a place is kept, and what stands after it is still to be looked at.
module _ (is_learnt : ℕ → Bool) where
  pub close_there : (i : ℕ) (xs : List Pair) (d : Pair) → i < length xs → is_learnt (get_or xs i d).position ≡ true
      → take i (remove xs i) ++ still_open is_learnt (drop i (remove xs i)) ≡ take i xs ++ still_open is_learnt (drop i xs)
  close_there i [] d l h = absurd (let e : ⊥ = omega (arith, l) in e)
  close_there zero (x ∷ xs) d l h = rw h refl
  close_there (suc i) (x ∷ xs) d l h = ap (λ ys. x ∷ ys) (close_there i xs d (omega (arith, l)) h)

  leave_next : (i : ℕ) (xs : List Pair) (d : Pair) → i < length xs → is_learnt (get_or xs i d).position ≡ false
      → take (suc i) xs ++ still_open is_learnt (drop (suc i) xs) ≡ take i xs ++ still_open is_learnt (drop i xs)
  leave_next i [] d l h = absurd (let e : ⊥ = omega (arith, l) in e)
  leave_next zero (x ∷ xs) d l h = rw h refl
  leave_next (suc i) (x ∷ xs) d l h = ap (λ ys. x ∷ ys) (leave_next i xs d (omega (arith, l)) h)

  pub leave_there : (i : ℕ) (xs : List Pair) (d : Pair) → i < length xs → is_learnt (get_or xs i d).position ≡ false
      → take (i + 1) xs ++ still_open is_learnt (drop (i + 1) xs) ≡ take i xs ++ still_open is_learnt (drop i xs)
  leave_there i xs d l h = let n : i + 1 ≡ suc i = omega arith in rw n (leave_next i xs d l h)

-- Room is made from the left: if there is room for the rest in slots that have at least these, there is for all.
abbrev pub Rooms : List Entry → List Entry → List (Slot Vote) → Type 0
Rooms all rest ss = (us : List (Slot Vote)) → ((p : ℕ) → HasSlot p ss → HasSlot p us) → HaveRoom rest us → HaveRoom all us

abbrev pub Places : List ℕ → List ℕ → List (Slot (Unit {0})) → Type 0
Places all rest ss = (us : List (Slot (Unit {0}))) → ((p : ℕ) → HasSlot p ss → HasSlot p us) → HavePlaces rest us → HavePlaces all us

pub room_more : (all rest more : List Entry) (e : Entry) (ss us : List (Slot Vote)) → more ≡ e ∷ rest → Rooms all more ss → HasSlot e.position us → ((p : ℕ) → HasSlot p ss → HasSlot p us) → Rooms all rest us
room_more all rest more e ss us f r s k = λ vs m h. r vs (λ p t. m p (k p t)) (subst (λ es. HaveRoom es vs) (sym f) (m e.position s, h))

pub place_more : (all rest more : List ℕ) (q : ℕ) (ss us : List (Slot (Unit {0}))) → more ≡ q ∷ rest → Places all more ss → HasSlot q us → ((p : ℕ) → HasSlot p ss → HasSlot p us) → Places all rest us
place_more all rest more q ss us f r s k = λ vs m h. r vs (λ p t. m p (k p t)) (subst (λ ps. HavePlaces ps vs) (sym f) (m q s, h))

-- entries from one of their places on
pub entries_from : (i : ℕ) (es : List Entry) (e : Entry) → i < length es → e ≡ get_or es i e → drop i es ≡ e ∷ drop (i + 1) es
entries_from i es e l f = let n : suc i ≡ i + 1 = omega arith in drop-cons es i e l ∙ ap₂ (λ x k. x ∷ drop k es) (sym f) n

-- entries that rise from somewhere rise from below
entries_below : (k n : ℕ) (es : List Entry) → k ≤ n → AreRising n es → AreRising k es
entries_below k n [] l h = tt
entries_below k n (e ∷ es) l h = (omega (arith, l, h.0), h.1, h.2)

-- what is left of rising entries once one is taken
pub entries_rest : (i : ℕ) (es : List Entry) (e : Entry) → i < length es → e ≡ get_or es i e → AreRising 1 (drop i es) → AreRising 1 (drop (i + 1) es)
entries_rest i es e l f h =
    let t : AreRising 1 (e ∷ drop (i + 1) es) = subst (AreRising 1) (entries_from i es e l f) h in
    entries_below 1 (e.position + 1) (drop (i + 1) es) (omega arith) t.2
