-- Votes by position in a map, as the entries of a record.
use Rattle.std.proofs.Common.{◌≡◌, ℕ, zero, suc, ◌+◌, ◌-◌, ◌<◌, ◌≤◌, Bool, true, false, cond, arith, refl, sym, ap, ◌∙◌, ◌⊎◌, inl, inr, Option, Some, None, List, [], ◌∷◌, ◌++◌, length, length-append, take, take_all, append-nil, append_assoc, get_or, ltb-true, ltb-false, eqb, ltb, lt-ltb, IsSome, is_some, true≢false}
use Rattle.std.specs.Prelude.{MatchOption}
use Rattle.std.proofs.lemmas.Bool.{eq-eqb, ne_eqb, cases_eq}
use Rattle.std.proofs.lemmas.Bool.Decides.{nat_tests}
use Rattle.std.proofs.lemmas.List.{take-append-le}
use Rattle.ballots.specs.declared.value.Vote.{Vote}
use Rattle.ballots.specs.declared.value.Entry.{Entry}
use Rattle.ballots.specs.Values.{positions}
use Rattle.ballots.specs.declared.ballot.Ballot.{Ballot}
use Rattle.paxos.specs.Records.{vote_at, with_vote, since, covered_by, window}
use Rattle.paxos.proofs.Votes.{Above, Rising, vote_same, vote_other, rising_with}
use Rattle.position_map.specs.Slots.{Slot, with_slot, filled, value_at, Rise, IsNext}
use Rattle.records.specs.Kept.{AreAbove, entries_of}

-- a number is not below one that is at most it
ltb_not : (m n : ℕ) → n ≤ m → ltb m n ≡ false
ltb_not m n h = grind (arith, nat_tests)

-- what is above a position is above those below it
rise_lower : {A : Type 0} (p q : ℕ) (es : List (ℕ × A)) → p ≤ q → Rise q es → Rise p es
rise_lower p q [] l h = tt
rise_lower p q (e ∷ es) l h = let a = h.0 in (omega arith, h.1)

-- the values of slots rise as the slots do
rise_filled : {V : Type 0} (p : ℕ) (ss : List (Slot V)) → Rise p ss → Rise p (filled ss)
rise_filled p [] h = tt
rise_filled {V} p (s ∷ ss) h = by_value (rise_filled s.0 ss h.1) s.1
  where
    by_value : Rise s.0 (filled ss) → (o : Option V) → Rise p (with_slot s.0 o (filled ss))
    by_value rest None = rise_lower p s.0 (filled ss) (let a = h.0 in omega arith) rest
    by_value rest (Some v) = (h.0, rest)

-- the entries rise as the votes do
above_entries : (p : ℕ) (es : List (ℕ × Vote)) → Rise p es → AreAbove p (entries_of es)
above_entries p [] h = tt
above_entries p (e ∷ es) h = (h.0, above_entries e.0 es h.1)

above_also : (p : ℕ) (es : List (ℕ × Vote)) → Rise p es → Above p (entries_of es)
above_also p [] h = tt
above_also p (e ∷ es) h = (h.0, above_also e.0 es h.1)

rising_entries : (p : ℕ) (es : List (ℕ × Vote)) → Rise p es → Rising (entries_of es)
rising_entries p [] h = tt
rising_entries p (e ∷ es) h = above_also e.0 es h.1

-- The entries of slots rise by position.
pub above_filled : (p : ℕ) (ss : List (Slot Vote)) → Rise p ss → AreAbove p (entries_of (filled ss))
above_filled p ss h = above_entries p (filled ss) (rise_filled p ss h)

-- The vote at a position is the value there.
pub vote_entry : (q : ℕ) (es : List (ℕ × Vote)) → vote_at q (entries_of es) ≡ value_at q es
vote_entry q [] = refl
vote_entry q (e ∷ es) = ap (cond (eqb q e.0) (Some e.1)) (vote_entry q es)

-- no vote stands below the first
no_vote : (k p : ℕ) (es : List Entry) → k ≤ p → Above p es → vote_at k es ≡ None
no_vote k p [] l h = refl
no_vote k p (e ∷ es) l h = let a = h.0 in rw (ne_eqb k e.position (λ q. omega arith)) (no_vote k e.position es (omega arith) h.1)

-- what has a vote is not without one
clash : {B : Type 0} {v : Vote} (o : Option Vote) → o ≡ Some v → o ≡ None → B
clash None e n = absurd (true≢false (sym (ap is_some e)))
clash (Some w) e n = absurd (true≢false (ap is_some n))

-- the first of votes is at its position
at_first : (e : Entry) (es : List Entry) → vote_at e.position (e ∷ es) ≡ Some e.vote
at_first e es = rw (eq-eqb e.position e.position refl)

-- and no other list of votes that rise above it has one there
first_least : (e f : Entry) (fs : List Entry) → Above f.position fs → e.position < f.position → vote_at e.position (f ∷ fs) ≡ None
first_least e f fs h l = rw (ne_eqb e.position f.position (λ q. omega arith)) (no_vote e.position f.position fs (omega arith) h)

-- the votes above one that stands first rise
rest_rising : (p : ℕ) (es : List Entry) → Above p es → Rising es
rest_rising p [] h = tt
rest_rising p (e ∷ es) h = h.1

-- Votes that rise are given by the vote at each position.
same_votes : (es fs : List Entry) → Rising es → Rising fs → ((k : ℕ) → vote_at k es ≡ vote_at k fs) → es ≡ fs
same_votes [] [] g h s = refl
same_votes [] (f ∷ fs) g h s = clash (vote_at f.position (f ∷ fs)) (at_first f fs) (sym (s f.position))
same_votes (e ∷ es) [] g h s = clash (vote_at e.position (e ∷ es)) (at_first e es) (s e.position)
same_votes (e ∷ es) (f ∷ fs) g h s = by_order (same_votes es fs (rest_rising e.position es g) (rest_rising f.position fs h)) (ltb e.position f.position) (ltb f.position e.position) refl refl
  where
    of_some : {v w : Vote} → Some v ≡ Some w → v ≡ w
    of_some q = cc

    one : e.position ≡ f.position → e ≡ f
    one q =
        let v : e.vote ≡ f.vote = of_some (sym (at_first e es) ∙ s e.position ∙ ap (λ k. vote_at k (f ∷ fs)) q ∙ at_first f fs) in
        λ i. record { position = q i; vote = v i }

    rest : e.position ≡ f.position → (k : ℕ) → (k ≡ e.position) ⊎ (k ≡ e.position → ⊥) → vote_at k es ≡ vote_at k fs
    rest q k (inl i) = no_vote k e.position es (omega arith) g ∙ sym (no_vote k f.position fs (omega arith) h)
    rest q k (inr n) =
        let a : vote_at k (e ∷ es) ≡ vote_at k es = rw (ne_eqb k e.position n) in
        let b : vote_at k (f ∷ fs) ≡ vote_at k fs = rw (ne_eqb k f.position (λ i. n (i ∙ sym q))) in
        sym a ∙ s k ∙ b

    equal : (((k : ℕ) → vote_at k es ≡ vote_at k fs) → es ≡ fs) → e.position ≡ f.position → e ∷ es ≡ f ∷ fs
    equal more q = let r = more (λ k. rest q k (cases_eq k e.position)) in let o = one q in λ i. o i ∷ r i

    by_order : (((k : ℕ) → vote_at k es ≡ vote_at k fs) → es ≡ fs) → (a b : Bool) → ltb e.position f.position ≡ a → ltb f.position e.position ≡ b → e ∷ es ≡ f ∷ fs
    by_order more true b i j = clash (vote_at e.position (e ∷ es)) (at_first e es) (s e.position ∙ first_least e f fs h (ltb-true e.position f.position i))
    by_order more false true i j = clash (vote_at f.position (f ∷ fs)) (at_first f fs) (sym (s f.position) ∙ first_least f e es g (ltb-true f.position e.position j))
    by_order more false false i j = equal more (omega (arith, ltb-false e.position f.position i, ltb-false f.position e.position j))

-- A vote put at a position of a map is put at its place among the entries.
pub put_entries : (k : ℕ) (v : Vote) (ss ts us : List (Slot Vote)) → Rise 0 ss → Rise 0 us → filled us ≡ filled ts → ((q : ℕ) → value_at q (filled ts) ≡ cond (eqb q k) (Some v) (value_at q (filled ss))) → entries_of (filled us) ≡ with_vote k v (entries_of (filled ss))
put_entries k v ss ts us h g e put =
    same_votes (entries_of (filled us)) (with_vote k v old) (rising_entries 0 (filled us) (rise_filled 0 us g)) (rising_with k v old (rising_entries 0 (filled ss) (rise_filled 0 ss h))) (λ q. vote_entry q (filled us) ∙ ap (value_at q) e ∙ put q ∙ by_test q (cases_eq q k))
  where
    old : List Entry
    old = entries_of (filled ss)

    by_test : (q : ℕ) → (q ≡ k) ⊎ (q ≡ k → ⊥) → cond (eqb q k) (Some v) (value_at q (filled ss)) ≡ vote_at q (with_vote k v old)
    by_test q (inl i) = rw (eq-eqb q k i) (sym (ap (λ p. vote_at p (with_vote k v old)) i ∙ vote_same k v old))
    by_test q (inr n) = rw (ne_eqb q k n) (sym (vote_other k q v old n ∙ vote_entry q (filled ss)))

-- a vote of the rest is one of all, but at the first position
later : (q : ℕ) (e : Entry) (es : List Entry) → (q ≡ e.position → ⊥) → vote_at q (e ∷ es) ≡ None → vote_at q es ≡ None
later q e es n h = rw (ne_eqb q e.position n) at h

-- where there is no vote from p to below n, the votes from p on are those from n on
since_same : (p n : ℕ) (es : List Entry) → p ≤ n → ((q : ℕ) → p ≤ q → q < n → vote_at q es ≡ None) → since p es ≡ since n es
since_same p n [] l h = refl
since_same p n (e ∷ es) l h = by_test (λ m. since_same p n es l (λ q a b. later q e es (λ i. omega arith) (h q a b))) (ltb e.position p) (ltb e.position n) refl refl
  where
    by_test : (e.position < p → since p es ≡ since n es) → (a b : Bool) → ltb e.position p ≡ a → ltb e.position n ≡ b → cond a (since p es) (e ∷ es) ≡ cond b (since n es) (e ∷ es)
    by_test rest true true i j = rest (ltb-true e.position p i)
    by_test rest true false i j = let x = ltb-true e.position p i in let y = ltb-false e.position n j in absurd (omega arith)
    by_test rest false true i j = clash (vote_at e.position (e ∷ es)) (at_first e es) (h e.position (ltb-false e.position p i) (ltb-true e.position n j))
    by_test rest false false i j = refl

-- where there is none from p on, there are none
since_none : (p : ℕ) (es : List Entry) → ((q : ℕ) → p ≤ q → vote_at q es ≡ None) → since p es ≡ []
since_none p [] h = refl
since_none p (e ∷ es) h = by_test (λ m. since_none p es (λ q a. later q e es (λ i. omega arith) (h q a))) (ltb e.position p) refl
  where
    by_test : (e.position < p → since p es ≡ []) → (a : Bool) → ltb e.position p ≡ a → cond a (since p es) (e ∷ es) ≡ []
    by_test rest true i = rest (ltb-true e.position p i)
    by_test rest false i = clash (vote_at e.position (e ∷ es)) (at_first e es) (h e.position (ltb-false e.position p i))

-- votes that are all above a position are all kept
since_all : (p q : ℕ) (es : List Entry) → q ≤ suc p → Above p es → since q es ≡ es
since_all p q [] l h = refl
since_all p q (e ∷ es) l h = let a = h.0 in rw (ltb_not e.position q (omega arith))

-- the votes from a position on that has one begin with it
since_at : (p : ℕ) (v : Vote) (es : List Entry) → Rising es → vote_at p es ≡ Some v → since p es ≡ record { position = p; vote = v } ∷ since (suc p) es
since_at p v [] h i = absurd (true≢false (sym (ap is_some i)))
since_at p v (e ∷ es) h i = by_test (since_at p v es (rest_rising e.position es h)) (cases_eq p e.position)
  where
    of_some : {w u : Vote} → Some w ≡ Some u → w ≡ u
    of_some q = cc

    here : p ≡ e.position → since p (e ∷ es) ≡ record { position = p; vote = v } ∷ since (suc p) (e ∷ es)
    here q =
        let w : v ≡ e.vote = of_some (sym i ∙ ap (λ k. vote_at k (e ∷ es)) q ∙ at_first e es) in
        let a : since p (e ∷ es) ≡ e ∷ es = rw (ltb_not e.position p (omega arith)) in
        let b : since (suc p) (e ∷ es) ≡ es = rw (lt-ltb e.position (suc p) (omega arith)) (since_all e.position (suc p) es (omega arith) h) in
        a ∙ sym (λ j. record { position = q j; vote = w j } ∷ b j)

    there : (vote_at p es ≡ Some v → since p es ≡ record { position = p; vote = v } ∷ since (suc p) es) → (p ≡ e.position → ⊥) → e.position < p → since p (e ∷ es) ≡ record { position = p; vote = v } ∷ since (suc p) (e ∷ es)
    there rest n l =
        let k : vote_at p es ≡ Some v = rw (ne_eqb p e.position n) at i in
        let a : since p (e ∷ es) ≡ since p es = rw (lt-ltb e.position p l) in
        let b : since (suc p) (e ∷ es) ≡ since (suc p) es = rw (lt-ltb e.position (suc p) (omega arith)) in
        a ∙ rest k ∙ ap (λ (gs : List Entry). record { position = p; vote = v } ∷ gs) (sym b)

    below : (vote_at p es ≡ Some v → since p es ≡ record { position = p; vote = v } ∷ since (suc p) es) → (p ≡ e.position → ⊥) → (a : Bool) → ltb e.position p ≡ a → since p (e ∷ es) ≡ record { position = p; vote = v } ∷ since (suc p) (e ∷ es)
    below rest n true j = there rest n (ltb-true e.position p j)
    below rest n false j = clash (vote_at p (e ∷ es)) i (rw (ne_eqb p e.position n) (no_vote p e.position es (let l = ltb-false e.position p j in omega arith) h))

    by_test : (vote_at p es ≡ Some v → since p es ≡ record { position = p; vote = v } ∷ since (suc p) es) → (p ≡ e.position) ⊎ (p ≡ e.position → ⊥) → since p (e ∷ es) ≡ record { position = p; vote = v } ∷ since (suc p) (e ∷ es)
    by_test rest (inl q) = here q
    by_test rest (inr n) = below rest n (ltb e.position p) refl

-- the votes from the next position on, none where there is no next one
abbrev pub rest_of : Option ℕ → List Entry → List Entry
rest_of None es = []
rest_of (Some p) es = since p es

-- the next position has a vote
abbrev pub HasNext : Option ℕ → List Entry → Type 0
HasNext None es = Unit {0}
HasNext (Some p) es = IsSome (vote_at p es)

-- the next position at or above p, if there is one
abbrev pub IsNextOf : Option ℕ → (p : ℕ) → List (ℕ × Vote) → Type 0
IsNextOf o p es = MatchOption o ((q : ℕ) → p ≤ q → value_at q es ≡ None) (λ next. IsNext es p next)

-- the votes from it on are those from p on
pub next_rest : (o : Option ℕ) (p : ℕ) (es : List (ℕ × Vote)) → IsNextOf o p es → rest_of o (entries_of es) ≡ since p (entries_of es)
next_rest None p es h = sym (since_none p (entries_of es) (λ q l. vote_entry q es ∙ h q l))
next_rest (Some n) p es h = sym (since_same p n (entries_of es) h.least (λ q l m. vote_entry q es ∙ h.first q l m))

pub next_there : (o : Option ℕ) (p : ℕ) (es : List (ℕ × Vote)) → IsNextOf o p es → HasNext o (entries_of es)
next_there None p es h = tt
next_there (Some n) p es h = rw (vote_entry n es) h.there

-- the next position above p
pub next_above : (o : Option ℕ) (p : ℕ) (es : List (ℕ × Vote)) → MatchOption o ((q : ℕ) → p < q → value_at q es ≡ None) (λ next. IsNext es (suc p) next) → IsNextOf o (suc p) es
next_above None p es h = λ q l. h q (omega arith)
next_above (Some n) p es h = h

-- one more vote of a window
pub window_step : (p from : ℕ) (v : Vote) (o : Option ℕ) (votes es : List Entry) → Rising votes → vote_at p votes ≡ Some v → rest_of o votes ≡ since (suc p) votes → es ++ since p votes ≡ since from votes → (es ++ record { position = p; vote = v } ∷ []) ++ rest_of o votes ≡ since from votes
window_step p from v o votes es h i r e =
    append_assoc es (record { position = p; vote = v } ∷ []) (rest_of o votes)
    ∙ ap (λ (fs : List Entry). es ++ record { position = p; vote = v } ∷ fs) r ∙ ap (λ (fs : List Entry). es ++ fs) (sym (since_at p v votes h i)) ∙ e

-- where there are no more votes than were asked for, they are all that there is
covered_all : (k : ℕ) (es : List Entry) → length es ≤ suc k → covered_by (suc k) es ≡ positions
covered_all zero [] h = refl
covered_all (suc k) [] h = refl
covered_all zero (e ∷ []) h = refl
covered_all zero (e ∷ f ∷ es) h = absurd (omega arith)
covered_all (suc k) (e ∷ es) h = covered_all k es (omega arith)

-- where there are more, the last of those that were asked for covers its position
covered_some : (k : ℕ) (es fs : List Entry) (f d : Entry) → length es ≡ suc k → covered_by (suc k) (es ++ f ∷ fs) ≡ (get_or es k d).position
covered_some k [] fs f d h = absurd (omega arith)
covered_some zero (e ∷ []) fs f d h = refl
covered_some zero (e ∷ g ∷ es) fs f d h = absurd (omega arith)
covered_some (suc k) (e ∷ es) fs f d h = covered_some k es fs f d (omega arith)

-- the beginning of two lists is the first
take_front : (es fs : List Entry) (n : ℕ) → length es ≡ n → take n (es ++ fs) ≡ es
take_front es fs n h = take-append-le n es fs (omega arith) ∙ take_all n es (omega arith)

-- where there are no more votes than a window has, it has them all
pub window_all : (b : Ballot) (from : ℕ) (votes es : List Entry) → es ++ [] ≡ since from votes → length es ≤ 8 → record { ballot = b; from = from; covered = 1000000; entries = es } ≡ window b from votes
unfolding positions
window_all b from votes es e h =
    let s : es ≡ since from votes = sym (append-nil es) ∙ e in
    let p : 1000000 ≡ covered_by 8 (since from votes) = rw (← s) (sym (covered_all 7 es h)) in
    let q : es ≡ take 8 (since from votes) = rw (← s) (sym (take_all 8 es h)) in
    λ i. record { ballot = b; from = from; covered = p i; entries = q i }

-- where there are more, it has the lowest
window_some : (b : Ballot) (from c : ℕ) (votes es fs : List Entry) (f d : Entry) → es ++ f ∷ fs ≡ since from votes → length es ≡ 8 → c ≡ (get_or es 7 d).position → record { ballot = b; from = from; covered = c; entries = es } ≡ window b from votes
window_some b from c votes es fs f d e h k =
    let p : c ≡ covered_by 8 (since from votes) = rw (← e) (k ∙ sym (covered_some 7 es fs f d h)) in
    let q : es ≡ take 8 (since from votes) = rw (← e) (sym (take_front es (f ∷ fs) 8 h)) in
    λ i. record { ballot = b; from = from; covered = p i; entries = q i }

-- where one more is there than a window has, it is cut
pub window_cut : (b : Ballot) (from c p : ℕ) (votes es : List Entry) (d : Entry) → Rising votes → IsSome (vote_at p votes) → es ++ since p votes ≡ since from votes → length es ≡ 8 → c ≡ (get_or es 7 d).position → record { ballot = b; from = from; covered = c; entries = es } ≡ window b from votes
window_cut b from c p votes es d h there e l k = by_vote (vote_at p votes) refl there
  where
    by_vote : (o : Option Vote) → vote_at p votes ≡ o → IsSome o → record { ballot = b; from = from; covered = c; entries = es } ≡ window b from votes
    by_vote None i t = absurd (true≢false (sym t))
    by_vote (Some v) i t = window_some b from c votes es (since (suc p) votes) (record { position = p; vote = v }) d (ap (λ (fs : List Entry). es ++ fs) (sym (since_at p v votes h i)) ∙ e) l k

-- the votes of a map rise
pub rising_filled : (ss : List (Slot Vote)) → Rise 0 ss → Rising (entries_of (filled ss))
rising_filled ss h = rising_entries 0 (filled ss) (rise_filled 0 ss h)

-- what stands at a position of a map, as an entry
pub vote_filled : (p : ℕ) (ss : List (Slot Vote)) (o : Option Vote) → o ≡ value_at p (filled ss) → vote_at p (entries_of (filled ss)) ≡ o
vote_filled p ss o e = vote_entry p (filled ss) ∙ sym e

-- one more entry where there were fewer than 8
pub one_more : (es fs : List Entry) (e : Entry) → fs ≡ es ++ e ∷ [] → length es ≤ 8 → (length es ≡ 8 → ⊥) → (length fs ≤ 8) × (9 - length fs < 9 - length es)
one_more es fs e f l n =
    let m : length fs ≡ length es + 1 = ap length f ∙ length-append es (e ∷ []) in
    (omega (arith, n), omega (arith, n))

-- a position that has a vote is not without one
pub no_clash : {B : Type 0} (p : ℕ) (ss : List (Slot Vote)) → IsSome (vote_at p (entries_of (filled ss))) → None ≡ value_at p (filled ss) → B
no_clash p ss s n = absurd (true≢false (sym s ∙ ap is_some (vote_filled p ss None n)))
