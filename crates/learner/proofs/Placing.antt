-- Changes at one position.
use Rattle.std.proofs.Common.{◌≡◌, ◌≢◌, ℕ, suc, ◌+◌, ◌-◌, ◌<◌, ◌≤◌, Bool, true, false, cond, ◌&&◌, ◌||◌, arith, refl, sym, ap, subst, ◌∙◌, ◌⊎◌, inl, inr, ⊎_elim, List, [], ◌∷◌, ◌++◌, map, length, Option, Some, None, IsSome, ltb, eqb, ltb-true, ltb-false, eqb-true, nat_cmp, is_eq, length-append}
use Rattle.std.proofs.lemmas.Bool.{false≢true, eqb-false, eq-eqb, ne_eqb, cases_eq}
use Rattle.std.specs.Ordering.{match_ordering}
use Rattle.std.specs.List.{filter, list_any}
use Rattle.std.proofs.lemmas.List.Elements.{filter-append}
use Rattle.std.specs.Map.{lookup, remove_entry, set_value}
use Rattle.std.specs.BTreeMap.{insert_entry, is_at}
use Rattle.ballots.specs.Values.{same_vote}
use Rattle.ballots.specs.declared.value.Vote.{Vote}
use Rattle.paxos.specs.Lists.{Has}
use Rattle.paxos.proofs.Lists.{has_cases, has_left, has_right}
use Rattle.learner.specs.declared.poll.Voters.{Voters}
use Rattle.learner.specs.Terms.{Tally, is_open, open_in}
use Rattle.learner.specs.Hearing.{is_of, is_tallied, AreDistinct}
use Rattle.learner.specs.Slots.{Rise}
use Rattle.learner.specs.Polls.{heard_in, is_heard, with_voter, is_voter, AreDifferent, Polls, poll_at, tally_of, tallies_of, IsCounted, IsAdded, IsForgotten}
use Rattle.learner.proofs.Tallying.{found, cmp_by, poll_found, none_below, any_tally, tallied_poll}
use Rattle.learner.proofs.Adding.{voted_more, different_more, has_more}

-- what is above a position is above those below it
pub rise_lower : {A : Type 0} (p q : ℕ) (es : List (ℕ × A)) → p ≤ q → Rise q es → Rise p es
rise_lower p q [] l h = tt
rise_lower p q (e ∷ es) l h = let a = h.0 in (omega arith, h.1)

-- a new entry goes to its place
pub rise_insert : {A : Type 0} (p k : ℕ) (v : A) (es : List (ℕ × A)) → p < k → Rise p es → Rise p (insert_entry nat_cmp es k v)
rise_insert p k v [] l h = (l, tt)
rise_insert p k v (s ∷ ss) l h = by_test (λ m. rise_insert s.0 k v ss m h.1) (ltb k s.0) (eqb k s.0) refl refl
  where
    by_test : (s.0 < k → Rise s.0 (insert_entry nat_cmp ss k v)) → (a b : Bool) → ltb k s.0 ≡ a → eqb k s.0 ≡ b → Rise p (match_ordering (cmp_by a b) ((k, v) ∷ s ∷ ss) ((s.0, v) ∷ ss) (s ∷ insert_entry nat_cmp ss k v))
    by_test rest true b g e = (l, (ltb-true k s.0 g, h.1))
    by_test rest false true g e = (h.0, h.1)
    by_test rest false false g e = (h.0, rest (omega (arith, ltb-false k s.0 g, eqb-false k s.0 e)))

-- an entry taken away leaves the others
pub rise_remove : {A : Type 0} (p : ℕ) (test : ℕ → Bool) (es : List (ℕ × A)) → Rise p es → Rise p (remove_entry test es)
rise_remove p test [] h = tt
rise_remove p test (s ∷ ss) h = by_test (rise_remove s.0 test ss h.1) (test s.0)
  where
    by_test : Rise s.0 (remove_entry test ss) → (a : Bool) → Rise p (cond a ss (s ∷ remove_entry test ss))
    by_test rest true = rise_lower p s.0 ss (let a = h.0 in omega arith) h.1
    by_test rest false = (h.0, rest)

-- what is put at a position leaves the position
pub rise_set : {A : Type 0} (p : ℕ) (test : ℕ → Bool) (v : A) (es : List (ℕ × A)) → Rise p es → Rise p (set_value test es v)
rise_set p test v [] h = tt
rise_set p test v (s ∷ ss) h = by_test (rise_set s.0 test v ss h.1) (test s.0)
  where
    by_test : Rise s.0 (set_value test ss v) → (a : Bool) → Rise p (cond a ((s.0, v) ∷ ss) (s ∷ set_value test ss v))
    by_test rest true = (h.0, h.1)
    by_test rest false = (h.0, rest)

-- the test of a look-up is equality
pub at_is : (p q : ℕ) → is_at (nat_cmp p) q ≡ eqb p q
at_is p q = by_test (ltb p q) (eqb p q) refl refl
  where
    by_test : (a b : Bool) → ltb p q ≡ a → eqb p q ≡ b → is_eq (cmp_by a b) ≡ b
    by_test true true g e = let l = ltb-true p q g in let k = eqb-true p q e in absurd (omega arith)
    by_test true false g e = refl
    by_test false true g e = refl
    by_test false false g e = refl

-- an empty list of votes is no vote
pub tallies_insert : (k : ℕ) (es : Polls) → lookup (is_at (nat_cmp k)) es ≡ None → tallies_of (insert_entry nat_cmp es k []) ≡ tallies_of es
tallies_insert k [] h = refl
tallies_insert k (s ∷ ss) h = by_test (tallies_insert k ss) (ltb k s.0) (eqb k s.0) h
  where
    by_test : (lookup (is_at (nat_cmp k)) ss ≡ None → tallies_of (insert_entry nat_cmp ss k []) ≡ tallies_of ss) → (a b : Bool) → cond (is_eq (cmp_by a b)) (Some s.1) (lookup (is_at (nat_cmp k)) ss) ≡ None → tallies_of (match_ordering (cmp_by a b) ((k, []) ∷ s ∷ ss) ((s.0, []) ∷ ss) (s ∷ insert_entry nat_cmp ss k [])) ≡ map (tally_of s.0) s.1 ++ tallies_of ss
    by_test rest true b e = refl
    by_test rest false true e = cc
    by_test rest false false e = ap (λ (ts : List Tally). map (tally_of s.0) s.1 ++ ts) (rest e)

-- and leaves what is at each position
pub poll_insert : (k q : ℕ) (es fs : Polls) → lookup (is_at (nat_cmp k)) es ≡ None → lookup (is_at (nat_cmp q)) fs ≡ cond (is_at (nat_cmp k) q) (Some []) (lookup (is_at (nat_cmp q)) es) → poll_at q fs ≡ poll_at q es
poll_insert k q es fs h e = by_test (cases_eq k q)
  where
    by_test : (k ≡ q) ⊎ (k ≡ q → ⊥) → poll_at q fs ≡ poll_at q es
    by_test (inl w) =
        let f : lookup (is_at (nat_cmp q)) fs ≡ Some [] = e ∙ rw (at_is k q, eq-eqb k q w) refl in
        let g : lookup (is_at (nat_cmp q)) es ≡ None = subst (λ x. lookup (is_at (nat_cmp x)) es ≡ None) w h in
        sym (poll_found q fs) ∙ ap found f ∙ sym (ap found g) ∙ poll_found q es
    by_test (inr n) =
        let f : lookup (is_at (nat_cmp q)) fs ≡ lookup (is_at (nat_cmp q)) es = e ∙ rw (at_is k q, ne_eqb k q n) refl in
        sym (poll_found q fs) ∙ ap found f ∙ poll_found q es

-- what is at each position once something is put at one
pub poll_set : (k q : ℕ) (v : List Voters) (es : Polls) → IsSome (lookup (is_at (nat_cmp k)) es) → poll_at q (set_value (is_at (nat_cmp k)) es v) ≡ cond (eqb q k) v (poll_at q es)
poll_set k q v [] h = absurd (cc h)
poll_set k q v (s ∷ ss) h = by_test (poll_set k q v ss) (is_at (nat_cmp k) s.0) (at_is k s.0) h
  where
    one : (eqb k s.0 ≡ true) → (b c : Bool) → eqb q s.0 ≡ b → eqb q k ≡ c → cond b v (poll_at q ss) ≡ cond c v (cond b s.1 (poll_at q ss))
    one w true true e f = refl
    one w false false e f = refl
    one w true false e f = absurd (eqb-false q k f (eqb-true q s.0 e ∙ sym (eqb-true k s.0 w)))
    one w false true e f = absurd (eqb-false q s.0 e (eqb-true q k f ∙ eqb-true k s.0 w))

    other : (eqb k s.0 ≡ false) → (b c : Bool) → eqb q s.0 ≡ b → eqb q k ≡ c → cond b s.1 (cond c v (poll_at q ss)) ≡ cond c v (cond b s.1 (poll_at q ss))
    other w true true e f = absurd (eqb-false k s.0 w (sym (eqb-true q k f) ∙ eqb-true q s.0 e))
    other w true false e f = refl
    other w false c e f = refl

    by_test : (IsSome (lookup (is_at (nat_cmp k)) ss) → poll_at q (set_value (is_at (nat_cmp k)) ss v) ≡ cond (eqb q k) v (poll_at q ss)) → (a : Bool) → a ≡ eqb k s.0 → IsSome (cond a (Some s.1) (lookup (is_at (nat_cmp k)) ss)) → poll_at q (cond a ((s.0, v) ∷ ss) (s ∷ set_value (is_at (nat_cmp k)) ss v)) ≡ cond (eqb q k) v (cond (eqb q s.0) s.1 (poll_at q ss))
    by_test rest true w i = one (sym w) (eqb q s.0) (eqb q k) refl refl
    by_test rest false w i = rw (rest i) (other (sym w) (eqb q s.0) (eqb q k) refl refl)

-- a tally for each vote
pub length_tallies : (p : ℕ) (xs : List Voters) → length (map (tally_of p) xs) ≡ length xs
length_tallies p [] = refl
length_tallies p (x ∷ xs) = ap suc (length_tallies p xs)

-- what is open of a position's votes
pub open_mapped : (r : ℕ) (xs : List Voters) → open_in (map (tally_of r) xs) ≡ map (tally_of r) (filter is_heard xs)
open_mapped r [] = refl
open_mapped r (x ∷ xs) = by_test (is_heard x) (open_mapped r xs)
  where
    by_test : (b : Bool) → open_in (map (tally_of r) xs) ≡ map (tally_of r) (filter is_heard xs) → cond b (tally_of r x ∷ open_in (map (tally_of r) xs)) (open_in (map (tally_of r) xs)) ≡ map (tally_of r) (cond b (x ∷ filter is_heard xs) (filter is_heard xs))
    by_test true e = ap (λ (ts : List Tally). tally_of r x ∷ ts) e
    by_test false e = e

open_tallies : (p : ℕ) (xs : List Voters) → length (open_in (map (tally_of p) xs)) ≡ heard_in xs
open_tallies p xs = ap length (open_mapped p xs) ∙ length_tallies p (filter is_heard xs)

open_append : (xs ys : List Tally) → length (open_in (xs ++ ys)) ≡ length (open_in xs) + length (open_in ys)
open_append xs ys = ap length (filter-append is_open xs ys) ∙ length-append (open_in xs) (open_in ys)

-- A number of tallies that adds up, g, is a number of votes at each position, h.
module _ (g : List Tally → ℕ) (h : List Voters → ℕ) (add : (xs ys : List Tally) → g (xs ++ ys) ≡ g xs + g ys) (each : (r : ℕ) (xs : List Voters) → g (map (tally_of r) xs) ≡ h xs) where
  -- how many there are then
  pub number_set : (k : ℕ) (v : List Voters) (es : Polls) → IsSome (lookup (is_at (nat_cmp k)) es) → g (tallies_of (set_value (is_at (nat_cmp k)) es v)) + h (found (lookup (is_at (nat_cmp k)) es)) ≡ g (tallies_of es) + h v
  number_set k v [] i = absurd (cc i)
  number_set k v (s ∷ ss) i = by_test (number_set k v ss) (is_at (nat_cmp k) s.0) i
    where
      by_test : (IsSome (lookup (is_at (nat_cmp k)) ss) → g (tallies_of (set_value (is_at (nat_cmp k)) ss v)) + h (found (lookup (is_at (nat_cmp k)) ss)) ≡ g (tallies_of ss) + h v) → (a : Bool) → IsSome (cond a (Some s.1) (lookup (is_at (nat_cmp k)) ss)) → g (tallies_of (cond a ((s.0, v) ∷ ss) (s ∷ set_value (is_at (nat_cmp k)) ss v))) + h (found (cond a (Some s.1) (lookup (is_at (nat_cmp k)) ss))) ≡ g (map (tally_of s.0) s.1 ++ tallies_of ss) + h v
      by_test rest true i = omega (arith, add (map (tally_of s.0) v) (tallies_of ss), add (map (tally_of s.0) s.1) (tallies_of ss), each s.0 v, each s.0 s.1)
      by_test rest false i = omega (arith, rest i, add (map (tally_of s.0) s.1) (tallies_of (set_value (is_at (nat_cmp k)) ss v)), add (map (tally_of s.0) s.1) (tallies_of ss))

  -- how many there are without those of a position
  pub number_remove : (k : ℕ) (es : Polls) → g (tallies_of (remove_entry (is_at (nat_cmp k)) es)) + h (found (lookup (is_at (nat_cmp k)) es)) ≡ g (tallies_of es)
  number_remove k [] = omega (arith, add [] [], each 0 [])
  number_remove k (s ∷ ss) = by_test (number_remove k ss) (is_at (nat_cmp k) s.0)
    where
      by_test : g (tallies_of (remove_entry (is_at (nat_cmp k)) ss)) + h (found (lookup (is_at (nat_cmp k)) ss)) ≡ g (tallies_of ss) → (a : Bool) → g (tallies_of (cond a ss (s ∷ remove_entry (is_at (nat_cmp k)) ss))) + h (found (cond a (Some s.1) (lookup (is_at (nat_cmp k)) ss))) ≡ g (map (tally_of s.0) s.1 ++ tallies_of ss)
      by_test rest true = omega (arith, add (map (tally_of s.0) s.1) (tallies_of ss), each s.0 s.1)
      by_test rest false = omega (arith, rest, add (map (tally_of s.0) s.1) (tallies_of (remove_entry (is_at (nat_cmp k)) ss)), add (map (tally_of s.0) s.1) (tallies_of ss))

-- a tally is of its position's votes
has_tally : (p : ℕ) (es : Polls) (t : Tally) → Rise p es → Has (tallies_of es) t → (p < t.position) × Has (poll_at t.position es) (record { vote = t.vote; mask = t.mask })
has_tally p [] t s h = absurd h
has_tally p (e ∷ es) t s h = by_place (λ g. has_tally e.0 es t s.1 g) (has_cases (map (tally_of e.0) e.1) (tallies_of es) t h)
  where
    here : (xs : List Voters) → Has (map (tally_of e.0) xs) t → (e.0 ≡ t.position) × Has xs (record { vote = t.vote; mask = t.mask })
    here [] g = absurd g
    here (x ∷ xs) (inl w) = (ap (λ (u : Tally). u.position) w, inl (ap (λ (u : Tally). record { vote = u.vote; mask = u.mask }) w))
    here (x ∷ xs) (inr g) = let r = here xs g in (r.0, inr r.1)

    by_place : (Has (tallies_of es) t → (e.0 < t.position) × Has (poll_at t.position es) (record { vote = t.vote; mask = t.mask })) → Has (map (tally_of e.0) e.1) t ⊎ Has (tallies_of es) t → (p < t.position) × Has (cond (eqb t.position e.0) e.1 (poll_at t.position es)) (record { vote = t.vote; mask = t.mask })
    by_place later (inl g) = let r = here e.1 g in let w = r.0 in let a = s.0 in (omega arith, rw (eq-eqb t.position e.0 (sym r.0)) r.1)
    by_place later (inr g) = let r = later g in let w = r.0 in let a = s.0 in (omega arith, rw (ne_eqb t.position e.0 (λ x. omega arith)) r.1)

-- a vote of a position has its tally
tally_has : (q : ℕ) (es : Polls) (x : Voters) → Has (poll_at q es) x → Has (tallies_of es) (tally_of q x)
tally_has q [] x h = absurd h
tally_has q (e ∷ es) x h = by_test (tally_has q es x) (eqb q e.0) refl h
  where
    mapped : (r : ℕ) (xs : List Voters) → Has xs x → Has (map (tally_of r) xs) (tally_of r x)
    mapped r [] g = absurd g
    mapped r (y ∷ xs) (inl w) = inl (ap (tally_of r) w)
    mapped r (y ∷ xs) (inr g) = inr (mapped r xs g)

    by_test : (Has (poll_at q es) x → Has (tallies_of es) (tally_of q x)) → (b : Bool) → eqb q e.0 ≡ b → Has (cond b e.1 (poll_at q es)) x → Has (map (tally_of e.0) e.1 ++ tallies_of es) (tally_of q x)
    by_test rest true w g = has_left (map (tally_of e.0) e.1) (tallies_of es) (tally_of q x) (subst (λ r. Has (map (tally_of r) e.1) (tally_of q x)) (eqb-true q e.0 w) (mapped q e.1 g))
    by_test rest false w g = has_right (map (tally_of e.0) e.1) (tallies_of es) (tally_of q x) (rest g)

-- what is different at each position is so at each of the rest
rest_different : (e : ℕ × List Voters) (es : Polls) → Rise e.0 es → ((q : ℕ) → AreDifferent (poll_at q (e ∷ es))) → (q : ℕ) → AreDifferent (poll_at q es)
rest_different e es s d q = by_test (eqb q e.0) refl (d q)
  where
    by_test : (b : Bool) → eqb q e.0 ≡ b → AreDifferent (cond b e.1 (poll_at q es)) → AreDifferent (poll_at q es)
    by_test true w g = let k = eqb-true q e.0 w in let n : poll_at q es ≡ [] = none_below q e.0 es (omega arith) s in rw n tt
    by_test false w g = g

-- where votes are different at each position, no tally is there twice
pub distinct_tallies : (p : ℕ) (es : Polls) → Rise p es → ((q : ℕ) → AreDifferent (poll_at q es)) → AreDistinct (tallies_of es)
distinct_tallies p [] s d = tt
distinct_tallies p (e ∷ es) s d = first_ones (distinct_tallies e.0 es s.1 (rest_different e es s.1 d)) e.1 (rw (eq-eqb e.0 e.0 refl) at (d e.0))
  where
    of_here : (v : Vote) (x : Voters) → is_of e.0 v (tally_of e.0 x) ≡ same_vote v x.vote
    of_here v x = rw (eq-eqb e.0 e.0 refl) refl

    of_there : (v : Vote) (r : ℕ) (x : Voters) → (e.0 ≡ r → ⊥) → is_of e.0 v (tally_of r x) ≡ false
    of_there v r x n = rw (ne_eqb e.0 r n) refl

    none_later : (v : Vote) → list_any (is_of e.0 v) (tallies_of es) ≡ false
    none_later v = any_tally e.0 e.0 (is_of e.0 v) (λ (x : Voters). same_vote v x.vote) es s.1 (of_here v) (of_there v) ∙ ap (λ (xs : List Voters). list_any (λ (x : Voters). same_vote v x.vote) xs) (none_below e.0 e.0 es (omega arith) s.1)

    none_here : (v : Vote) (xs : List Voters) → list_any (λ (x : Voters). same_vote v x.vote) xs ≡ false → list_any (is_of e.0 v) (map (tally_of e.0) xs ++ tallies_of es) ≡ false
    none_here v [] g = none_later v
    none_here v (x ∷ xs) g = by_test (same_vote v x.vote) refl (none_here v xs) g
      where
        by_test : (b : Bool) → same_vote v x.vote ≡ b → (list_any (λ (x : Voters). same_vote v x.vote) xs ≡ false → list_any (is_of e.0 v) (map (tally_of e.0) xs ++ tallies_of es) ≡ false) → (b || list_any (λ (x : Voters). same_vote v x.vote) xs) ≡ false → (is_of e.0 v (tally_of e.0 x) || list_any (is_of e.0 v) (map (tally_of e.0) xs ++ tallies_of es)) ≡ false
        by_test true w rest k = absurd (false≢true (sym k))
        by_test false w rest k = rw (of_here v x, w) (rest k)

    first_ones : AreDistinct (tallies_of es) → (xs : List Voters) → AreDifferent xs → AreDistinct (map (tally_of e.0) xs ++ tallies_of es)
    first_ones later [] g = later
    first_ones later (x ∷ xs) g = (none_here x.vote xs g.0, first_ones later xs g.1)

-- votes stay different at each position
pub different_at : (k p : ℕ) (vote : Vote) (es fs : Polls) → ((q : ℕ) → AreDifferent (poll_at q es)) → ((q : ℕ) → poll_at q fs ≡ cond (eqb q p) (with_voter k vote (poll_at p es)) (poll_at q es)) → (q : ℕ) → AreDifferent (poll_at q fs)
different_at k p vote es fs d c q = subst AreDifferent (sym (c q)) (by_test (eqb q p))
  where
    by_test : (b : Bool) → AreDifferent (cond b (with_voter k vote (poll_at p es)) (poll_at q es))
    by_test true = different_more k vote (poll_at p es) (d p)
    by_test false = d q

-- One more acceptance changes the votes of one position.
pub added_at : (k p : ℕ) (vote : Vote) (es fs : Polls) → 1 ≤ k → Rise 0 es → Rise 0 fs → ((q : ℕ) → AreDifferent (poll_at q es)) → ((q : ℕ) → poll_at q fs ≡ cond (eqb q p) (with_voter k vote (poll_at p es)) (poll_at q es)) → IsAdded k p vote (tallies_of es) (tallies_of fs)
added_at k p vote es fs l s t d c = record { tallied = who; from = from; distinct = distinct_tallies 0 fs t (different_at k p vote es fs d c) }
  where
    who : (q : ℕ) (v : Vote) (m : ℕ) → 1 ≤ m → is_tallied (tallies_of fs) q v m ≡ ((eqb k m && (eqb q p && same_vote v vote)) || is_tallied (tallies_of es) q v m)
    who q v m a = tallied_poll q 0 v m fs t ∙ ap (list_any (is_voter v m)) (c q) ∙ by_test (eqb q p) refl ∙ ap (λ (b : Bool). (eqb k m && (eqb q p && same_vote v vote)) || b) (sym (tallied_poll q 0 v m es s))
      where
        never : (b r : Bool) → r ≡ ((b && false) || r)
        never true r = refl
        never false r = refl

        by_test : (b : Bool) → eqb q p ≡ b → list_any (is_voter v m) (cond b (with_voter k vote (poll_at p es)) (poll_at q es)) ≡ ((eqb k m && (b && same_vote v vote)) || list_any (is_voter v m) (poll_at q es))
        by_test true e = rw (eqb-true q p e) (voted_more k vote v m (poll_at p es) l a)
        by_test false e = never (eqb k m) (list_any (is_voter v m) (poll_at q es))

    from : (u : Tally) → Has (tallies_of fs) u → Has (tallies_of es) u ⊎ ((u.position ≡ p) × (u.mask ≢ 0))
    from u h = by_test (eqb u.position p) refl (subst (λ (xs : List Voters). Has xs (record { vote = u.vote; mask = u.mask })) (c u.position) (has_tally 0 fs u t h).1)
      where
        there : (q : ℕ) → u.position ≡ q → Has (poll_at q es) (record { vote = u.vote; mask = u.mask }) → Has (tallies_of es) u
        there q e g = subst (λ (w : Tally). Has (tallies_of es) w) (ap (λ (r : ℕ). record { position = r; vote = u.vote; mask = u.mask }) (sym e)) (tally_has q es (record { vote = u.vote; mask = u.mask }) g)

        by_test : (b : Bool) → eqb u.position p ≡ b → Has (cond b (with_voter k vote (poll_at p es)) (poll_at u.position es)) (record { vote = u.vote; mask = u.mask }) → Has (tallies_of es) u ⊎ ((u.position ≡ p) × (u.mask ≢ 0))
        by_test true e g = ⊎_elim (λ (i : Has (poll_at p es) (record { vote = u.vote; mask = u.mask })). inl (there p (eqb-true u.position p e) i)) (λ (i : u.mask ≢ 0). inr (eqb-true u.position p e, i)) (has_more k vote (poll_at p es) (record { vote = u.vote; mask = u.mask }) l g)
        by_test false e g = inl (there u.position refl g)

-- A position's votes are taken away, and no others.
pub forgotten_at : (p : ℕ) (es fs : Polls) → Rise 0 es → Rise 0 fs → ((q : ℕ) → AreDifferent (poll_at q fs)) → ((q : ℕ) → poll_at q fs ≡ cond (eqb q p) [] (poll_at q es)) → IsForgotten p (tallies_of es) (tallies_of fs)
forgotten_at p es fs s t d c = record { tallied = who; from = from; distinct = distinct_tallies 0 fs t d }
  where
    who : (q : ℕ) (v : Vote) (m : ℕ) → q ≢ p → is_tallied (tallies_of fs) q v m ≡ is_tallied (tallies_of es) q v m
    who q v m n = let e : poll_at q fs ≡ poll_at q es = c q ∙ rw (ne_eqb q p n) refl in tallied_poll q 0 v m fs t ∙ ap (list_any (is_voter v m)) e ∙ sym (tallied_poll q 0 v m es s)

    from : (u : Tally) → Has (tallies_of fs) u → Has (tallies_of es) u × (u.position ≢ p)
    from u h = by_test (eqb u.position p) refl (subst (λ (xs : List Voters). Has xs (record { vote = u.vote; mask = u.mask })) (c u.position) (has_tally 0 fs u t h).1)
      where
        by_test : (b : Bool) → eqb u.position p ≡ b → Has (cond b [] (poll_at u.position es)) (record { vote = u.vote; mask = u.mask }) → Has (tallies_of es) u × (u.position ≢ p)
        by_test true e g = absurd g
        by_test false e g = (tally_has u.position es (record { vote = u.vote; mask = u.mask }) g, eqb-false u.position p e)

-- what is at each position without one entry
poll_remove : (p q : ℕ) (es fs : Polls) → lookup (is_at (nat_cmp q)) fs ≡ cond (is_at (nat_cmp p) q) None (lookup (is_at (nat_cmp q)) es) → poll_at q fs ≡ cond (eqb q p) [] (poll_at q es)
poll_remove p q es fs e = by_test (cases_eq q p)
  where
    by_test : (q ≡ p) ⊎ (q ≡ p → ⊥) → poll_at q fs ≡ cond (eqb q p) [] (poll_at q es)
    by_test (inl w) =
        let f : lookup (is_at (nat_cmp q)) fs ≡ None = e ∙ rw (at_is p q, eq-eqb p q (sym w)) refl in
        rw (eq-eqb q p w) (sym (poll_found q fs) ∙ ap found f)
    by_test (inr n) =
        let f : lookup (is_at (nat_cmp q)) fs ≡ lookup (is_at (nat_cmp q)) es = e ∙ rw (at_is p q, ne_eqb p q (λ w. n (sym w))) refl in
        rw (ne_eqb q p n) (sym (poll_found q fs) ∙ ap found f ∙ poll_found q es)

-- What `forget` leaves.
pub forgotten : (n h p : ℕ) (es fs : Polls) (o : Option (List Voters)) → IsCounted n h es → o ≡ lookup (is_at (nat_cmp p)) es → fs ≡ remove_entry (is_at (nat_cmp p)) es → ((q : ℕ) → lookup (is_at (nat_cmp q)) fs ≡ cond (is_at (nat_cmp p) q) None (lookup (is_at (nat_cmp q)) es)) → IsForgotten p (tallies_of es) (tallies_of fs) × IsCounted (n - length (found o)) (h - heard_in (found o)) fs × (length (found o) ≤ n) × (heard_in (found o) ≤ h)
forgotten n h p es fs o c e f u = (forgotten_at p es fs c.rise rises differ there, record { rise = rises; different = differ; count = (let m = counted in let k = c.count in omega arith); open_count = (let m = opened in let k = c.open_count in omega arith) }, (let m = counted in let k = c.count in omega arith), (let m = opened in let k = c.open_count in omega arith))
  where
    rises : Rise 0 fs
    rises = rw f (rise_remove 0 (is_at (nat_cmp p)) es c.rise)

    there : (q : ℕ) → poll_at q fs ≡ cond (eqb q p) [] (poll_at q es)
    there q = poll_remove p q es fs (u q)

    differ : (q : ℕ) → AreDifferent (poll_at q fs)
    differ q = subst AreDifferent (sym (there q)) (by_test (eqb q p))
      where
        by_test : (b : Bool) → AreDifferent (cond b [] (poll_at q es))
        by_test true = tt
        by_test false = c.different q

    counted : length (tallies_of fs) + length (found o) ≡ length (tallies_of es)
    counted = rw (f, e) (number_remove length length length-append length_tallies p es)

    opened : length (open_in (tallies_of fs)) + heard_in (found o) ≡ length (open_in (tallies_of es))
    opened = rw (f, e) (number_remove (λ (ts : List Tally). length (open_in ts)) heard_in open_append open_tallies p es)

-- What is counted once a position's votes are changed.
pub set_counted : (n j h i p : ℕ) (v w : List Voters) (es fs : Polls) → IsCounted n h es → Some w ≡ lookup (is_at (nat_cmp p)) es → fs ≡ set_value (is_at (nat_cmp p)) es v → AreDifferent v → j + length w ≡ n + length v → i + heard_in w ≡ h + heard_in v → IsCounted j i fs
set_counted n j h i p v w es fs c o f d a b = record { rise = rw f (rise_set 0 (is_at (nat_cmp p)) v es c.rise); different = differ; count = (let m = counted in let k = c.count in omega arith); open_count = (let m = opened in let k = c.open_count in omega arith) }
  where
    there : IsSome (lookup (is_at (nat_cmp p)) es)
    there = rw (← o) refl

    differ : (q : ℕ) → AreDifferent (poll_at q fs)
    differ q = rw f (subst AreDifferent (sym (poll_set p q v es there)) (by_test (eqb q p)))
      where
        by_test : (b : Bool) → AreDifferent (cond b v (poll_at q es))
        by_test true = d
        by_test false = c.different q

    counted : length (tallies_of fs) + length w ≡ length (tallies_of es) + length v
    counted = rw f (ap (λ (z : Option (List Voters)). length (tallies_of (set_value (is_at (nat_cmp p)) es v)) + length (found z)) o ∙ number_set length length length-append length_tallies p v es there)

    opened : length (open_in (tallies_of fs)) + heard_in w ≡ length (open_in (tallies_of es)) + heard_in v
    opened = rw f (ap (λ (z : Option (List Voters)). length (open_in (tallies_of (set_value (is_at (nat_cmp p)) es v))) + heard_in (found z)) o ∙ number_set (λ (ts : List Tally). length (open_in ts)) heard_in open_append open_tallies p v es there)

-- What is counted once a position has an empty list.
pub insert_counted : (n h p : ℕ) (es fs : Polls) → 1 ≤ p → lookup (is_at (nat_cmp p)) es ≡ None → fs ≡ insert_entry nat_cmp es p [] → ((q : ℕ) → lookup (is_at (nat_cmp q)) fs ≡ cond (is_at (nat_cmp p) q) (Some []) (lookup (is_at (nat_cmp q)) es)) → IsCounted n h es → IsCounted n h fs
insert_counted n h p es fs a o f u c = record { rise = rw f (rise_insert 0 p [] es a c.rise); different = (λ q. subst AreDifferent (sym (poll_insert p q es fs o (u q))) (c.different q)); count = c.count ∙ ap length (sym same); open_count = c.open_count ∙ ap (λ (ts : List Tally). length (open_in ts)) (sym same) }
  where
    same : tallies_of fs ≡ tallies_of es
    same = rw f (tallies_insert p es o)

-- an empty list of votes taken away is no vote less
pub tallies_remove : (k : ℕ) (es : Polls) → lookup (is_at (nat_cmp k)) es ≡ Some [] → tallies_of (remove_entry (is_at (nat_cmp k)) es) ≡ tallies_of es
tallies_remove k [] o = refl
tallies_remove k (s ∷ ss) o = by_test (tallies_remove k ss) (is_at (nat_cmp k) s.0) o
  where
    empty : s.1 ≡ [] → tallies_of ss ≡ map (tally_of s.0) s.1 ++ tallies_of ss
    empty e = rw e refl

    by_test : (lookup (is_at (nat_cmp k)) ss ≡ Some [] → tallies_of (remove_entry (is_at (nat_cmp k)) ss) ≡ tallies_of ss) → (a : Bool) → cond a (Some s.1) (lookup (is_at (nat_cmp k)) ss) ≡ Some [] → tallies_of (cond a ss (s ∷ remove_entry (is_at (nat_cmp k)) ss)) ≡ map (tally_of s.0) s.1 ++ tallies_of ss
    by_test rest true e = empty (cc)
    by_test rest false e = ap (λ (ts : List Tally). map (tally_of s.0) s.1 ++ ts) (rest e)

-- What is counted once a position's empty list is taken away.
pub drop_counted : (n h p : ℕ) (es fs : Polls) → lookup (is_at (nat_cmp p)) es ≡ Some [] → fs ≡ remove_entry (is_at (nat_cmp p)) es → ((q : ℕ) → lookup (is_at (nat_cmp q)) fs ≡ cond (is_at (nat_cmp p) q) None (lookup (is_at (nat_cmp q)) es)) → IsCounted n h es → IsCounted n h fs
drop_counted n h p es fs o f u c = record { rise = rw f (rise_remove 0 (is_at (nat_cmp p)) es c.rise); different = differ; count = c.count ∙ ap length (sym same); open_count = c.open_count ∙ ap (λ (ts : List Tally). length (open_in ts)) (sym same) }
  where
    same : tallies_of fs ≡ tallies_of es
    same = rw f (tallies_remove p es o)

    differ : (q : ℕ) → AreDifferent (poll_at q fs)
    differ q = subst AreDifferent (sym (poll_remove p q es fs (u q))) (by_test (eqb q p))
      where
        by_test : (b : Bool) → AreDifferent (cond b [] (poll_at q es))
        by_test true = tt
        by_test false = c.different q
