-- Room for a vote: a vote that nobody has accepted yet.
use Rattle.std.proofs.Common.{◌≡◌, ℕ, zero, suc, ◌+◌, ◌<◌, ◌≤◌, Bool, true, false, not, cond, ◌||◌, arith, refl, sym, ap, subst, ◌∙◌, List, [], ◌∷◌, ◌++◌, ◌-◌, map, length, length-append, get_or, eqb, Option, Some, None, nat_cmp, append-nil}
use Rattle.std.specs.List.{filter, list_any}
use Rattle.std.specs.Map.{lookup, set_value}
use Rattle.std.specs.BTreeMap.{is_at}
use Rattle.std.proofs.lemmas.Bool.{false≢true, eq-eqb, ne_eqb, or_parts}
use Rattle.std.proofs.lemmas.List.Elements.{filter-append}
use Rattle.std.proofs.lemmas.List.Folds.{list_any-append}
use Rattle.ballots.specs.Values.{same_vote}
use Rattle.ballots.specs.declared.value.Vote.{Vote}
use Rattle.learner.specs.declared.poll.Voters.{Voters}
use Rattle.learner.specs.Terms.{Tally, is_open, open_in}
use Rattle.learner.specs.Hearing.{is_of}
use Rattle.learner.specs.Slots.{Rise}
use Rattle.learner.specs.Polls.{AreDifferent, IsAdded, IsCounted, Polls, has_vote, HasTally, heard_in, is_heard, mask_with, poll_at, tallies_of, tally_of, with_room, with_voter}
use Rattle.learner.proofs.Adding.{different_more, marked, other_way}
use Rattle.learner.proofs.Placing.{added_at, length_tallies, number_remove, open_mapped, poll_set, rise_set, set_counted}
use Rattle.learner.proofs.Tallying.{any_tally, found, poll_found}
use Rattle.learner.proofs.Voting.{IsNotAmong, rest_not_among, vote_same}

-- A member joins the first with this vote: one more vote is heard, if nobody was in it.
pub first_found : (m : ℕ) (vote : Vote) (xs : List Voters) (i : ℕ) (d : Voters) → 1 ≤ m → IsNotAmong vote xs i → i < length xs → same_vote vote (get_or xs i d).vote ≡ true → heard_in (with_voter m vote xs) ≡ heard_in xs + cond (eqb (get_or xs i d).mask 0) 1 0
first_found m vote [] i d a h l s = absurd (omega arith)
first_found m vote (y ∷ xs) zero d a h l s = rw (s, ne_eqb (mask_with y.mask m) 0 (marked y.mask m a)) (by_test (eqb y.mask 0))
  where
    by_test : (b : Bool) → suc (length (filter is_heard xs)) ≡ length (cond (not b) (y ∷ filter is_heard xs) (filter is_heard xs)) + cond b 1 0
    by_test true = omega arith
    by_test false = omega arith
first_found m vote (y ∷ xs) (suc i) d a h l s = rw (h 0 y (omega arith)) (by_test (is_heard y) (first_found m vote xs i d a (rest_not_among vote y xs i h) (omega arith) s))
  where
    by_test : (b : Bool) → heard_in (with_voter m vote xs) ≡ heard_in xs + cond (eqb (get_or xs i d).mask 0) 1 0 → length (cond b (y ∷ filter is_heard (with_voter m vote xs)) (filter is_heard (with_voter m vote xs))) ≡ length (cond b (y ∷ filter is_heard xs) (filter is_heard xs)) + cond (eqb (get_or xs i d).mask 0) 1 0
    by_test true e = omega (arith, e)
    by_test false e = e

-- a vote with room is there
pub room_there : (vote : Vote) (xs : List Voters) → has_vote vote (with_room vote xs) ≡ true
room_there vote xs = by_test (has_vote vote xs) refl
  where
    by_test : (b : Bool) → has_vote vote xs ≡ b → has_vote vote (cond b xs (xs ++ record { vote = vote; mask = 0 } ∷ [])) ≡ true
    by_test true e = e
    by_test false e = list_any-append (λ (x : Voters). same_vote vote x.vote) xs (record { vote = vote; mask = 0 } ∷ []) ∙ rw (e, vote_same vote) refl

-- nobody more is heard
pub room_heard : (vote : Vote) (xs : List Voters) → filter is_heard (xs ++ record { vote = vote; mask = 0 } ∷ []) ≡ filter is_heard xs
room_heard vote xs = filter-append is_heard xs (record { vote = vote; mask = 0 } ∷ []) ∙ append-nil (filter is_heard xs)

pub with_room_heard : (vote : Vote) (xs : List Voters) → filter is_heard (with_room vote xs) ≡ filter is_heard xs
with_room_heard vote xs = by_test (has_vote vote xs)
  where
    by_test : (b : Bool) → filter is_heard (cond b xs (xs ++ record { vote = vote; mask = 0 } ∷ [])) ≡ filter is_heard xs
    by_test true = refl
    by_test false = room_heard vote xs

-- votes stay different
pub different_room : (vote : Vote) (xs : List Voters) → AreDifferent xs → AreDifferent (with_room vote xs)
different_room vote xs d = by_test (has_vote vote xs) refl
  where
    at_end : (ys : List Voters) → AreDifferent ys → has_vote vote ys ≡ false → AreDifferent (ys ++ record { vote = vote; mask = 0 } ∷ [])
    at_end [] d e = (refl, tt)
    at_end (y ∷ ys) d e =
        let p = or_parts (same_vote vote y.vote) (has_vote vote ys) e in
        (list_any-append (λ (z : Voters). same_vote y.vote z.vote) ys (record { vote = vote; mask = 0 } ∷ []) ∙ rw (d.0, other_way vote y.vote p.0) refl, at_end ys d.1 p.1)

    by_test : (b : Bool) → has_vote vote xs ≡ b → AreDifferent (cond b xs (xs ++ record { vote = vote; mask = 0 } ∷ []))
    by_test true e = d
    by_test false e = at_end xs d e

pub different_front : (xs ys : List Voters) → AreDifferent (xs ++ ys) → AreDifferent xs
different_front [] ys d = tt
different_front (x ∷ xs) ys d = ((or_parts _ _ (sym (list_any-append (λ (z : Voters). same_vote x.vote z.vote) xs ys) ∙ d.0)).0, different_front xs ys d.1)

-- a position's votes change, and the same are heard
pub open_set : (p : ℕ) (v w : List Voters) (es : Polls) → Some w ≡ lookup (is_at (nat_cmp p)) es → filter is_heard v ≡ filter is_heard w → open_in (tallies_of (set_value (is_at (nat_cmp p)) es v)) ≡ open_in (tallies_of es)
open_set p v w [] o s = refl
open_set p v w (e ∷ es) o s = by_test (λ k. open_set p v w es k s) (is_at (nat_cmp p) e.0) o
  where
    both : (xs : List Voters) → open_in (map (tally_of e.0) xs ++ tallies_of es) ≡ map (tally_of e.0) (filter is_heard xs) ++ open_in (tallies_of es)
    both xs = filter-append is_open (map (tally_of e.0) xs) (tallies_of es) ∙ ap (λ (ts : List Tally). ts ++ open_in (tallies_of es)) (open_mapped e.0 xs)

    by_test : (Some w ≡ lookup (is_at (nat_cmp p)) es → open_in (tallies_of (set_value (is_at (nat_cmp p)) es v)) ≡ open_in (tallies_of es)) → (a : Bool) → Some w ≡ cond a (Some e.1) (lookup (is_at (nat_cmp p)) es) → open_in (tallies_of (cond a ((e.0, v) ∷ es) (e ∷ set_value (is_at (nat_cmp p)) es v))) ≡ open_in (map (tally_of e.0) e.1 ++ tallies_of es)
    by_test rest true k =
        let x : w ≡ e.1 = cc in
        both v ∙ ap (λ (xs : List Voters). map (tally_of e.0) xs ++ open_in (tallies_of es)) (s ∙ ap (filter is_heard) x) ∙ sym (both e.1)
    by_test rest false k = filter-append is_open (map (tally_of e.0) e.1) (tallies_of (set_value (is_at (nat_cmp p)) es v)) ∙ ap (λ (ts : List Tally). open_in (map (tally_of e.0) e.1) ++ ts) (rest k) ∙ sym (filter-append is_open (map (tally_of e.0) e.1) (tallies_of es))

-- a position has a tally of a vote just where the vote is there
pub tally_there : (p : ℕ) (vote : Vote) (es : Polls) → Rise 0 es → list_any (is_of p vote) (tallies_of es) ≡ has_vote vote (poll_at p es)
tally_there p vote es s = any_tally p 0 (is_of p vote) (λ (x : Voters). same_vote vote x.vote) es s (λ x. rw (eq-eqb p p refl) refl) (λ r x n. rw (ne_eqb p r n) refl)

-- there are no more votes than there are
pub heard_most : (n h : ℕ) (es : Polls) → IsCounted n h es → h ≤ n
heard_most n h es c = let k = fewer (tallies_of es) in let a = c.count in let b = c.open_count in omega arith
  where
    fewer : (ts : List Tally) → length (open_in ts) ≤ length ts
    fewer [] = omega arith
    fewer (t ∷ ts) = by_test (is_open t) (fewer ts)
      where
        by_test : (b : Bool) → length (open_in ts) ≤ length ts → length (cond b (t ∷ open_in ts) (open_in ts)) ≤ suc (length ts)
        by_test true l = omega arith
        by_test false l = omega arith

-- One more acceptance is counted.
pub count_added : (n h k p : ℕ) (vote : Vote) (es fs : Polls) (v w : List Voters) → 1 ≤ k → IsCounted n h es → Some w ≡ lookup (is_at (nat_cmp p)) es → fs ≡ set_value (is_at (nat_cmp p)) es v → v ≡ with_voter k vote w → IsAdded k p vote (tallies_of es) (tallies_of fs)
count_added n h k p vote es fs v w a c o f e = added_at k p vote es fs a c.rise (rw f (rise_set 0 (is_at (nat_cmp p)) v es c.rise)) c.different there
  where
    here : w ≡ poll_at p es
    here = ap found o ∙ poll_found p es

    there : (q : ℕ) → poll_at q fs ≡ cond (eqb q p) (with_voter k vote (poll_at p es)) (poll_at q es)
    there q = rw f (poll_set p q v es (rw (← o) refl) ∙ ap (λ (x : List Voters). cond (eqb q p) x (poll_at q es)) (e ∙ ap (with_voter k vote) here))

-- Nobody is heard where a vote is not there.
pub none_without : (p : ℕ) (vote : Vote) (es : Polls) → None ≡ lookup (is_at (nat_cmp p)) es → has_vote vote (poll_at p es) ≡ true → ⊥
none_without p vote es o e =
    let k : [] ≡ poll_at p es = ap found o ∙ poll_found p es in
    false≢true (ap (has_vote vote) k ∙ e)

-- the votes have as many members' votes with one more
pub length_with : (k : ℕ) (vote : Vote) (xs : List Voters) → has_vote vote xs ≡ true → length (with_voter k vote xs) ≡ length xs
length_with k vote [] e = absurd (false≢true e)
length_with k vote (x ∷ xs) e = by_test (same_vote vote x.vote) (length_with k vote xs) e
  where
    by_test : (b : Bool) → (has_vote vote xs ≡ true → length (with_voter k vote xs) ≡ length xs) → (b || has_vote vote xs) ≡ true → length (cond b (record { vote = x.vote; mask = mask_with x.mask k } ∷ xs) (x ∷ with_voter k vote xs)) ≡ suc (length xs)
    by_test true rest e = refl
    by_test false rest e = ap suc (rest e)

-- What is counted once one more acceptance is.
pub count_counted : (n h k p : ℕ) (vote : Vote) (es fs : Polls) (v w : List Voters) (b : Bool) → IsCounted n h es → Some w ≡ lookup (is_at (nat_cmp p)) es → fs ≡ set_value (is_at (nat_cmp p)) es v → v ≡ with_voter k vote w → has_vote vote w ≡ true → heard_in v ≡ heard_in w + cond b 1 0 → IsCounted n (h + cond b 1 0) fs
count_counted n h k p vote es fs v w b c o f e t g = set_counted n n h (h + cond b 1 0) p v w es fs c o f differ (let a = length_with k vote w t in let d = ap length e in omega arith) (omega arith)
  where
    differ : AreDifferent v
    differ = rw e (different_more k vote w (subst AreDifferent (sym (ap found o ∙ poll_found p es)) (c.different p)))

-- What is counted once a vote has room.
pub room_counted : (n h p : ℕ) (vote : Vote) (es fs : Polls) (v w : List Voters) (b : Bool) → IsCounted n h es → Some w ≡ lookup (is_at (nat_cmp p)) es → fs ≡ set_value (is_at (nat_cmp p)) es v → v ≡ with_room vote w → length v ≡ length w + cond b 1 0 → IsCounted (n + cond b 1 0) h fs × HasTally p vote (tallies_of fs)
room_counted n h p vote es fs v w b c o f e g = (counted, tally_there p vote fs counted.rise ∙ ap (has_vote vote) there ∙ room_there vote w)
  where
    differ : AreDifferent v
    differ = rw e (different_room vote w (subst AreDifferent (sym (ap found o ∙ poll_found p es)) (c.different p)))

    counted : IsCounted (n + cond b 1 0) h fs
    counted = set_counted n (n + cond b 1 0) h h p v w es fs c o f differ (omega arith) (let a = ap length (ap (filter is_heard) e ∙ with_room_heard vote w) in omega arith)

    there : poll_at p fs ≡ with_room vote w
    there = rw f (poll_set p p v es (rw (← o) refl) ∙ rw (eq-eqb p p refl) e)

-- a list without its last vote, if that was room alone
abbrev pub IsWithout : Bool → (v w : List Voters) → Type 0
IsWithout true v w = (vote : Vote) × (w ≡ v ++ record { vote = vote; mask = 0 } ∷ [])
IsWithout false v w = v ≡ w

pub without : (b : Bool) (v w : List Voters) → (b ≡ true → (vote : Vote) × (w ≡ v ++ record { vote = vote; mask = 0 } ∷ [])) → (b ≡ false → v ≡ w) → IsWithout b v w
without true v w t s = t refl
without false v w t s = s refl

-- the same votes are heard
pub without_heard : (b : Bool) (v w : List Voters) → IsWithout b v w → filter is_heard v ≡ filter is_heard w
without_heard true v w i = sym (ap (filter is_heard) i.1 ∙ room_heard i.0 v)
without_heard false v w i = ap (filter is_heard) i

-- a position has no more votes than there are
found_most : (p : ℕ) (w : List Voters) (es : Polls) → Some w ≡ lookup (is_at (nat_cmp p)) es → length w ≤ length (tallies_of es)
found_most p w es o = let e = ap (λ (z : Option (List Voters)). length (found z)) o in let r = number_remove length length length-append length_tallies p es in omega arith

-- a list that had room was not empty
pub without_least : (p : ℕ) (v w : List Voters) (es : Polls) → Some w ≡ lookup (is_at (nat_cmp p)) es → IsWithout true v w → 1 ≤ length (tallies_of es)
without_least p v w es o i = let e = found_most p w es o in let a = ap length i.1 in let d = length-append v (record { vote = i.0; mask = 0 } ∷ []) in omega arith

-- What is counted once room is taken away.
pub without_counted : (n h p : ℕ) (es fs : Polls) (v w : List Voters) (b : Bool) → IsCounted n h es → Some w ≡ lookup (is_at (nat_cmp p)) es → fs ≡ set_value (is_at (nat_cmp p)) es v → IsWithout b v w → IsCounted (n - cond b 1 0) h fs
without_counted n h p es fs v w b c o f i = set_counted n (n - cond b 1 0) h h p v w es fs c o f (differ b i) (by_test b i) (let a = ap length (without_heard b v w i) in omega arith)
  where
    here : AreDifferent w
    here = subst AreDifferent (sym (ap found o ∙ poll_found p es)) (c.different p)

    differ : (b : Bool) → IsWithout b v w → AreDifferent v
    differ true i = different_front v (record { vote = i.0; mask = 0 } ∷ []) (subst AreDifferent i.1 here)
    differ false i = subst AreDifferent (sym i) here

    by_test : (b : Bool) → IsWithout b v w → (n - cond b 1 0) + length w ≡ n + length v
    by_test true i = let a = ap length i.1 in let d = length-append v (record { vote = i.0; mask = 0 } ∷ []) in let m = without_least p v w es o i in let k = c.count in omega arith
    by_test false i = let a = ap length i in omega arith
