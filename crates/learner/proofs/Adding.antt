-- One more acceptance of a vote.
use Rattle.std.proofs.Common.{◌≡◌, ◌≢◌, ℕ, ◌-◌, ◌^◌, ◌<◌, ◌≤◌, Bool, true, false, cond, ◌&&◌, ◌||◌, arith, refl, sym, ap, subst, ◌∙◌, ◌⊎◌, inl, inr, ⊎_elim, List, [], ◌∷◌, Option, eqb, nat_cmp, max}
use Rattle.std.proofs.lemmas.Bool.{false≢true, eq-eqb, ne_eqb, cases_eq, cases_Bool, or_parts}
use Rattle.std.proofs.lemmas.Nat.Bits.{bit_at-zero, bit_at_or, bit_at-pow_same, bit_at-pow_other, bit_at-lt}
use Rattle.std.specs.Int.{bit_at}
use Rattle.std.specs.List.{list_any}
use Rattle.std.specs.Map.{lookup}
use Rattle.std.specs.BTreeMap.{is_at}
use Rattle.ballots.specs.Ballot.{has_member}
use Rattle.ballots.specs.Values.{same_vote}
use Rattle.ballots.specs.declared.value.Vote.{Vote}
use Rattle.paxos.specs.Lists.{Has}
use Rattle.paxos.proofs.Order.{same_vote_equal}
use Rattle.learner.specs.declared.poll.Voters.{Voters}
use Rattle.learner.specs.Hearing.{is_tallied}
use Rattle.learner.specs.Polls.{mask_in, mask_with, with_voter, is_voter, AreDifferent, Polls, poll_at, tallies_of, IsCounted}
use Rattle.learner.proofs.Tallying.{found, poll_found, tallied_poll}

-- no member is in an empty mask
pub nobody : (m : ℕ) → has_member 0 m ≡ false
nobody m = rw (bit_at-zero (m - 1)) refl

-- a member joins those of a mask
pub joined : (mask k m : ℕ) → 1 ≤ k → 1 ≤ m → has_member (mask_with mask k) m ≡ (eqb k m || has_member mask m)
joined mask k m a b = ⊎_elim (λ (e : k ≡ m). same e) (λ (n : k ≡ m → ⊥). other n) (cases_eq k m)
  where
    up : (i : ℕ) → i < 2 → max i 1 ≡ 1
    up i l = omega arith

    down : (i : ℕ) → max i 0 ≡ i
    down i = omega arith

    same : k ≡ m → has_member (mask_with mask k) m ≡ (eqb k m || has_member mask m)
    same e = rw (eq-eqb k m e, e, bit_at_or mask (2 ^ (m - 1)) (m - 1), bit_at-pow_same (m - 1), up (bit_at mask (m - 1)) (bit_at-lt mask (m - 1))) refl

    other : (k ≡ m → ⊥) → has_member (mask_with mask k) m ≡ (eqb k m || has_member mask m)
    other n = rw (ne_eqb k m n, bit_at_or mask (2 ^ (k - 1)) (m - 1), bit_at-pow_other (k - 1) (m - 1) (λ e. n (omega arith)), down (bit_at mask (m - 1))) refl

-- a vote that stands nowhere has no members
none_voted : (vote : Vote) (m : ℕ) (xs : List Voters) → list_any (λ (y : Voters). same_vote vote y.vote) xs ≡ false → list_any (is_voter vote m) xs ≡ false
none_voted vote m [] h = refl
none_voted vote m (x ∷ xs) h = by_test (none_voted vote m xs) (same_vote vote x.vote) h
  where
    by_test : (list_any (λ (y : Voters). same_vote vote y.vote) xs ≡ false → list_any (is_voter vote m) xs ≡ false) → (b : Bool) → (b || list_any (λ (y : Voters). same_vote vote y.vote) xs) ≡ false → ((b && has_member x.mask m) || list_any (is_voter vote m) xs) ≡ false
    by_test rest true e = absurd (false≢true (sym e))
    by_test rest false e = rest e

-- where votes are different, the first has all members of its vote
mask_voters : (vote : Vote) (m : ℕ) (xs : List Voters) → AreDifferent xs → has_member (mask_in vote xs) m ≡ list_any (is_voter vote m) xs
mask_voters vote m [] d = nobody m
mask_voters vote m (x ∷ xs) d = by_test (mask_voters vote m xs d.1) (same_vote vote x.vote) refl
  where
    or_false : (b : Bool) → b ≡ (b || false)
    or_false true = refl
    or_false false = refl

    by_test : has_member (mask_in vote xs) m ≡ list_any (is_voter vote m) xs → (b : Bool) → same_vote vote x.vote ≡ b → has_member (cond b x.mask (mask_in vote xs)) m ≡ ((b && has_member x.mask m) || list_any (is_voter vote m) xs)
    by_test rest true e =
        let k : vote ≡ x.vote = same_vote_equal vote x.vote e in
        let n : list_any (is_voter vote m) xs ≡ false = none_voted vote m xs (subst (λ (v : Vote). list_any (λ (y : Voters). same_vote v y.vote) xs ≡ false) (sym k) d.0) in
        rw n (or_false (has_member x.mask m))
    by_test rest false e = rest

-- The members of what was found for a vote are those that are tallied.
pub mask_tallied : (p : ℕ) (vote : Vote) (m n h : ℕ) (es : Polls) (o : Option (List Voters)) → IsCounted n h es → o ≡ lookup (is_at (nat_cmp p)) es → has_member (mask_in vote (found o)) m ≡ is_tallied (tallies_of es) p vote m
mask_tallied p vote m n h es o c e =
    let f : found o ≡ poll_at p es = ap found e ∙ poll_found p es in
    rw f (mask_voters vote m (poll_at p es) (c.different p)) ∙ sym (tallied_poll p 0 vote m es c.rise)

-- tests in another order
mixed : (a b c r : Bool) → ((a && (b || c)) || r) ≡ ((b && a) || ((a && c) || r))
mixed true true c r = refl
mixed true false c r = refl
mixed false true c r = refl
mixed false false c r = refl

swapped : (x y r : Bool) → (x || (y || r)) ≡ (y || (x || r))
swapped true true r = refl
swapped true false r = refl
swapped false y r = refl

alone : (a b c : Bool) → c ≡ false → ((a && (b || c)) || false) ≡ ((b && a) || false)
alone true true c e = refl
alone true false c e = rw e refl
alone false true c e = refl
alone false false c e = refl

-- who accepted a vote, with one more acceptance
pub voted_more : (k : ℕ) (v u : Vote) (m : ℕ) (xs : List Voters) → 1 ≤ k → 1 ≤ m → list_any (is_voter u m) (with_voter k v xs) ≡ ((eqb k m && same_vote u v) || list_any (is_voter u m) xs)
voted_more k v u m [] a b = rw (joined 0 k m a b) (alone (same_vote u v) (eqb k m) (has_member 0 m) (nobody m))
voted_more k v u m (x ∷ xs) a b = by_test (voted_more k v u m xs a b) (same_vote v x.vote) refl
  where
    by_test : list_any (is_voter u m) (with_voter k v xs) ≡ ((eqb k m && same_vote u v) || list_any (is_voter u m) xs) → (t : Bool) → same_vote v x.vote ≡ t → list_any (is_voter u m) (cond t (record { vote = x.vote; mask = mask_with x.mask k } ∷ xs) (x ∷ with_voter k v xs)) ≡ ((eqb k m && same_vote u v) || ((same_vote u x.vote && has_member x.mask m) || list_any (is_voter u m) xs))
    by_test rest true e =
        let w : v ≡ x.vote = same_vote_equal v x.vote e in
        let s : same_vote u v ≡ same_vote u x.vote = ap (λ (z : Vote). same_vote u z) w in
        rw (joined x.mask k m a b, s) (mixed (same_vote u x.vote) (eqb k m) (has_member x.mask m) (list_any (is_voter u m) xs))
    by_test rest false e = rw rest (swapped (same_vote u x.vote && has_member x.mask m) (eqb k m && same_vote u v) (list_any (is_voter u m) xs))

-- a vote that stands nowhere stands nowhere after another one's acceptance
still_absent : (k : ℕ) (v w : Vote) (xs : List Voters) → same_vote w v ≡ false → list_any (λ (y : Voters). same_vote w y.vote) xs ≡ false → list_any (λ (y : Voters). same_vote w y.vote) (with_voter k v xs) ≡ false
still_absent k v w [] n h = rw n refl
still_absent k v w (x ∷ xs) n h = let g = or_parts (same_vote w x.vote) (list_any (λ (y : Voters). same_vote w y.vote) xs) h in by_test g.0 (still_absent k v w xs n g.1) (same_vote v x.vote)
  where
    by_test : same_vote w x.vote ≡ false → list_any (λ (y : Voters). same_vote w y.vote) (with_voter k v xs) ≡ false → (t : Bool) → list_any (λ (y : Voters). same_vote w y.vote) (cond t (record { vote = x.vote; mask = mask_with x.mask k } ∷ xs) (x ∷ with_voter k v xs)) ≡ false
    by_test e rest true = h
    by_test e rest false = rw e rest

-- two votes are the same either way
pub other_way : (a b : Vote) → same_vote a b ≡ false → same_vote b a ≡ false
other_way a b h = ⊎_elim (λ (e : same_vote b a ≡ true). let w : b ≡ a = same_vote_equal b a e in absurd (false≢true (sym h ∙ ap (λ (z : Vote). same_vote a z) w ∙ ap (λ (z : Vote). same_vote z a) (sym w) ∙ e))) (λ (e : same_vote b a ≡ false). e) (cases_Bool (same_vote b a))

-- votes stay different
pub different_more : (k : ℕ) (v : Vote) (xs : List Voters) → AreDifferent xs → AreDifferent (with_voter k v xs)
different_more k v [] d = (refl, tt)
different_more k v (x ∷ xs) d = by_test (different_more k v xs d.1) (same_vote v x.vote) refl
  where
    by_test : AreDifferent (with_voter k v xs) → (t : Bool) → same_vote v x.vote ≡ t → AreDifferent (cond t (record { vote = x.vote; mask = mask_with x.mask k } ∷ xs) (x ∷ with_voter k v xs))
    by_test rest true e = (d.0, d.1)
    by_test rest false e = (still_absent k v x.vote xs (other_way v x.vote e) d.0, rest)

-- a mask with a member is not empty
pub marked : (mask k : ℕ) → 1 ≤ k → mask_with mask k ≢ 0
marked mask k a e = false≢true (sym (nobody k) ∙ ap (λ (n : ℕ). has_member n k) (sym e) ∙ joined mask k k a a ∙ ap (λ (b : Bool). b || has_member mask k) (eq-eqb k k refl))

-- what is there after one more acceptance
pub has_more : (k : ℕ) (v : Vote) (xs : List Voters) (y : Voters) → 1 ≤ k → Has (with_voter k v xs) y → Has xs y ⊎ (y.mask ≢ 0)
has_more k v [] y a (inl e) = inr (subst (λ (z : Voters). z.mask ≢ 0) e (marked 0 k a))
has_more k v [] y a (inr h) = absurd h
has_more k v (x ∷ xs) y a h = by_test (has_more k v xs y a) (same_vote v x.vote) h
  where
    by_test : (Has (with_voter k v xs) y → Has xs y ⊎ (y.mask ≢ 0)) → (t : Bool) → Has (cond t (record { vote = x.vote; mask = mask_with x.mask k } ∷ xs) (x ∷ with_voter k v xs)) y → Has (x ∷ xs) y ⊎ (y.mask ≢ 0)
    by_test rest true (inl e) = inr (subst (λ (z : Voters). z.mask ≢ 0) e (marked x.mask k a))
    by_test rest true (inr g) = inl (inr g)
    by_test rest false (inl e) = inl (inl e)
    by_test rest false (inr g) = ⊎_elim (λ (q : Has xs y). inl (inr q)) (λ (q : y.mask ≢ 0). inr q) (rest g)
