-- What is learnt is just what a majority accepted or a member told, and the first of these gives the value.
use Rattle.std.proofs.Common.{◌≡◌, ℕ, zero, suc, ◌+◌, ◌*◌, ◌<◌, ◌≤◌, Bool, true, false, cond, arith, refl, inl, inr, sym, subst, Option, Some, None, ⊎_elim, List, [], ◌∷◌, ◌==◌, ◌&&◌, ◌||◌, eqb-true, ltb-true, is_some}
use Rattle.std.proofs.lemmas.Bool.{and_parts, false≢true, lt-ltb}
use Rattle.std.proofs.lemmas.Option.{none-some, cond_some}
use Rattle.paxos.specs.Lists.{Has}
use Rattle.ballots.specs.Ballot.{count, IsMajority, is_majority}
use Rattle.ballots.specs.Values.{same_vote, positions}
use Rattle.ballots.specs.declared.value.Value.{Value}
use Rattle.ballots.specs.declared.value.Vote.{Vote}
use Rattle.ballots.specs.declared.value.Pair.{Pair}
use Rattle.paxos.specs.Knowledge.{Heard, AcceptedBy, ChosenAre, is_accepted_by, accepted_by, value_at, completed, first, learnt, IsHeard, ByMajority, AsChosen, last_of_run, prefix}
use Rattle.paxos.proofs.Order.{same_vote_equal}
use Rattle.paxos.proofs.News.{first_is}

-- what is heard of older messages is heard still, from this member
count_more : (n : ℕ) (s t : ℕ → Bool) → ((m : ℕ) → s m ≡ true → t m ≡ true) → count n s ≤ count n t
count_more zero s t h = omega arith
count_more (suc n) s t h = one (s (suc n)) (t (suc n)) (h (suc n)) (count_more n s t h)
  where
    one : (a b : Bool) → (a ≡ true → b ≡ true) → count n s ≤ count n t → cond a 1 0 + count n s ≤ cond b 1 0 + count n t
    one true true g q = omega arith
    one true false g q = absurd (false≢true (g refl))
    one false true g q = omega arith
    one false false g q = omega arith

-- a reason to learn stays with more heard
newer_heard : (n p : ℕ) (h : Heard) (older : List Heard) (value : Value) → IsHeard n p older value → IsHeard n p (h ∷ older) value
newer_heard n p h older value (ByMajority vote same majority) = ByMajority vote same
    (let more = count_more n (accepted_by p vote older) (accepted_by p vote (h ∷ older)) (λ m q. rw q (either (is_accepted_by p vote m h))) in omega arith)
  where
    either : (b : Bool) → (b || true) ≡ true
    either true = refl
    either false = refl
newer_heard n p h older value (AsChosen pairs told there) = AsChosen pairs (inr told) there

-- what the newest completes has a reason
completed_heard : (n p : ℕ) (h : Heard) (heard : List Heard) (value : Value) → Has heard h → completed n p h heard ≡ Some value → IsHeard n p heard value
completed_heard n p (AcceptedBy m q vote) heard value here e =
    let c = cond_some (p == q && is_majority n (accepted_by q vote heard)) vote.value value e in
    let a = and_parts (p == q) (is_majority n (accepted_by q vote heard)) c.0 in
    ByMajority vote c.1 (subst (λ x. IsMajority n (accepted_by x vote heard)) (sym (eqb-true p q a.0)) (ltb-true _ _ a.1))
completed_heard n p (ChosenAre pairs) heard value here e = AsChosen pairs here e

-- What is learnt has a reason.
pub learnt_heard : (n p : ℕ) (heard : List Heard) (value : Value) → learnt n p heard ≡ Some value → IsHeard n p heard value
learnt_heard n p [] value e = absurd (none-some value e)
learnt_heard n p (h ∷ older) value e = ⊎_elim
    (λ (o : learnt n p older ≡ Some value). newer_heard n p h older value (learnt_heard n p older value o))
    (λ (o : completed n p h (h ∷ older) ≡ Some value). completed_heard n p h (h ∷ older) value (inl refl) o)
    (first_is (learnt n p older) (completed n p h (h ∷ older)) value e)

-- there is a first where there is a later
some_first : (a b : Option Value) → is_some b ≡ true → is_some (first a b) ≡ true
some_first (Some x) b h = refl
some_first None b h = h

-- what was learnt stays learnt
some_older : (n p : ℕ) (h : Heard) (older : List Heard) → is_some (learnt n p older) ≡ true → is_some (learnt n p (h ∷ older)) ≡ true
some_older n p h older q = one (learnt n p older) q
  where
    one : (o : Option Value) → is_some o ≡ true → is_some (first o (completed n p h (h ∷ older))) ≡ true
    one (Some x) e = refl
    one None e = absurd (false≢true e)

-- a message that doesn't tell of the vote leaves what was heard of it
count_same : (n : ℕ) (s t : ℕ → Bool) → ((m : ℕ) → s m ≡ t m) → count n s ≡ count n t
count_same zero s t h = refl
count_same (suc n) s t h = rw (h (suc n), count_same n s t h) refl

-- a message that does not tell of the vote leaves who accepted it
without : (p : ℕ) (vote : Vote) (h : Heard) (older : List Heard) → ((m : ℕ) → is_accepted_by p vote m h ≡ false) → (m : ℕ) → accepted_by p vote (h ∷ older) m ≡ accepted_by p vote older m
without p vote h older none m = rw (none m) refl

-- what a majority accepted is learnt
majority_learnt : (n p : ℕ) (vote : Vote) (heard : List Heard) → IsMajority n (accepted_by p vote heard) → is_some (learnt n p heard) ≡ true
majority_learnt n p vote [] h = absurd (empty n h)
  where
    none : (k : ℕ) → count k (λ m. false) ≡ 0
    none zero = refl
    none (suc k) = let z = none k in omega arith

    empty : (k : ℕ) → k < 2 * count k (λ m. false) → ⊥
    empty k q = let z = none k in omega arith
majority_learnt n p vote (ChosenAre pairs ∷ older) h = some_older n p (ChosenAre pairs) older
    (majority_learnt n p vote older (subst (λ c. n < 2 * c) (count_same n _ _ (without p vote (ChosenAre pairs) older (λ m. refl))) h))
majority_learnt n p vote (AcceptedBy k q other ∷ older) h = one (λ g. majority_learnt n p vote older g) (p == q && same_vote vote other) refl
  where
    never : (k m : ℕ) → (k == m && false) ≡ false
    never k m = two (k == m)
      where
        two : (b : Bool) → (b && false) ≡ false
        two true = refl
        two false = refl

    one : (IsMajority n (accepted_by p vote older) → is_some (learnt n p older) ≡ true) → (b : Bool) → (p == q && same_vote vote other) ≡ b → is_some (learnt n p (AcceptedBy k q other ∷ older)) ≡ true
    one rest false e = some_older n p (AcceptedBy k q other) older
        (rest (subst (λ c. n < 2 * c) (count_same n _ _ (without p vote (AcceptedBy k q other) older (λ m. rw e (never k m)))) h))
    one rest true e =
        let a = and_parts (p == q) (same_vote vote other) e in
        let here : p ≡ q = eqb-true p q a.0 in
        let same : vote ≡ other = same_vote_equal vote other a.1 in
        let there : IsMajority n (accepted_by q other (AcceptedBy k q other ∷ older)) = subst (λ x. IsMajority n (accepted_by x other (AcceptedBy k q other ∷ older))) here (subst (λ v. IsMajority n (accepted_by p v (AcceptedBy k q other ∷ older))) same h) in
        some_first (learnt n p older) _ (rw a.0 (rw (lt-ltb _ _ there) refl))

-- what was told as chosen is learnt
chosen_learnt : (n p : ℕ) (pairs : List Pair) (value : Value) (heard : List Heard) → Has heard (ChosenAre pairs) → value_at p pairs ≡ Some value → is_some (learnt n p heard) ≡ true
chosen_learnt n p pairs value [] h e = absurd h
chosen_learnt n p pairs value (x ∷ older) (inl q) e = some_first (learnt n p older) _ (subst (λ y. is_some (completed n p y (x ∷ older)) ≡ true) (sym q) (rw e refl))
chosen_learnt n p pairs value (x ∷ older) (inr q) e = some_older n p x older (chosen_learnt n p pairs value older q e)

-- What has a reason is learnt.
pub heard_learnt : (n p : ℕ) (heard : List Heard) (value : Value) → IsHeard n p heard value → is_some (learnt n p heard) ≡ true
heard_learnt n p heard value (ByMajority vote same majority) = majority_learnt n p vote heard majority
heard_learnt n p heard value (AsChosen pairs told there) = chosen_learnt n p pairs value heard told there

-- a run that ends before its limit ends where the test fails
run_ends : (test : ℕ → Bool) (k p : ℕ) → last_of_run test k p < p + k → test (suc (last_of_run test k p)) ≡ false
run_ends test zero p l = absurd (omega arith)
run_ends test (suc k) p l = one (λ q. run_ends test k (suc p) q) (test (suc p)) refl l
  where
    one : (last_of_run test k (suc p) < suc p + k → test (suc (last_of_run test k (suc p))) ≡ false) → (c : Bool) → test (suc p) ≡ c → elim c as (λ x. ℕ) [ true ↦ last_of_run test k (suc p) | false ↦ p ] < p + suc k
        → test (suc (elim c as (λ x. ℕ) [ true ↦ last_of_run test k (suc p) | false ↦ p ])) ≡ false
    one rest true e q = rest (omega arith)
    one rest false e q = e

-- what is not some is none
not_some : (o : Option Value) → is_some o ≡ false → o ≡ None
not_some None e = refl
not_some (Some v) e = absurd (false≢true (sym e))

-- the position after a prefix that isn't all is not learnt
pub prefix_ends : (n : ℕ) (heard : List Heard) → prefix n heard < positions → learnt n (suc (prefix n heard)) heard ≡ None
prefix_ends n heard l = not_some _ (run_ends (λ p. is_some (learnt n p heard)) positions 0 (omega arith))
