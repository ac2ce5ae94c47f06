-- What is read off the news that a learner heard.
use Rattle.std.proofs.Common.{◌≡◌, ℕ, zero, suc, ◌+◌, ◌<◌, ◌≤◌, Bool, true, false, cond, arith, refl, ◌⊎◌, inl, inr, sym, subst, ap, ◌∙◌, Option, Some, None, ⊎_elim, List, [], ◌∷◌, ◌++◌, map, length, ◌==◌, ◌&&◌, eqb-true, ltb-true, is_some, is_none, option_to_list}
use Rattle.std.specs.Prelude.{flat_map}
use Rattle.std.proofs.lemmas.Bool.{and_parts, false≢true, cases_lt}
use Rattle.std.proofs.lemmas.Option.{none-some, same_Some, cond_some}
use Rattle.paxos.specs.Lists.{Has}
use Rattle.ballots.specs.Ballot.{is_majority}
use Rattle.ballots.specs.Values.{positions}
use Rattle.ballots.specs.declared.value.Value.{Value}
use Rattle.ballots.specs.declared.value.Vote.{Vote}
use Rattle.ballots.specs.declared.value.Pair.{Pair}
use Rattle.ballots.specs.Messages.{Packet, Body, Accepted, Chosen}
use Rattle.paxos.specs.Knowledge.{Heard, AcceptedBy, ChosenAre, news_of, news, is_accepted_by, accepted_by, value_at, completed, first, learnt, pair_of, newly_at, newly, last_of_run, prefix, learnt_from}
use Rattle.paxos.specs.World.{World}
use Rattle.paxos.specs.Agreement.{HasVoted, IsChosen}
use Rattle.paxos.proofs.Order.{same_vote_equal}
use Rattle.paxos.proofs.Lists.{any_has, has_cases, flat_has}

-- the test tells what was heard
is_accepted : (p : ℕ) (v : Vote) (m : ℕ) (h : Heard) → is_accepted_by p v m h ≡ true → h ≡ AcceptedBy m p v
is_accepted p v m (AcceptedBy k q u) h =
    let a = and_parts _ _ h in
    let b = and_parts _ _ a.1 in
    ap (λ (x : ℕ). AcceptedBy x q u) (eqb-true k m a.0) ∙ ap (λ (x : ℕ). AcceptedBy m x u) (sym (eqb-true p q b.0)) ∙ ap (λ (x : Vote). AcceptedBy m p x) (sym (same_vote_equal v u b.1))
is_accepted p v m (ChosenAre pairs) h = absurd (false≢true h)

-- a value told for a position is among the pairs
pub pair_has : (p : ℕ) (pairs : List Pair) (value : Value) → value_at p pairs ≡ Some value → Has pairs (record { position = p; value = value })
pair_has p [] value h = absurd (none-some value h)
pair_has p (e ∷ es) value h = one (pair_has p es value) (p == e.position) refl h
  where
    one : (value_at p es ≡ Some value → Has es (record { position = p; value = value })) → (c : Bool) → (p == e.position) ≡ c → cond c (Some e.value) (value_at p es) ≡ Some value → Has (e ∷ es) (record { position = p; value = value })
    one rest true k q = inl (ap (λ (x : ℕ). record { position = x; value = e.value }) (sym (eqb-true p e.position k)) ∙ ap (λ (x : Value). record { position = p; value = x }) (same_Some e.value value q))
    one rest false k q = inr (rest q)

-- What is heard is true of the world.
pub record IsTruth (w : World) (heard : List Heard) : Type 0 where
  pub accepted : (m p : ℕ) (v : Vote) → Has heard (AcceptedBy m p v) → HasVoted w m p v
  pub chosen : (pairs : List Pair) (e : Pair) → Has heard (ChosenAre pairs) → Has pairs e → IsChosen w e.position e.value

-- what a majority was truly heard to accept is chosen
majority_chosen : (w : World) (p : ℕ) (heard : List Heard) (v : Vote) → IsTruth w heard → is_majority (length w.members) (accepted_by p v heard) ≡ true → IsChosen w p v.value
majority_chosen w p heard v t h = record {
  ballot = v.ballot;
  set = accepted_by p v heard;
  majority = ltb-true _ _ h;
  voted = λ m k.
      let a = any_has (is_accepted_by p v m) heard k in
      t.accepted m p v (subst (Has heard) (is_accepted p v m a.0 a.2) a.1);
}

-- what the newest completes is chosen
completed_chosen : (w : World) (p : ℕ) (h : Heard) (heard : List Heard) (value : Value) → IsTruth w heard → Has heard h → completed (length w.members) p h heard ≡ Some value → IsChosen w p value
completed_chosen w p (AcceptedBy m q v) heard value t here e =
    let c = cond_some (p == q && is_majority (length w.members) (accepted_by q v heard)) v.value value e in
    let a = and_parts _ _ c.0 in
    subst (IsChosen w p) c.1 (subst (λ x. IsChosen w x v.value) (sym (eqb-true p q a.0)) (majority_chosen w q heard v t a.1))
completed_chosen w p (ChosenAre pairs) heard value t here e = t.chosen pairs (record { position = p; value = value }) here (pair_has p pairs value e)

-- the first is one of the two
pub first_is : (a b : Option Value) (v : Value) → first a b ≡ Some v → (a ≡ Some v) ⊎ (b ≡ Some v)
first_is (Some x) b v h = inl h
first_is None b v h = inr h

-- what is learnt is chosen
pub learnt_chosen : (w : World) (p : ℕ) (heard : List Heard) (value : Value) → IsTruth w heard → learnt (length w.members) p heard ≡ Some value → IsChosen w p value
learnt_chosen w p [] value t h = absurd (none-some value h)
learnt_chosen w p (k ∷ older) value t h = ⊎_elim
    (λ (o : learnt (length w.members) p older ≡ Some value). learnt_chosen w p older value
    (record { accepted = λ m q v a. t.accepted m q v (inr a); chosen = λ pairs d a. t.chosen pairs d (inr a) }) o)
    (λ (o : completed (length w.members) p k (k ∷ older) ≡ Some value). completed_chosen w p k (k ∷ older) value t (inl refl) o)
    (first_is (learnt (length w.members) p older) (completed (length w.members) p k (k ∷ older)) value h)

-- the pair of a position and what is learnt there
pair_chosen : (w : World) (p : ℕ) (heard : List Heard) (o : Option Value) → IsTruth w heard → learnt (length w.members) p heard ≡ o → (e : Pair) → Has (map (pair_of p) (option_to_list o)) e → IsChosen w e.position e.value
pair_chosen w p heard None t q e h = absurd h
pair_chosen w p heard (Some v) t q e (inl h) = subst (λ (x : Pair). IsChosen w x.position x.value) h (learnt_chosen w p heard v t q)
pair_chosen w p heard (Some v) t q e (inr h) = absurd h

-- what is news at a position is chosen
newly_at_chosen : (w : World) (k : Heard) (older : List Heard) (p : ℕ) → IsTruth w (k ∷ older) → (e : Pair) → Has (newly_at (length w.members) k older p) e → IsChosen w e.position e.value
newly_at_chosen w k older p t e h = one (is_none (learnt (length w.members) p older)) h
  where
    one : (c : Bool) → Has (cond c (map (pair_of p) (option_to_list (learnt (length w.members) p (k ∷ older)))) []) e → IsChosen w e.position e.value
    one true q = pair_chosen w p (k ∷ older) (learnt (length w.members) p (k ∷ older)) t refl e q
    one false q = absurd q

-- what is news at some positions is chosen
each_newly_chosen : (w : World) (k : Heard) (older : List Heard) (pairs : List Pair) → IsTruth w (k ∷ older) → (e : Pair) → Has (flat_map (λ (d : Pair). newly_at (length w.members) k older d.position) pairs) e → IsChosen w e.position e.value
each_newly_chosen w k older [] t e h = absurd h
each_newly_chosen w k older (d ∷ ds) t e h = ⊎_elim
    (λ (o : Has (newly_at (length w.members) k older d.position) e). newly_at_chosen w k older d.position t e o)
    (λ (o : Has (flat_map (λ (d : Pair). newly_at (length w.members) k older d.position) ds) e). each_newly_chosen w k older ds t e o)
    (has_cases (newly_at (length w.members) k older d.position) (flat_map (λ (d : Pair). newly_at (length w.members) k older d.position) ds) e h)

-- what is newly learnt is chosen
pub newly_chosen : (w : World) (k : Heard) (older : List Heard) → IsTruth w (k ∷ older) → (e : Pair) → Has (newly (length w.members) k older) e → IsChosen w e.position e.value
newly_chosen w (AcceptedBy m p v) older t e h = newly_at_chosen w (AcceptedBy m p v) older p t e h
newly_chosen w (ChosenAre pairs) older t e h = each_newly_chosen w (ChosenAre pairs) older pairs t e h

-- what a member tells another that asks is chosen
pub learnt_from_chosen : (w : World) (heard : List Heard) (p k : ℕ) → IsTruth w heard → (e : Pair) → Has (learnt_from (length w.members) heard p k) e → IsChosen w e.position e.value
learnt_from_chosen w heard p zero t e h = absurd h
learnt_from_chosen w heard p (suc k) t e h = ⊎_elim
    (λ (o : Has (map (pair_of p) (option_to_list (learnt (length w.members) p heard))) e). pair_chosen w p heard (learnt (length w.members) p heard) t refl e o)
    (λ (o : Has (learnt_from (length w.members) heard (suc p) k) e). learnt_from_chosen w heard (suc p) k t e o)
    (has_cases (map (pair_of p) (option_to_list (learnt (length w.members) p heard))) (learnt_from (length w.members) heard (suc p) k) e h)

-- what was learnt stays learnt
pub learnt_more : (n p : ℕ) (k : Heard) (older : List Heard) (value : Value) → learnt n p older ≡ Some value → learnt n p (k ∷ older) ≡ Some value
learnt_more n p k older value h = rw h refl

-- what was learnt stays learnt, however much more is heard
pub learnt_stays : (n p : ℕ) (more older : List Heard) (value : Value) → learnt n p older ≡ Some value → learnt n p (more ++ older) ≡ Some value
learnt_stays n p [] older value h = h
learnt_stays n p (k ∷ more) older value h = learnt_more n p k (more ++ older) value (learnt_stays n p more older value h)

-- what was not learnt, and is now, is news at its position
newly_at_has : (n : ℕ) (h : Heard) (older : List Heard) (p : ℕ) (value : Value) → learnt n p older ≡ None → learnt n p (h ∷ older) ≡ Some value → Has (newly_at n h older p) (pair_of p value)
newly_at_has n h older p value a b = one (is_none (learnt n p older)) (ap is_none a) (learnt n p (h ∷ older)) b
  where
    one : (c : Bool) → c ≡ true → (o : Option Value) → o ≡ Some value → Has (cond c (map (pair_of p) (option_to_list o)) []) (pair_of p value)
    one true e None q = absurd (none-some value q)
    one true e (Some x) q = inl (ap (pair_of p) (same_Some x value q))
    one false e o q = absurd (false≢true e)

-- without a first the later is left
none_first : (a b : Option Value) (value : Value) → a ≡ None → first a b ≡ Some value → b ≡ Some value
none_first None b value e h = h
none_first (Some x) b value e h = absurd (none-some x (sym e))

-- what the newest completes is news
newly_when : (n : ℕ) (h : Heard) (older : List Heard) (p : ℕ) (value : Value) → learnt n p older ≡ None → learnt n p (h ∷ older) ≡ Some value → completed n p h (h ∷ older) ≡ Some value → Has (newly n h older) (pair_of p value)
newly_when n (AcceptedBy m q vote) older p value a b c =
    let d = cond_some (p == q && is_majority n (accepted_by q vote (AcceptedBy m q vote ∷ older))) vote.value value c in
    subst (λ x. Has (newly_at n (AcceptedBy m q vote) older x) (pair_of p value)) (eqb-true p q (and_parts (p == q) (is_majority n (accepted_by q vote (AcceptedBy m q vote ∷ older))) d.0).0) (newly_at_has n (AcceptedBy m q vote) older p value a b)
newly_when n (ChosenAre pairs) older p value a b c =
    flat_has (λ (e : Pair). newly_at n (ChosenAre pairs) older e.position) pairs (pair_of p value) (pair_of p value) (pair_has p pairs value c) (newly_at_has n (ChosenAre pairs) older p value a b)

-- what is learnt was learnt before or is newly learnt
pub newly_or_older : (n : ℕ) (h : Heard) (older : List Heard) (p : ℕ) (value : Value) → learnt n p (h ∷ older) ≡ Some value → (learnt n p older ≡ Some value) ⊎ Has (newly n h older) (pair_of p value)
newly_or_older n h older p value e = one (learnt n p older) refl
  where
    one : (o : Option Value) → learnt n p older ≡ o → (learnt n p older ≡ Some value) ⊎ Has (newly n h older) (pair_of p value)
    one (Some x) q = inl (q ∙ sym (learnt_more n p h older x q) ∙ e)
    one None q = inr (newly_when n h older p value q e (none_first (learnt n p older) (completed n p h (h ∷ older)) value q e))

-- a run reaches at least its beginning
pub run_from : (test : ℕ → Bool) (k p : ℕ) → p ≤ last_of_run test k p
run_from test zero p = omega arith
run_from test (suc k) p = one (λ (u : Unit {0}). run_from test k (suc p)) (test (suc p))
  where
    one : (Unit {0} → suc p ≤ last_of_run test k (suc p)) → (c : Bool) → p ≤ elim c as (λ x. ℕ) [ true ↦ last_of_run test k (suc p) | false ↦ p ]
    one rest true = let r = rest tt in omega arith
    one rest false = omega arith

-- and passes the test at each position up to its last
pub run_passes : (test : ℕ → Bool) (k p q : ℕ) → p < q → q ≤ last_of_run test k p → test q ≡ true
run_passes test zero p q l h = absurd (omega arith)
run_passes test (suc k) p q l h = one (λ g. run_passes test k (suc p) q g) (test (suc p)) refl h
  where
    at_most : (p q : ℕ) → p < q → q ≤ suc p → suc p ≡ q
    at_most p q a b = omega arith

    one : (suc p < q → q ≤ last_of_run test k (suc p) → test q ≡ true) → (c : Bool) → test (suc p) ≡ c → q ≤ elim c as (λ x. ℕ) [ true ↦ last_of_run test k (suc p) | false ↦ p ] → test q ≡ true
    one rest false e g = absurd (omega arith)
    one rest true e g = ⊎_elim (λ (a : suc p < q). rest a g) (λ (a : q ≤ suc p). subst (λ x. test x ≡ true) (at_most p q l a) e) (cases_lt (suc p) q)

-- a run is no longer than its limit
run_limit : (test : ℕ → Bool) (k p : ℕ) → last_of_run test k p ≤ p + k
run_limit test zero p = omega arith
run_limit test (suc k) p = one (test (suc p)) (run_limit test k (suc p))
  where
    one : (t : Bool) → last_of_run test k (suc p) ≤ suc p + k → elim t as (λ x. ℕ) [ true ↦ last_of_run test k (suc p) | false ↦ p ] ≤ p + suc k
    one true h = omega (arith, h)
    one false h = omega arith

-- the prefix is at most all positions
pub prefix_limit : (n : ℕ) (heard : List Heard) → prefix n heard ≤ positions
prefix_limit n heard = let l = run_limit (λ p. is_some (learnt n p heard)) positions 0 in omega (arith, l)

-- a test that passes more has a longer run
pub run_longer : (f g : ℕ → Bool) → ((q : ℕ) → f q ≡ true → g q ≡ true) → (k p : ℕ) → last_of_run f k p ≤ last_of_run g k p
run_longer f g more zero p = omega arith
run_longer f g more (suc k) p = one (run_longer f g more k (suc p)) (f (suc p)) refl
  where
    two : last_of_run f k (suc p) ≤ last_of_run g k (suc p) → (c : Bool) → c ≡ true → last_of_run f k (suc p) ≤ elim c as (λ x. ℕ) [ true ↦ last_of_run g k (suc p) | false ↦ p ]
    two rest true e = rest
    two rest false e = absurd (false≢true e)

    one : last_of_run f k (suc p) ≤ last_of_run g k (suc p) → (c : Bool) → f (suc p) ≡ c → elim c as (λ x. ℕ) [ true ↦ last_of_run f k (suc p) | false ↦ p ] ≤ last_of_run g (suc k) p
    one rest true e = two rest (g (suc p)) (more (suc p) e)
    one rest false e = run_from g (suc k) p

-- a learnt position stays learnt
some_stays : (n p : ℕ) (more older : List Heard) → is_some (learnt n p older) ≡ true → is_some (learnt n p (more ++ older)) ≡ true
some_stays n p more older h = one (learnt n p older) refl h
  where
    one : (o : Option Value) → learnt n p older ≡ o → is_some o ≡ true → is_some (learnt n p (more ++ older)) ≡ true
    one None e q = absurd (false≢true q)
    one (Some v) e q = rw (learnt_stays n p more older v e) refl

-- with more heard the prefix is no shorter
pub prefix_grows : (n : ℕ) (more older : List Heard) → prefix n older ≤ prefix n (more ++ older)
prefix_grows n more older = run_longer (λ p. is_some (learnt n p older)) (λ p. is_some (learnt n p (more ++ older))) (λ q h. some_stays n q more older h) positions 0

-- what is some has a value
is_some_value : (o : Option Value) → is_some o ≡ true → (value : Value) × (o ≡ Some value)
is_some_value None h = absurd (false≢true h)
is_some_value (Some v) h = (v, refl)

-- each position up to the prefix is learnt
pub prefix_learnt : (n : ℕ) (heard : List Heard) (p : ℕ) → 0 < p → p ≤ prefix n heard → (value : Value) × (learnt n p heard ≡ Some value)
prefix_learnt n heard p l h = is_some_value (learnt n p heard) (run_passes (λ q. is_some (learnt n q heard)) positions 0 p l h)

-- where a message stands that gave the news
pub record Gave (packets : List Packet) (h : Heard) : Type 0 where
  pub packet : Packet
  pub there : Has packets packet
  pub gives : Has (news_of packet.sender packet.body) h

-- news comes from a message
pub news_given : (packets : List Packet) (h : Heard) → Has (news packets) h → Gave packets h
news_given [] h q = absurd q
news_given (k ∷ older) h q = ⊎_elim
    (λ (o : Has (news_of k.sender k.body) h). record { packet = k; there = inl refl; gives = o })
    (λ (o : Has (news older) h). let r = news_given older h o in record { packet = r.packet; there = inr r.there; gives = r.gives })
    (has_cases (news_of k.sender k.body) (news older) h q)

-- a message that says this was among them
pub said_accepted : (sender : ℕ) (body : Body) (m p : ℕ) (v : Vote) → Has (news_of sender body) (AcceptedBy m p v) → (sender ≡ m) × (body ≡ Accepted p v)
said_accepted sender (Accepted q u) m p v (inl h) = (ap member_in h, ap accepted_in h)
  where
    member_in : Heard → ℕ
    member_in (AcceptedBy k x y) = k
    member_in (ChosenAre pairs) = 0

    accepted_in : Heard → Body
    accepted_in (AcceptedBy k x y) = Accepted x y
    accepted_in (ChosenAre pairs) = Chosen pairs
said_accepted sender (Accepted q u) m p v (inr h) = absurd h
said_accepted sender (Chosen pairs) m p v (inl h) = absurd (no h)
  where
    no : ChosenAre pairs ≡ AcceptedBy m p v → ⊥
    no e = cc
said_accepted sender (Chosen pairs) m p v (inr h) = absurd h
said_accepted sender body m p v h = absurd h

-- news of chosen values comes from a Chosen
pub said_chosen : (sender : ℕ) (body : Body) (pairs : List Pair) → Has (news_of sender body) (ChosenAre pairs) → body ≡ Chosen pairs
said_chosen sender (Accepted q u) pairs (inl h) = absurd (no h)
  where
    no : AcceptedBy sender q u ≡ ChosenAre pairs → ⊥
    no e = cc
said_chosen sender (Accepted q u) pairs (inr h) = absurd h
said_chosen sender (Chosen others) pairs (inl h) = ap body_in h
  where
    body_in : Heard → Body
    body_in (AcceptedBy k x y) = Accepted x y
    body_in (ChosenAre those) = Chosen those
said_chosen sender (Chosen others) pairs (inr h) = absurd h
said_chosen sender body pairs h = absurd h
