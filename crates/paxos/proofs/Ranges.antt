-- Votes and values at positions stay in their ranges: what records, windows and messages hold.
use Rattle.std.proofs.Common.{◌≡◌, ℕ, zero, suc, ◌+◌, ◌≤◌, Bool, true, false, cond, arith, refl, ◌⊎◌, inl, inr, sym, subst, ap, Option, Some, None, ⊎_elim, List, [], ◌∷◌, ◌++◌, map, length, take, eqb-true, ltb-true, ltb-false, eqb, ltb, is_none, option_to_list}
use Rattle.std.specs.Prelude.{flat_map}
use Rattle.std.proofs.lemmas.Bool.{eqb-false}
use Rattle.std.proofs.lemmas.List.{length-take}
use Rattle.ballots.specs.Ballot.{IsBallotOf, below}
use Rattle.ballots.specs.declared.ballot.Ballot.{Ballot}
use Rattle.ballots.specs.Values.{IsPosition, positions}
use Rattle.ballots.specs.declared.value.Value.{Value}
use Rattle.ballots.specs.declared.value.Vote.{Vote}
use Rattle.ballots.specs.declared.value.Entry.{Entry}
use Rattle.ballots.specs.declared.value.Pair.{Pair}
use Rattle.paxos.specs.Records.{with_vote, since, covered_by, window}
use Rattle.paxos.specs.Knowledge.{Heard, learnt, pair_of, newly_at, learnt_from}
use Rattle.paxos.specs.WellFormed.{AreVotes, ArePairs, last_position, IsWindow}
use Rattle.paxos.proofs.Order.{below_self, most_trans}

-- votes from less on, up to more, under a ballot that is not lower
pub votes_weaker : (n : ℕ) (a b : Ballot) (l k m j : ℕ) → below b a ≡ false → k ≤ l → m ≤ j → (es : List Entry) → AreVotes n a l m es → AreVotes n b k j es
votes_weaker n a b l k m j g low high [] h = tt
votes_weaker n a b l k m j g low high (e ∷ es) h =
    (omega (arith, h.0), omega (arith, h.1), h.2, most_trans e.vote.ballot a b h.3 g, votes_weaker n a b (suc e.position) (suc e.position) m j g (omega arith) high es h.4)

-- with one more
pub votes_with : (n : ℕ) (b : Ballot) (p : ℕ) (v : Vote) (l m : ℕ) → l ≤ p → p ≤ m → IsBallotOf n v.ballot → below b v.ballot ≡ false → (es : List Entry) → AreVotes n b l m es → AreVotes n b l m (with_vote p v es)
votes_with n b p v l m low high is g [] h = (low, high, is, g, tt)
votes_with n b p v l m low high is g (e ∷ es) h = by_test (λ k. votes_with n b p v (suc e.position) m k high is g es h.4) (ltb p e.position) (eqb p e.position) refl refl
  where
    by_test : (suc e.position ≤ p → AreVotes n b (suc e.position) m (with_vote p v es)) → (x y : Bool) → ltb p e.position ≡ x → eqb p e.position ≡ y
        → AreVotes n b l m (cond x (record { position = p; vote = v } ∷ e ∷ es) (cond y (record { position = p; vote = v } ∷ es) (e ∷ with_vote p v es)))
    by_test rest true y q k = (low, high, is, g, (ltb-true p e.position q, h.1, h.2, h.3, h.4))
    by_test rest false true q k = (low, high, is, g, subst (λ x. AreVotes n b (suc x) m es) (sym (eqb-true p e.position k)) h.4)
    by_test rest false false q k = (h.0, h.1, h.2, h.3, rest (omega (arith, ltb-false p e.position q, eqb-false p e.position k)))

-- those from a position on
votes_since : (n : ℕ) (b : Ballot) (l from m : ℕ) (es : List Entry) → AreVotes n b l m es → AreVotes n b from m (since from es)
votes_since n b l from m [] h = tt
votes_since n b l from m (e ∷ es) h = by_test (votes_since n b (suc e.position) from m es h.4) (ltb e.position from) refl
  where
    by_test : AreVotes n b from m (since from es) → (x : Bool) → ltb e.position from ≡ x → AreVotes n b from m (cond x (since from es) (e ∷ es))
    by_test rest true q = rest
    by_test rest false q = (ltb-false e.position from q, h.1, h.2, h.3, h.4)

-- a window covers positions that there are
covered_most : (k n : ℕ) (b : Ballot) (l : ℕ) (es : List Entry) → AreVotes n b l positions es → covered_by (suc k) es ≤ positions
covered_most zero n b l [] h = omega arith
covered_most (suc k) n b l [] h = omega arith
covered_most zero n b l (e ∷ []) h = omega arith
covered_most zero n b l (e ∷ f ∷ es) h = h.1
covered_most (suc k) n b l (e ∷ es) h = covered_most k n b (suc e.position) es h.4

-- and the first that was asked for
covered_least : (k n : ℕ) (b : Ballot) (l : ℕ) (es : List Entry) → l ≤ positions → AreVotes n b l positions es → l ≤ covered_by (suc k) es
covered_least zero n b l [] low h = low
covered_least (suc k) n b l [] low h = low
covered_least zero n b l (e ∷ []) low h = low
covered_least zero n b l (e ∷ f ∷ es) low h = h.0
covered_least (suc k) n b l (e ∷ es) low h =
    omega (arith, h.0, covered_least k n b e.position es h.1 (votes_weaker n b b (suc e.position) e.position positions positions (below_self b) (omega arith) (omega arith) es h.4))

-- its votes are inside
votes_take : (k n : ℕ) (b : Ballot) (l : ℕ) (es : List Entry) → AreVotes n b l positions es → AreVotes n b l (covered_by (suc k) es) (take (suc k) es)
votes_take zero n b l [] h = tt
votes_take (suc k) n b l [] h = tt
votes_take zero n b l (e ∷ []) h = h
votes_take zero n b l (e ∷ f ∷ es) h = (h.0, omega arith, h.2, h.3, tt)
votes_take (suc k) n b l (e ∷ es) h = (
  h.0,
  covered_least k n b e.position es h.1 (votes_weaker n b b (suc e.position) e.position positions positions (below_self b) (omega arith) (omega arith) es h.4),
  h.2,
  h.3,
  votes_take k n b (suc e.position) es h.4,
)

-- it ends with the last position or with its last vote
covered_ends : (k p : ℕ) (es : List Entry) → (covered_by (suc k) es ≡ positions) ⊎ ((length (take (suc k) es) ≡ suc k) × (last_position p (take (suc k) es) ≡ covered_by (suc k) es))
covered_ends zero p [] = inl refl
covered_ends (suc k) p [] = inl refl
covered_ends zero p (e ∷ []) = inl refl
covered_ends zero p (e ∷ f ∷ es) = inr (refl, refl)
covered_ends (suc k) p (e ∷ es) = ⊎_elim
    (λ (o : covered_by (suc k) es ≡ positions). inl o)
    (λ (o : (length (take (suc k) es) ≡ suc k) × (last_position e.position (take (suc k) es) ≡ covered_by (suc k) es)). inr (ap suc o.0, o.1))
    (covered_ends k e.position es)

-- The window that answers a Prepare is well formed.
pub window_is : (n : ℕ) (b : Ballot) (from : ℕ) (es : List Entry) → IsBallotOf n b → IsPosition from → AreVotes n b 1 positions es → IsWindow n (window b from es)
window_is n b from es is here h = let s = votes_since n b 1 from positions es h in record {
  ballot = is;
  least = here.0;
  most = covered_most 7 n b from (since from es) s;
  covers = covered_least 7 n b from (since from es) here.1 s;
  votes = votes_take 7 n b from (since from es) s;
  many = omega (arith, length-take 8 (since from es));
  end = covered_ends 7 0 (since from es);
}

-- values from less on
pairs_weaker : (l k : ℕ) → k ≤ l → (es : List Pair) → ArePairs l es → ArePairs k es
pairs_weaker l k low [] h = tt
pairs_weaker l k low (e ∷ es) h = (omega (arith, h.0), h.1, h.2)

-- at most one value at a position, and values after it
pairs_before : (l p : ℕ) (o : Option Value) (c : Bool) (rest : List Pair) → l ≤ p → p ≤ positions → ArePairs (suc p) rest → ArePairs l (cond c (map (pair_of p) (option_to_list o)) [] ++ rest)
pairs_before l p (Some v) true rest low high h = (low, high, h)
pairs_before l p None true rest low high h = pairs_weaker (suc p) l (omega arith) rest h
pairs_before l p o false rest low high h = pairs_weaker (suc p) l (omega arith) rest h

-- at most one value at a position
pairs_one : (l p : ℕ) (o : Option Value) (c : Bool) → l ≤ p → p ≤ positions → ArePairs l (cond c (map (pair_of p) (option_to_list o)) [])
pairs_one l p (Some v) true low high = (low, high, tt)
pairs_one l p None true low high = tt
pairs_one l p o false low high = tt

-- what is newly learnt at a position
pub newly_at_pairs : (n : ℕ) (h : Heard) (older : List Heard) (p : ℕ) → IsPosition p → ArePairs 1 (newly_at n h older p)
newly_at_pairs n h older p is = pairs_one 1 p (learnt n p (h ∷ older)) (is_none (learnt n p older)) is.0 is.1

-- what is newly learnt at each of some positions
pub each_newly_pairs : (n : ℕ) (h : Heard) (older : List Heard) (l : ℕ) (pairs : List Pair) → ArePairs l pairs → ArePairs l (flat_map (λ (e : Pair). newly_at n h older e.position) pairs)
each_newly_pairs n h older l [] a = tt
each_newly_pairs n h older l (e ∷ es) a = pairs_before l e.position (learnt n e.position (h ∷ older)) (is_none (learnt n e.position older))
    (flat_map (λ (e : Pair). newly_at n h older e.position) es) a.0 a.1 (each_newly_pairs n h older (suc e.position) es a.2)

-- what is learnt at positions in a row
pub learnt_from_pairs : (n : ℕ) (heard : List Heard) (l p k : ℕ) → l ≤ p → p + k ≤ suc positions → ArePairs l (learnt_from n heard p k)
learnt_from_pairs n heard l p zero low high = tt
learnt_from_pairs n heard l p (suc k) low high = pairs_before l p (learnt n p heard) true (learnt_from n heard (suc p) k) low (omega arith) (learnt_from_pairs n heard (suc p) (suc p) k (omega arith) (omega arith))

-- the first of them
pub pairs_take : (k l : ℕ) (es : List Pair) → ArePairs l es → ArePairs l (take k es)
pairs_take zero l es h = tt
pairs_take (suc k) l [] h = tt
pairs_take (suc k) l (e ∷ es) h = (h.0, h.1, pairs_take k (suc e.position) es h.2)
