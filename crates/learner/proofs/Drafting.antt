-- Changes that are drafted, and made.
use Rattle.std.proofs.Common.{◌≡◌, ℕ, suc, ◌+◌, ◌<◌, ◌≤◌, Bool, true, false, cond, arith, refl, sym, ap, subst, ◌∙◌, List, [], ◌∷◌, ◌++◌, None, is_none, is_some, length, take, get_or, Result, Ok, Err}
use Rattle.std.specs.Prelude.{IfOk}
use Rattle.std.specs.List.{All}
use Rattle.std.proofs.lemmas.List.Elements.{All-filter, filter_more}
use Rattle.ballots.specs.Ballot.{is_majority}
use Rattle.ballots.specs.Values.{IsPosition, positions, IsRising}
use Rattle.ballots.specs.declared.value.Vote.{Vote}
use Rattle.ballots.specs.declared.value.Pair.{Pair}
use Rattle.paxos.specs.Knowledge.{AcceptedBy, Heard, pair_of, value_at}
use Rattle.learner.specs.Changes.{Change, Counts, HasCounted, IsAsWas, IsChanged, IsDue, Learns, Nothing, change_of, not_learnt, positions_in, positions_of, with_member}
use Rattle.learner.specs.Drafts.{Draft}
use Rattle.learner.specs.Hearing.{AreAbove, HasHeard, news_at}
use Rattle.learner.specs.Polls.{IsAdded}
use Rattle.learner.specs.Terms.{Learner, Tally, learnt_of}
use Rattle.learner.proofs.Hearing.{change_as_was, heard_changed, news_of_change}
use Rattle.learner.proofs.Opening.{added_open}

-- what an acceptance changes where its position is learnt, where it completes a value, and where it does not
pub drafts_nothing : (m p : ℕ) (vote : Vote) (l mid : Learner) → IsAsWas l mid → is_some (value_at p (learnt_of mid)) ≡ true → Nothing ≡ change_of l (AcceptedBy m p vote)
drafts_nothing m p vote l mid a s = here ∙ change_as_was (AcceptedBy m p vote) l mid a
  where
    here : Nothing ≡ change_of mid (AcceptedBy m p vote)
    here = rw s refl

pub drafts_value : (m p : ℕ) (vote : Vote) (l mid : Learner) → IsAsWas l mid → value_at p (learnt_of mid) ≡ None → is_majority mid.members (with_member mid p vote m) ≡ true → Learns (pair_of p vote.value ∷ []) ≡ change_of l (AcceptedBy m p vote)
drafts_value m p vote l mid a n e = here ∙ change_as_was (AcceptedBy m p vote) l mid a
  where
    here : Learns (pair_of p vote.value ∷ []) ≡ change_of mid (AcceptedBy m p vote)
    here = rw (n, e) refl

pub drafts_count : (m p : ℕ) (vote : Vote) (l mid : Learner) → IsAsWas l mid → value_at p (learnt_of mid) ≡ None → is_majority mid.members (with_member mid p vote m) ≡ false → Counts m p vote ≡ change_of l (AcceptedBy m p vote)
drafts_count m p vote l mid a n e = here ∙ change_as_was (AcceptedBy m p vote) l mid a
  where
    here : Counts m p vote ≡ change_of mid (AcceptedBy m p vote)
    here = rw (n, e) refl

-- the positions of a change are news
pub drafts_news : (h : Heard) (news : List ℕ) (change : Change) (l : Learner) → l.members ≤ 63 → news ≡ positions_of change → change ≡ change_of l h → (heard : List Heard) → HasHeard heard l → news ≡ news_at l.members h heard
drafts_news h news change l b e c heard k = e ∙ ap positions_of c ∙ news_of_change h heard l b k

-- an acceptance that is counted
pub has_counted : (m p : ℕ) (vote : Vote) (l new : Learner) (us : List Tally) → new ≡ record { members = l.members; slots = l.slots; tallies = us } → IsAdded m p vote l.tallies us → HasCounted m p vote l new
has_counted m p vote l new us e a = subst (HasCounted m p vote l) (sym e) (record { members = refl; learnt = refl; tallies = added_open m p vote l.tallies us a })

-- What is heard with a draft that is made.
pub heard_drafted : (h : Heard) (change : Change) (heard : List Heard) (l new : Learner) → l.members ≤ 63 → IsChanged l change new → HasHeard heard l → change ≡ change_of l h → HasHeard (h ∷ heard) new
heard_drafted h change heard l new b a k e = heard_changed h heard l new b k (subst (λ (x : Change). IsChanged l x new) e a)

-- one more of the pairs that are not learnt
pub more_pairs : (learnt pairs : List Pair) (i : ℕ) (e : Pair) (xs : List Pair) → i < length pairs → e ≡ get_or pairs i e → xs ≡ not_learnt learnt (take i pairs) ++ not_learnt learnt (e ∷ []) → xs ≡ not_learnt learnt (take (i + 1) pairs)
more_pairs learnt pairs i e xs l w k = k ∙ ap (λ (y : Pair). not_learnt learnt (take i pairs) ++ not_learnt learnt (y ∷ [])) w ∙ sym (filter_more _ pairs i e l)

pub drafts_ok : {E : Type 0} (r : Result Draft E) (h : Heard) (l : Learner) → l.members ≤ 63 → IfOk r (λ (d : Draft). d.change ≡ change_of l h) → IfOk r (λ (d : Draft). d.news ≡ positions_of d.change) → IfOk r (λ (d : Draft). (heard : List Heard) → HasHeard heard l → d.news ≡ news_at l.members h heard)
drafts_ok (Ok d) h l b c n = λ heard k. drafts_news h d.news d.change l b n c heard k
drafts_ok (Err e) h l b c n = tt

-- what is drafted of pairs stands at positions that there may be
pub drafts_due : {E : Type 0} (r : Result Draft E) (learnt pairs : List Pair) → IfOk r (λ (d : Draft). d.change ≡ Learns (not_learnt learnt pairs)) → All (λ (e : Pair). IsPosition e.position) pairs → IfOk r (λ (d : Draft). IsDue d.change)
drafts_due (Ok d) learnt pairs c a = rw c (All-filter _ (λ (e : Pair). IsPosition e.position) pairs a)
drafts_due (Err e) learnt pairs c a = tt

-- positions that rise from somewhere rise from below
rising_below : (k n : ℕ) (ps : List ℕ) → k ≤ n → IsRising n ps → IsRising k ps
rising_below k n [] l h = tt
rising_below k n (p ∷ ps) l h = (omega (arith, l, h.0), h.1, h.2)

-- a pair before others, or none
rising_if : (k : ℕ) (e : Pair) (rest : List Pair) (b : Bool) → k ≤ e.position → e.position ≤ positions → IsRising (e.position + 1) (positions_in rest) → IsRising k (positions_in (cond b (e ∷ rest) rest))
rising_if k e rest true l m h = (l, m, h)
rising_if k e rest false l m h = rising_below k (e.position + 1) (positions_in rest) (omega (arith, l)) h

-- of pairs that rise, those that are not learnt rise
pub rising_pairs : (k p : ℕ) (learnt pairs : List Pair) → k ≤ p + 1 → AreAbove p pairs → All (λ (e : Pair). e.position ≤ positions) pairs → IsRising k (positions_in (not_learnt learnt pairs))
rising_pairs k p learnt [] l h a = tt
rising_pairs k p learnt (e ∷ es) l h a =
    rising_if k e (not_learnt learnt es) (is_none (value_at e.position learnt)) (omega (arith, l, h.0)) (a 0 e (omega arith)) (rising_pairs (e.position + 1) e.position learnt es (omega arith) h.1 (λ i d b. a (suc i) d (omega (arith, b))))

-- the news of a draft rise where its change's positions do
pub drafts_rising : {E : Type 0} (r : Result Draft E) (change : Change) → IfOk r (λ (d : Draft). d.change ≡ change) → IfOk r (λ (d : Draft). d.news ≡ positions_of d.change) → IsRising 1 (positions_of change) → IfOk r (λ (d : Draft). IsRising 1 d.news)
drafts_rising (Ok d) change c n h = rw (n, c) h
drafts_rising (Err e) change c n h = tt
