-- What a step of one member keeps safe, whatever messages carry votes, proposals and reports.
use Rattle.std.proofs.Common.{◌≡◌, ℕ, true, false, refl, ◌⊎◌, sym, subst, ◌∙◌, Option, Some, None, ⊎_elim}
use Rattle.std.proofs.lemmas.Bool.{both_ways, cases_eq}
use Rattle.std.proofs.lemmas.Option.{same_Some}
use Rattle.ballots.specs.Ballot.{below}
use Rattle.ballots.specs.declared.ballot.Ballot.{Ballot}
use Rattle.ballots.specs.declared.value.Vote.{Vote}
use Rattle.paxos.proofs.Order.{below_self, most_trans}
use Rattle.paxos.proofs.Safe.{NotAbove, above_self, above_trans, Backed, Safe, Slot}

-- Why a vote may be asked for now: nothing was asked for under its ballot, which this member has kept.
pub record MayAsk (n : ℕ) (m : ℕ) (promise : Ballot) (Asked : Vote → Type 0) (Reported : ℕ → Ballot → Option Vote → Type 0) (v : Vote) : Type 0 where
  pub own : v.ballot.member ≡ m
  pub kept : below promise v.ballot ≡ false
  pub backed : Backed n Reported v
  pub unasked : (w : Vote) → Asked w → w.ballot ≡ v.ballot → ⊥

-- what the member leaves
pub record Leaves (old new : Slot) (Asked : Vote → Type 0) : Type 0 where
  pub grows : below new.promise old.promise ≡ false
  pub vote : (new.vote ≡ old.vote) ⊎ ((v : Vote) × (new.vote ≡ Some v) × (v.ballot ≡ new.promise) × Asked v)

module _ (n : ℕ) (m : ℕ) (New : Vote → Type 0) (kept kept' : ℕ → Slot) (Voted Voted' : ℕ → Vote → Type 0) (Asked Asked' : Vote → Type 0) (Reported Reported' : ℕ → Ballot → Option Vote → Type 0) where
  -- how one step of member m changes the votes, proposals and reports at a position
  pub record Moves : Type 0 where
    pub other : (k : ℕ) → (k ≡ m → ⊥) → kept' k ≡ kept k
    pub leaves : Leaves (kept m) (kept' m) Asked
    pub voted_old : (k : ℕ) (v : Vote) → Voted k v → Voted' k v
    pub voted_new : (v : Vote) → (kept' m).vote ≡ Some v → Voted' m v
    pub voted_is : (k : ℕ) (v : Vote) → Voted' k v → Voted k v ⊎ ((k ≡ m) × ((kept' m).vote ≡ Some v))
    pub asked_old : (v : Vote) → Asked v → Asked' v
    pub asked_is : (v : Vote) → Asked' v → Asked v ⊎ (New v)
    pub new_one : (v w : Vote) → New v → New w → v.value ≡ w.value
    pub may_ask : (v : Vote) → New v → MayAsk n m (kept' m).promise Asked Reported v
    pub reported_old : (k : ℕ) (b : Ballot) (report : Option Vote) → Reported k b report → Reported' k b report
    pub reported_is : (k : ℕ) (b : Ballot) (report : Option Vote) → Reported' k b report → Reported k b report ⊎ ((k ≡ m) × (b ≡ (kept' m).promise) × (report ≡ (kept' m).vote))

  module _ (s : Safe n kept Voted Asked Reported) (c : Moves) where
    vote_above : (o : Option Vote) → (kept m).vote ≡ o → (v : Vote) → v.ballot ≡ (kept' m).promise → NotAbove o (Some v)
    vote_above None e v h = tt
    vote_above (Some u) e v h = subst (λ (x : Ballot). below x u.ballot ≡ false) (sym h) (most_trans u.ballot (kept m).promise (kept' m).promise (s.kept_promised m u e) c.leaves.grows)

    own_vote : NotAbove (kept m).vote (kept' m).vote
    own_vote = ⊎_elim
        (λ (e : (kept' m).vote ≡ (kept m).vote). rw e (above_self (kept m).vote))
        (λ (w : (v : Vote) × ((kept' m).vote ≡ Some v) × (v.ballot ≡ (kept' m).promise) × Asked v). rw w.1 (vote_above (kept m).vote refl w.0 w.2))
        c.leaves.vote

    -- a property of each member's old and new record
    each : (P : Slot → Slot → Type 0) → ((r : Slot) → P r r) → P (kept m) (kept' m) → (k : ℕ) → P (kept k) (kept' k)
    each P same own k = ⊎_elim
        (λ (e : k ≡ m). subst (λ x. P (kept x) (kept' x)) (sym e) own)
        (λ (d : k ≡ m → ⊥). rw (c.other k d) (same (kept k)))
        (cases_eq k m)

    promises : (k : ℕ) → below (kept' k).promise (kept k).promise ≡ false
    promises = each (λ r r'. below r'.promise r.promise ≡ false) (λ r. below_self r.promise) c.leaves.grows

    votes : (k : ℕ) → NotAbove (kept k).vote (kept' k).vote
    votes = each (λ r r'. NotAbove r.vote r'.vote) (λ r. above_self r.vote) own_vote

    -- the member's new vote was asked for
    own_asked : (v : Vote) → (kept' m).vote ≡ Some v → Asked v
    own_asked v e = ⊎_elim
        (λ (h : (kept' m).vote ≡ (kept m).vote). s.voted_asked m v (s.kept_voted m v (sym h ∙ e)))
        (λ (w : (u : Vote) × ((kept' m).vote ≡ Some u) × (u.ballot ≡ (kept' m).promise) × Asked u). subst Asked (same_Some _ _ (sym w.1 ∙ e)) w.3)
        c.leaves.vote

    own_promised : (v : Vote) → (kept' m).vote ≡ Some v → below (kept' m).promise v.ballot ≡ false
    own_promised v e = ⊎_elim
        (λ (h : (kept' m).vote ≡ (kept m).vote). most_trans v.ballot (kept m).promise (kept' m).promise (s.kept_promised m v (sym h ∙ e)) c.leaves.grows)
        (λ (w : (u : Vote) × ((kept' m).vote ≡ Some u) × (u.ballot ≡ (kept' m).promise) × Asked u).
        subst (λ (x : Vote). below (kept' m).promise x.ballot ≡ false) (same_Some _ _ (sym w.1 ∙ e)) (rw w.2 (below_self (kept' m).promise)))
        c.leaves.vote

    -- the member's new vote is under no ballot that it had promised before, unless it is the old one
    own_not_under : (v : Vote) (b : Ballot) (report : Option Vote) → (kept' m).vote ≡ Some v → Reported m b report → below v.ballot b ≡ true → NotAbove (Some v) report
    own_not_under v b report e r l = ⊎_elim
        (λ (h : (kept' m).vote ≡ (kept m).vote). s.reported_highest m b report v r (s.kept_voted m v (sym h ∙ e)) l)
        (λ (w : (u : Vote) × ((kept' m).vote ≡ Some u) × (u.ballot ≡ (kept' m).promise) × Asked u).
        let same : w.0 ≡ v = same_Some _ _ (sym w.1 ∙ e) in
        let high : below v.ballot b ≡ false = subst (λ (x : Vote). below x.ballot b ≡ false) same (rw w.2 (most_trans b (kept m).promise (kept' m).promise (s.reported_promised m b report r) c.leaves.grows)) in
        absurd (both_ways (below v.ballot b) high l))
        c.leaves.vote

    voted_kept' : (k : ℕ) (v : Vote) → Voted' k v → NotAbove (Some v) (kept' k).vote
    voted_kept' k v h = ⊎_elim
        (λ (o : Voted k v). above_trans (Some v) (kept k).vote (kept' k).vote (s.voted_kept k v o) (votes k))
        (λ (o : (k ≡ m) × ((kept' m).vote ≡ Some v)). subst (λ x. NotAbove (Some v) (kept' x).vote) (sym o.0) (rw o.1 (below_self v.ballot)))
        (c.voted_is k v h)

    highest' : (k : ℕ) (b : Ballot) (report : Option Vote) (v : Vote) → Reported' k b report → Voted' k v → below v.ballot b ≡ true → NotAbove (Some v) report
    highest' k b report v r h l = ⊎_elim
        (λ (o : Reported k b report). ⊎_elim
        (λ (p : Voted k v). s.reported_highest k b report v o p l)
        (λ (p : (k ≡ m) × ((kept' m).vote ≡ Some v)). own_not_under v b report p.1 (subst (λ x. Reported x b report) p.0 o) l)
        (c.voted_is k v h))
        (λ (o : (k ≡ m) × (b ≡ (kept' m).promise) × (report ≡ (kept' m).vote)).
        rw o.2 (subst (λ x. NotAbove (Some v) (kept' x).vote) o.0 (voted_kept' k v h)))
        (c.reported_is k b report r)

    backed_more : (v : Vote) → Backed n Reported v → Backed n Reported' v
    backed_more v k = record {
      quorum = k.quorum;
      majority = k.majority;
      top = k.top;
      each = λ x h. let r = k.each x h in (r.0, c.reported_old x v.ballot r.0 r.1, r.2);
      held = λ t e. let r = k.held t e in record { member = r.member; in_quorum = r.in_quorum; reported = c.reported_old r.member v.ballot (Some t) r.reported; same_value = r.same_value; lower = r.lower };
    }

    pub safe_after : Safe n kept' Voted' Asked' Reported'
    safe_after = record {
      voted_kept = voted_kept';
      kept_promised = λ k v e. each (λ r r'. (r'.vote ≡ Some v) → (r.vote ≡ Some v → below r.promise v.ballot ≡ false) → below r'.promise v.ballot ≡ false)
          (λ r h f. f h) (λ h f. own_promised v h) k e (s.kept_promised k v);
      kept_voted = λ k v e. ⊎_elim
          (λ (q : k ≡ m). subst (λ x. Voted' x v) (sym q) (c.voted_new v (subst (λ x. (kept' x).vote ≡ Some v) q e)))
          (λ (d : k ≡ m → ⊥). c.voted_old k v (s.kept_voted k v (subst (λ (r : Slot). r.vote ≡ Some v) (c.other k d) e)))
          (cases_eq k m);
      voted_asked = λ k v h. c.asked_old v (⊎_elim
          (λ (o : Voted k v). s.voted_asked k v o)
          (λ (o : (k ≡ m) × ((kept' m).vote ≡ Some v)). own_asked v o.1)
          (c.voted_is k v h));
      reported_promised = λ k b report h. ⊎_elim
          (λ (o : Reported k b report). most_trans b (kept k).promise (kept' k).promise (s.reported_promised k b report o) (promises k))
          (λ (o : (k ≡ m) × (b ≡ (kept' m).promise) × (report ≡ (kept' m).vote)). subst (λ x. below (kept' x).promise b ≡ false) (sym o.0) (rw o.1 (below_self (kept' m).promise)))
          (c.reported_is k b report h);
      reported_most = λ k b v h. ⊎_elim
          (λ (o : Reported k b (Some v)). s.reported_most k b v o)
          (λ (o : (k ≡ m) × (b ≡ (kept' m).promise) × (Some v ≡ (kept' m).vote)). rw o.1 (own_promised v (sym o.2)))
          (c.reported_is k b (Some v) h);
      reported_voted = λ k b v h. ⊎_elim
          (λ (o : Reported k b (Some v)). c.voted_old k v (s.reported_voted k b v o))
          (λ (o : (k ≡ m) × (b ≡ (kept' m).promise) × (Some v ≡ (kept' m).vote)). subst (λ x. Voted' x v) (sym o.0) (c.voted_new v (sym o.2)))
          (c.reported_is k b (Some v) h);
      reported_highest = highest';
      asked_promised = λ v h. ⊎_elim
          (λ (o : Asked v). most_trans v.ballot (kept v.ballot.member).promise (kept' v.ballot.member).promise (s.asked_promised v o) (promises v.ballot.member))
          (λ (o : New v). let a = c.may_ask v o in subst (λ x. below (kept' x).promise v.ballot ≡ false) (sym a.own) a.kept)
          (c.asked_is v h);
      asked_one = λ v w h k e. ⊎_elim
          (λ (o : Asked v). ⊎_elim
          (λ (p : Asked w). s.asked_one v w o p e)
          (λ (p : New w). absurd ((c.may_ask w p).unasked v o e))
          (c.asked_is w k))
          (λ (o : New v). ⊎_elim
          (λ (p : Asked w). absurd ((c.may_ask v o).unasked w p (sym e)))
          (λ (p : New w). c.new_one v w o p)
          (c.asked_is w k))
          (c.asked_is v h);
      asked_backed = λ v h. backed_more v (⊎_elim
          (λ (o : Asked v). s.asked_backed v o)
          (λ (o : New v). (c.may_ask v o).backed)
          (c.asked_is v h));
    }
