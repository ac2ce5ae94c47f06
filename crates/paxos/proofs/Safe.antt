-- What is safe at one position, of votes, proposals and reports, whatever messages carry them.
use Rattle.std.proofs.Common.{◌≡◌, ℕ, Bool, true, false, refl, sym, subst, ◌∙◌, Option, Some, None, ⊎_elim}
use Rattle.std.proofs.lemmas.Bool.{cases_Bool}
use Rattle.ballots.specs.Ballot.{below, IsMajority}
use Rattle.ballots.specs.declared.ballot.Ballot.{Ballot}
use Rattle.ballots.specs.declared.value.Vote.{Vote}
use Rattle.paxos.proofs.Order.{below_self, most_trans, most_antisym, by_ballot}
use Rattle.paxos.proofs.Quorum.{majorities_share}

-- a vote is of no higher ballot than another, where no vote is the lowest
abbrev pub NotAbove : Option Vote → Option Vote → Type 0
NotAbove None b = Unit {0}
NotAbove (Some a) None = ⊥
NotAbove (Some a) (Some b) = below b.ballot a.ballot ≡ false

-- no vote is above itself
pub above_self : (a : Option Vote) → NotAbove a a
above_self None = tt
above_self (Some a) = below_self a.ballot

-- not above is transitive
pub above_trans : (a b c : Option Vote) → NotAbove a b → NotAbove b c → NotAbove a c
above_trans None b c h k = tt
above_trans (Some a) None c h k = absurd h
above_trans (Some a) (Some b) None h k = absurd k
above_trans (Some a) (Some b) (Some c) h k = most_trans a.ballot b.ballot c.ballot h k

-- the report t is the vote's value, was made by a member of the quorum, and is of a lower ballot
pub record Held (Reported : ℕ → Ballot → Option Vote → Type 0) (quorum : ℕ → Bool) (vote t : Vote) : Type 0 where
  pub member : ℕ
  pub in_quorum : quorum member ≡ true
  pub reported : Reported member vote.ballot (Some t)
  pub same_value : vote.value ≡ t.value
  pub lower : below t.ballot vote.ballot ≡ true

-- Why a vote may be asked for: a majority promised its ballot, and top is the highest of what they reported.
pub record Backed (n : ℕ) (Reported : ℕ → Ballot → Option Vote → Type 0) (vote : Vote) : Type 0 where
  pub quorum : ℕ → Bool
  pub majority : IsMajority n quorum
  pub top : Option Vote
  pub each : (m : ℕ) → quorum m ≡ true → (report : Option Vote) × Reported m vote.ballot report × NotAbove report top
  pub held : (t : Vote) → top ≡ Some t → Held Reported quorum vote t

-- what a member keeps for one position
pub record Slot : Type 0 where
  pub promise : Ballot
  pub vote : Option Vote

-- Of each member what it keeps; who recorded which vote; which votes were asked for; which member reported which
-- vote when it promised which ballot.
pub record Safe (n : ℕ) (kept : ℕ → Slot) (Voted : ℕ → Vote → Type 0) (Asked : Vote → Type 0) (Reported : ℕ → Ballot → Option Vote → Type 0) : Type 0 where
  pub voted_kept : (m : ℕ) (v : Vote) → Voted m v → NotAbove (Some v) (kept m).vote
  pub kept_promised : (m : ℕ) (v : Vote) → (kept m).vote ≡ Some v → below (kept m).promise v.ballot ≡ false
  pub kept_voted : (m : ℕ) (v : Vote) → (kept m).vote ≡ Some v → Voted m v
  pub voted_asked : (m : ℕ) (v : Vote) → Voted m v → Asked v
  pub reported_promised : (m : ℕ) (b : Ballot) (report : Option Vote) → Reported m b report → below (kept m).promise b ≡ false
  pub reported_most : (m : ℕ) (b : Ballot) (v : Vote) → Reported m b (Some v) → below b v.ballot ≡ false
  pub reported_voted : (m : ℕ) (b : Ballot) (v : Vote) → Reported m b (Some v) → Voted m v
  pub reported_highest : (m : ℕ) (b : Ballot) (report : Option Vote) (v : Vote) → Reported m b report → Voted m v → below v.ballot b ≡ true → NotAbove (Some v) report
  pub asked_promised : (v : Vote) → Asked v → below (kept v.ballot.member).promise v.ballot ≡ false
  pub asked_one : (v w : Vote) → Asked v → Asked w → v.ballot ≡ w.ballot → v.value ≡ w.value
  pub asked_backed : (v : Vote) → Asked v → Backed n Reported v

-- a majority recorded the vote
pub record Accepted (n : ℕ) (Voted : ℕ → Vote → Type 0) (v : Vote) : Type 0 where
  pub set : ℕ → Bool
  pub majority : IsMajority n set
  pub voted : (m : ℕ) → set m ≡ true → Voted m v

module _ (n : ℕ) (kept : ℕ → Slot) (Voted : ℕ → Vote → Type 0) (Asked : Vote → Type 0) (Reported : ℕ → Ballot → Option Vote → Type 0) (s : Safe n kept Voted Asked Reported) where
  -- an accepted vote was asked for
  accepted_asked : (v : Vote) → Accepted n Voted v → Asked v
  accepted_asked v a =
      let m = majorities_share n a.set a.set a.majority a.majority in
      s.voted_asked m.member v (a.voted m.member m.first)

  -- the highest report is not below an accepted vote
  Later : Vote → Ballot → Type 0
  Later v b = (w : Vote) → Asked w → w.ballot ≡ b → below v.ballot b ≡ true → w.value ≡ v.value

  -- a later vote has the value, by the highest report
  by_top : (v : Vote) → Accepted n Voted v → (b : Ballot) → ((a : Ballot) → below a b ≡ true → Later v a) → (w : Vote) → w.ballot ≡ b → (k : Backed n Reported w) → (m : ℕ) → (top : Option Vote) → k.top ≡ top → NotAbove (Some v) top → w.value ≡ v.value
  unfolding Later
  by_top v a b lower w e k m None p h = absurd h
  by_top v a b lower w e k m (Some t) p h =
      let held = k.held t p in
      let asked : Asked t = s.voted_asked held.member t (s.reported_voted held.member w.ballot t held.reported) in
      let t_below : below t.ballot b ≡ true = subst (λ x. below t.ballot x ≡ true) e held.lower in
      held.same_value ∙ ⊎_elim
      (λ (q : below v.ballot t.ballot ≡ true). lower t.ballot t_below t asked refl q)
      (λ (q : below v.ballot t.ballot ≡ false). s.asked_one t v asked (accepted_asked v a) (most_antisym t.ballot v.ballot h q))
      (cases_Bool (below v.ballot t.ballot))

  -- a later vote has the value, if all votes between have it
  later_step : (v : Vote) → Accepted n Voted v → (b : Ballot) → ((a : Ballot) → below a b ≡ true → Later v a) → Later v b
  unfolding Later
  later_step v a b lower w asked e l =
      let k = s.asked_backed w asked in
      let m = majorities_share n a.set k.quorum a.majority k.majority in
      let r = k.each m.member m.second in
      let h : below v.ballot w.ballot ≡ true = subst (λ x. below v.ballot x ≡ true) (sym e) l in
      let high : NotAbove (Some v) r.0 = s.reported_highest m.member w.ballot r.0 v r.1 (a.voted m.member m.first) h in
      by_top v a b lower w e k m.member k.top refl (above_trans (Some v) r.0 k.top high r.2)

  -- all later votes have the value
  later : (v : Vote) → Accepted n Voted v → (b : Ballot) → Later v b
  later v a b = by_ballot (Later v) (later_step v a) b

  -- What was accepted has the value of each later vote that was asked for.
  pub accepted_later : (v w : Vote) → Accepted n Voted v → Asked w → below v.ballot w.ballot ≡ true → w.value ≡ v.value
  unfolding Later
  accepted_later v w a asked l = later v a w.ballot w asked refl l

  -- Two accepted votes have one value.
  pub accepted_one : (v w : Vote) → Accepted n Voted v → Accepted n Voted w → v.value ≡ w.value
  accepted_one v w a b = ⊎_elim
      (λ (l : below v.ballot w.ballot ≡ true). sym (accepted_later v w a (accepted_asked w b) l))
      (λ (h : below v.ballot w.ballot ≡ false). ⊎_elim
      (λ (l : below w.ballot v.ballot ≡ true). accepted_later w v b (accepted_asked v a) l)
      (λ (k : below w.ballot v.ballot ≡ false). s.asked_one v w (accepted_asked v a) (accepted_asked w b) (most_antisym v.ballot w.ballot h k))
      (cases_Bool (below w.ballot v.ballot)))
      (cases_Bool (below v.ballot w.ballot))
