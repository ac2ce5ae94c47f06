-- The acceptor's steps keep the invariant.
use Rattle.std.proofs.Common.{◌≡◌, ℕ, Bool, true, false, cond, refl, ◌⊎◌, inl, inr, sym, subst, ap, ◌∙◌, Option, Some, None, ⊎_elim, List, [], ◌∷◌, length}
use Rattle.std.proofs.lemmas.Bool.{cases_eq, false≢true}
use Rattle.std.proofs.lemmas.Option.{none-some, same_Some}
use Rattle.paxos.specs.Lists.{Has}
use Rattle.ballots.specs.Ballot.{below}
use Rattle.ballots.specs.declared.ballot.Ballot.{Ballot}
use Rattle.ballots.specs.declared.value.Vote.{Vote}
use Rattle.ballots.specs.declared.value.Entry.{Entry}
use Rattle.ballots.specs.Messages.{Packet, packet, Promise, Accepted, up_to, to_all}
use Rattle.paxos.specs.Records.{Record, vote_at, with_vote, window, Write, Nothing, NewPromise, NewVote, written, prepare_write, has_vote, accept_write}
use Rattle.paxos.specs.Knowledge.{numbered}
use Rattle.paxos.specs.Step.{Leader, Running, Effect, quiet, yields, yielding, on_prepare, on_accept}
use Rattle.paxos.specs.World.{casts, World}
use Rattle.paxos.proofs.Order.{below_self, most_trans, most_antisym, same_vote_equal}
use Rattle.paxos.proofs.Moves.{Leaves}
use Rattle.paxos.proofs.Votes.{vote_same, vote_other, rising_with, window_says}
use Rattle.paxos.proofs.Kept.{slot, Asked, Leads, MaySay}
use Rattle.paxos.proofs.Effects.{Stands, None_new, Good, plain_good, weaker_leads, nothing_new, sent_to_each, same_heard, same_applied, same_told, quiet_good}

-- a leader that did not yield is the one from before, of no lower ballot
pub yields_is : (b : Ballot) (o : Option Leader) (l : Leader) → yields b o ≡ Some l → (o ≡ Some l) × (below l.ballot b ≡ false)
yields_is b None l h = absurd (none-some l h)
yields_is b (Some k) l h = one k l (below k.ballot b) refl h
  where
    one : (k l : Leader) (t : Bool) → below k.ballot b ≡ t → cond t None (Some k) ≡ Some l → (Some k ≡ Some l) × (below l.ballot b ≡ false)
    one k l true e q = absurd (none-some l q)
    one k l false e q = (q, subst (λ (x : Leader). below x.ballot b ≡ false) (same_Some k l q) e)

module _ (w : World) (m : ℕ) (r : Record) (u : Running) (s : Stands w m r u []) where
  -- a leader that doesn't yield leads still, where the promise doesn't fall
  yields_leads : (b : Ballot) (kept : Record) → below kept.promise r.promise ≡ false → (v : Running) (l : Leader) → Some (yielding b u) ≡ Some v → v.leader ≡ Some l → Leads (Asked w) (Asked w) m kept l
  yields_leads b kept h v l e k =
      let y = yields_is b u.leader l (ap (λ (x : Running). x.leader) (same_Some _ _ e) ∙ k) in
      let g = s.leads l y.0 in
      record { own = g.own; kept = most_trans l.ballot r.promise kept.promise g.kept h; based = g.based; asked = g.asked; proposed = g.proposed }

  -- an answer that writes no vote
  answers_good : (b : Ballot) (write : Write) (sends : List Packet) → (written write r).votes ≡ r.votes → (written write r).learnt ≡ r.learnt → ((c : Entry) → Has (casts write) c → ⊥) → below (written write r).promise r.promise ≡ false
      → ((k : Packet) → Has sends k → (k.sender ≡ m) × MaySay w None_new (written write r) k.body) → Good w m r (record { write = write; running = Some (yielding b u); sends = sends; tells = [] })
  answers_good b write sends votes learnt none grows says = plain_good w m r _ s.holds (record {
    votes = votes;
    told = λ t h. s.holds.told t (subst (λ vs. Has (numbered 1 vs) t) learnt h);
    casts = none;
    grows = grows;
    sends = says;
    leads = yields_leads b (written write r) grows;
    heard = λ v k e h. same_heard w m r u [] s (yields b u.leader) v k e h;
    applied = λ v e. same_applied w m r u [] s (yields b u.leader) v e;
    learnt = λ v p value e l. same_told w m r u [] s (yields b u.leader) v e p value l;
    tells = λ t h. absurd h;
  })

  -- a Prepare
  pub prepare_good : (b : Ballot) (from : ℕ) → Good w m r (on_prepare m r u b from)
  prepare_good b from = one (below b r.promise) refl
    where
      promises : (kept : Record) → kept.votes ≡ r.votes → b ≡ kept.promise → (k : Packet) → Has (packet m (Promise (window b from r.votes)) b.member ∷ []) k → (k.sender ≡ m) × MaySay w None_new kept k.body
      promises kept q e k h = sent_to_each w m None_new kept (Promise (window b from r.votes)) (b.member ∷ [])
          (e, λ p l c. window_says p from r.votes s.holds.rising l c ∙ sym (ap (vote_at p) q)) k h

      two : below b r.promise ≡ false → (t : Bool) → below r.promise b ≡ t → Good w m r (record { write = cond t (NewPromise b) Nothing; running = Some (yielding b u); sends = packet m (Promise (window b from r.votes)) b.member ∷ []; tells = [] })
      two e true l = answers_good b (NewPromise b) _ refl refl (λ c h. h) e (promises (written (NewPromise b) r) refl refl)
      two e false l = answers_good b Nothing _ refl refl (λ c h. h) (below_self r.promise) (promises r refl (most_antisym b r.promise e l))

      one : (t : Bool) → below b r.promise ≡ t → Good w m r (cond t (quiet u) (record { write = prepare_write r b; running = Some (yielding b u); sends = packet m (Promise (window b from r.votes)) b.member ∷ []; tells = [] }))
      one true e = quiet_good w m r u s
      one false e = two e (below r.promise b) refl

  -- the test of a vote tells that it stands there
  had : (o : Option Vote) (vote : Vote) → has_vote o vote ≡ true → o ≡ Some vote
  had None vote h = absurd (false≢true h)
  had (Some old) vote h = ap Some (same_vote_equal old vote h)

  -- a vote that is written, with the promise of its ballot
  votes_good : (p : ℕ) (vote : Vote) → Asked w p vote → below vote.ballot r.promise ≡ false → Good w m r (record { write = NewVote p vote; running = Some (yielding vote.ballot u); sends = to_all (length w.members) m (Accepted p vote); tells = [] })
  votes_good p vote asked grows = record {
    New = None_new;
    fine = record {
      leaves = leaves;
      holds = record { rising = rising_with p vote r.votes s.holds.rising; told = s.holds.told };
      casts_new = casts_new;
      casts_are = casts_are;
      sends = λ k h. sent_to_each w m None_new new (Accepted p vote) (up_to (length w.members)) (vote_same p vote r.votes) k h;
      may_ask = λ q v h. nothing_new q v h;
      new_one = λ q v x h k. nothing_new q v h;
      leads = λ v l h k. weaker_leads w e m new l (yields_leads vote.ballot new grows v l h k);
      heard = λ v k h q. same_heard w m r u [] s (yields vote.ballot u.leader) v k h q;
      applied = λ v h. same_applied w m r u [] s (yields vote.ballot u.leader) v h;
      learnt = λ v q value h l. same_told w m r u [] s (yields vote.ballot u.leader) v h q value l;
      tells = λ t h. absurd h;
    };
  }
    where
      new : Record
      new = written (NewVote p vote) r

      e : Effect
      e = record { write = NewVote p vote; running = Some (yielding vote.ballot u); sends = to_all (length w.members) m (Accepted p vote); tells = [] }

      at_p : (q : ℕ) → (q ≡ p) → vote_at q (with_vote p vote r.votes) ≡ Some vote
      at_p q h = rw h (vote_same p vote r.votes)

      leaves : (q : ℕ) → Leaves (slot q r) (slot q new) (Asked w q)
      leaves q = record {
        grows = grows;
        vote = ⊎_elim
            (λ (h : q ≡ p). inr (vote, at_p q h, refl, subst (λ x. Asked w x vote) (sym h) asked))
            (λ (d : q ≡ p → ⊥). inl (vote_other p q vote r.votes d)) (cases_eq q p);
      }

      casts_new : (q : ℕ) (v : Vote) → vote_at q new.votes ≡ Some v → (vote_at q r.votes ≡ Some v) ⊎ Has (casts (NewVote p vote)) (record { position = q; vote = v })
      casts_new q v h = ⊎_elim
          (λ (k : q ≡ p).
          let same : vote ≡ v = same_Some vote v (sym (at_p q k) ∙ h) in
          inr (inl (λ i. record { position = sym k i; vote = same i })))
          (λ (d : q ≡ p → ⊥). inl (sym (vote_other p q vote r.votes d) ∙ h))
          (cases_eq q p)

      casts_are : (q : ℕ) (v : Vote) → Has (casts (NewVote p vote)) (record { position = q; vote = v }) → vote_at q new.votes ≡ Some v
      casts_are q v (inl h) = at_p q (sym (ap (λ (x : Entry). x.position) h)) ∙ ap (λ (x : Entry). Some x.vote) h
      casts_are q v (inr h) = absurd h

  -- an Accept that was sent
  pub accept_good : (p : ℕ) (vote : Vote) → Asked w p vote → Good w m r (on_accept (length w.members) m r u p vote)
  accept_good p vote asked = one (below vote.ballot r.promise) refl
    where
      two : below vote.ballot r.promise ≡ false → (t : Bool) → has_vote (vote_at p r.votes) vote ≡ t → Good w m r (record { write = cond t Nothing (NewVote p vote); running = Some (yielding vote.ballot u); sends = to_all (length w.members) m (Accepted p vote); tells = [] })
      two e true h = answers_good vote.ballot Nothing _ refl refl (λ c q. q) (below_self r.promise)
          (λ k q. sent_to_each w m None_new r (Accepted p vote) (up_to (length w.members)) (had (vote_at p r.votes) vote h) k q)
      two e false h = votes_good p vote asked e

      one : (t : Bool) → below vote.ballot r.promise ≡ t → Good w m r (cond t (quiet u) (record { write = accept_write r p vote; running = Some (yielding vote.ballot u); sends = to_all (length w.members) m (Accepted p vote); tells = [] }))
      one true e = quiet_good w m r u s
      one false e = two e (has_vote (vote_at p r.votes) vote) refl
