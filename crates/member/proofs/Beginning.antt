-- A ballot that begins plans the member's step.
use Rattle.std.proofs.Common.{◌≡◌, ℕ, suc, ◌+◌, ◌<◌, ◌≤◌, Bool, true, false, cond, ◌||◌, ◌&&◌, arith, refl, inl, inr, sym, ap, ap₂, subst, ◌∙◌, List, [], ◌∷◌, ◌++◌, Some, is_some}
use Rattle.std.specs.Prelude.{nat_lt}
use Rattle.std.specs.List.{list_any}
use Rattle.std.proofs.lemmas.Bool.{le-ltb, lt-ltb}
use Rattle.std.proofs.lemmas.List.{append-nil}
use Rattle.ballots.specs.Ballot.{below, last_round, same_ballot}
use Rattle.ballots.specs.Messages.{Body, Packet, Prepare, Promise, to_all}
use Rattle.ballots.specs.Values.{positions}
use Rattle.ballots.specs.declared.ballot.Ballot.{Ballot}
use Rattle.ballots.specs.declared.message.Message.TheVariants as message
use Rattle.acceptor.specs.Drafts.{Draft as AcceptorDraft}
use Rattle.learner.specs.Hearing.{HasHeard}
use Rattle.learner.specs.Terms.{learnt_of}
use Rattle.paxos.proofs.Order.{same_ballot_equal}
use Rattle.paxos.specs.Knowledge.{Promised, learnt as learnt_at, news, prefix, promised_of, value_at, windows}
use Rattle.paxos.specs.Lists.{Has}
use Rattle.paxos.specs.Records.{NewPromise, Record}
use Rattle.paxos.specs.Step.{Effect, Running, begins, may_begin, next_ballot, on_begin, quiet}
use Rattle.paxos.specs.WellFormed.{IsCalledFor}
use Rattle.proposer.proofs.Begun.{begun_took}
use Rattle.proposer.specs.Beginning.{IsBegun, IsFresh, is_in}
use Rattle.proposer.specs.Knowing.{TookPart}
use Rattle.proposer.specs.Terms.{Leading}
use Rattle.proposer.specs.declared.draft.Change.TheVariants as of_proposer
use Rattle.proposer.specs.declared.draft.Draft.{Draft as ProposerDraft}
use Rattle.member.proofs.Leading.{led_plans}
use Rattle.member.specs.Drafts.{HasMade, IsDrafted, Leads, Learns, Says, send_to, write_in}
use Rattle.member.specs.Steps.{Member, Begins, IsThis, all_packets}
use Rattle.member.specs.declared.draft.Change.TheVariants.{Begin}
use Rattle.member.specs.declared.draft.Draft.{Draft}
use Rattle.member.specs.declared.outcome.Target.TheVariants as target

-- all rounds are passed
pub rounds_passed : (r : ℕ) → 1099511627775 ≤ r → nat_lt r last_round ≡ false
unfolding last_round
rounds_passed r h = le-ltb r 1099511627775 h

-- a round is left
pub round_left : (r : ℕ) → r < 1099511627775 → nat_lt r last_round ≡ true
unfolding last_round
round_left r h = lt-ltb r 1099511627775 h

-- the same in numbers
pub below_positions : (p : ℕ) → p < 1000000 → p < positions
unfolding positions
below_positions p h = h

pub below_last_round : (r : ℕ) → r < 1099511627775 → r < last_round
unfolding last_round
below_last_round r h = h

-- a ballot of the next round is above
pub next_is_above : (b : Ballot) (m : ℕ) → below b (record { round = b.round + 1; member = m }) ≡ true
next_is_above b m = rw (lt-ltb b.round (b.round + 1) (omega arith)) refl

-- where positions are spent, no ballot begins
pub positions_spent : {R : Type 0} (x : Member R) (u : Running) (p : ℕ) → p ≡ prefix x.members (news u.heard) → nat_lt p positions ≡ false → may_begin x.members x.acceptor.kept u ≡ false
positions_spent x u p is spent = ap (λ b. b && nat_lt x.acceptor.kept.promise.round last_round) (ap (λ k. nat_lt k positions) (sym is) ∙ spent)

-- nor where rounds are
pub rounds_spent : {R : Type 0} (x : Member R) (u : Running) → nat_lt x.acceptor.kept.promise.round last_round ≡ false → may_begin x.members x.acceptor.kept u ≡ false
rounds_spent x u spent = ap (λ b. nat_lt (prefix x.members (news u.heard)) positions && b) spent ∙ nothing (nat_lt (prefix x.members (news u.heard)) positions)
  where
    nothing : (b : Bool) → (b && false) ≡ false
    nothing true = refl
    nothing false = refl

-- else one may
pub may_still : {R : Type 0} (x : Member R) (u : Running) (p : ℕ) → p ≡ prefix x.members (news u.heard) → nat_lt p positions ≡ true → nat_lt x.acceptor.kept.promise.round last_round ≡ true → may_begin x.members x.acceptor.kept u ≡ true
may_still x u p is room rounds = ap₂ (λ a b. a && b) (ap (λ k. nat_lt k positions) (sym is) ∙ room) rounds

-- nothing was promised to a ballot above the promise
unpromised : (r : Record) (b : Ballot) → below r.promise b ≡ true → (heard : List Packet) → ((k : Packet) → Has heard k → IsCalledFor r k.body) → list_any (λ (x : Promised). same_ballot b x.window.ballot) (windows heard) ≡ false
unpromised r b above [] h = refl
unpromised r b above (k ∷ ks) h = by_body k.body (h k (inl refl)) (unpromised r b above ks (λ j o. h j (inr o)))
  where
    other : (w : Ballot) → below r.promise w ≡ false → (t : Bool) → same_ballot b w ≡ t → t ≡ false
    other w low false e = refl
    other w low true e = let f : true ≡ false = sym above ∙ ap (below r.promise) (same_ballot_equal b w e) ∙ low in let g : ⊥ = cc in absurd g

    by_body : (body : Body) → IsCalledFor r body → list_any (λ (x : Promised). same_ballot b x.window.ballot) (windows ks) ≡ false
        → list_any (λ (x : Promised). same_ballot b x.window.ballot) (promised_of k.sender body ++ windows ks) ≡ false
    by_body (Promise w) low rest = ap₂ (λ x y. x || y) (other w.ballot low (same_ballot b w.ballot) refl) rest
    by_body body low rest = rest

-- A draft that begins a ballot plans the step.
pub begun_plans : {R : Type 0} (x : Member R) (d : Draft) (p : ℕ) (known : List ℕ) (ballot : Ballot) (lead : Leading) (a : AcceptorDraft (Unit {0})) (l : ProposerDraft Ballot)
    → x.proposer.members ≡ x.members → x.proposer.member ≡ x.number → x.learner.members ≡ x.members → ((u : Running) → IsThis u x → p ≡ prefix x.members (news u.heard))
    → nat_lt p positions ≡ true → nat_lt x.acceptor.kept.promise.round last_round ≡ true → ballot ≡ next_ballot x.number x.acceptor.kept → below x.acceptor.kept.promise ballot ≡ true
    → ((q : ℕ) → suc p ≤ q → is_in q known ≡ is_some (value_at q (learnt_of x.learner))) → a.write ≡ NewPromise ballot → l.change ≡ of_proposer.Begin lead → IsBegun x.proposer.members ballot (suc p) known lead
    → Says d (send_to target.All (message.Prepare ballot (suc p)) ∷ []) (Begin a l) → IsDrafted Begins x d
begun_plans {R} x d p known ballot lead a l members number counted is room rounds next above learnt writes changes begun said = record {
  heard = tt;
  plans = λ app u new this.
      let n = x.members in
      let m = x.number in
      let r = x.acceptor.kept in
      let e : on_begin n m r u ≡ begins n m r u = ap (λ b. cond b (begins n m r u) (quiet u)) (may_still x u p (is u this) room rounds) in
      let from : suc p ≡ suc (prefix n (news u.heard)) = ap suc (is u this) in
      let fresh : IsFresh n u.heard ballot (suc p) known = record {
        learnt = λ q low. learnt q low ∙ ap is_some (this.hears.learnt q ∙ ap (λ j. learnt_at j q (news u.heard)) counted);
        unpromised = unpromised r ballot above u.heard this.state.heard;
      } in
      led_plans {R = R} x d app u Begins (to_all n m (Prepare ballot (suc p)))
      (λ y q. let made : HasMade x.proposer l.change y = subst (λ c. Leads x.proposer c y) said.change_is q in
      subst (λ (f : Effect). TookPart f (to_all n m (Prepare ballot (suc p))) y) (sym e)
      (begun_took n m r.promise ballot (suc p) known lead y next (subst (λ j. IsBegun j ballot (suc p) known lead) members begun)
      (made.begun lead changes ∙ ap₂ (λ (i j : ℕ). record { members = i; member = j; lead = Some lead }) members number) u.heard u.leader u.applied r refl from fresh))
      refl
      (λ y q. subst (HasHeard (news u.heard)) (sym (subst (λ c. Learns x.learner c y) said.change_is q)) this.hears)
      (ap (λ (f : Effect). f.write) e ∙ ap NewPromise (sym next) ∙ sym writes ∙ ap write_in (sym said.change_is))
      (ap (all_packets n m) said.sends_are ∙ append-nil _)
      (ap (λ (f : Effect). f.tells) e ∙ sym said.tells_are);
}
