-- What a leader makes of a message plans the member's step.
use Rattle.std.proofs.Common.{◌≡◌, ℕ, suc, ◌+◌, ◌≤◌, Bool, true, false, cond, not, arith, refl, sym, ap, subst, ◌∙◌, List, [], ◌∷◌, Option, Some, None}
use Rattle.ballots.specs.Ballot.{below}
use Rattle.ballots.specs.Messages.{Packet, Promise, Window, packet}
use Rattle.ballots.specs.declared.ballot.Ballot.{Ballot}
use Rattle.ballots.specs.declared.value.Entry.{Entry}
use Rattle.learner.specs.Hearing.{HasHeard}
use Rattle.learner.specs.Terms.{Learner}
use Rattle.paxos.specs.Application.{Application}
use Rattle.paxos.specs.Knowledge.{joins, news}
use Rattle.paxos.specs.Records.{Nothing as NoWrite, Record}
use Rattle.paxos.specs.Step.{Effect, Leader, Running, cover_heard, on_promise, quiet}
use Rattle.paxos.specs.WellFormed.{AreVotes}
use Rattle.proposer.specs.declared.draft.Change.{Change as ProposerChange}
use Rattle.proposer.specs.declared.draft.Draft.{Draft as ProposerDraft}
use Rattle.proposer.specs.declared.sends.Sends.{Sends}
use Rattle.proposer.specs.Hearing.{AreBetween, IsWindow, TakesPromise}
use Rattle.proposer.specs.Knowing.{Knows, TookPart, prepares_first}
use Rattle.proposer.specs.Terms.{Proposer}
use Rattle.proposer.proofs.Promised.{Commits, promise_took}
use Rattle.member.specs.declared.draft.Change.TheVariants.{Nothing, Promise as Promises}
use Rattle.member.specs.declared.draft.Draft.{Draft}
use Rattle.member.specs.Drafts.{HasMade, IsDrafted, Leads, Learns, Plans, Says, write_in}
use Rattle.member.specs.Steps.{Member, Input, Hears, IsHeard, all_packets, effect_of}
use Rattle.member.proofs.Keeping.{heard_by, hearing, keeps}
use Rattle.member.proofs.Drafting.{plain}

-- votes of a window stand between its positions
pub votes_between : (n : ℕ) (b : Ballot) (least most : ℕ) (es : List Entry) → AreVotes n b least most es → AreBetween least most es
votes_between n b least most [] h = tt
votes_between n b least most (e ∷ es) h =
    let next : suc e.position ≡ e.position + 1 = omega arith in
    (h.0, h.1, subst (λ k. AreBetween k most es) next (votes_between n b (suc e.position) most es h.4))

-- two values that are one option
some_one : {A : Type 0} {a b : A} → Some a ≡ Some b → a ≡ b
some_one q = cc

-- A draft whose change makes the proposer take its part plans the step.
pub led_plans : {R : Type 0} (x : Member R) (d : Draft) (app : Application) (u : Running) (i : Input) (says : List Packet)
    → ((y : Proposer) → Leads x.proposer d.change y → TookPart (effect_of app x.members x.number x.acceptor.kept u i) says y)
    → heard_by x.acceptor.kept u i ≡ hearing u i → ((y : Learner) → Learns x.learner d.change y → HasHeard (news (hearing u i).heard) y)
    → (effect_of app x.members x.number x.acceptor.kept u i).write ≡ write_in d.change → all_packets x.members x.number d.sends.items ≡ says
    → (effect_of app x.members x.number x.acceptor.kept u i).tells ≡ d.tells.items → Plans (effect_of app x.members x.number x.acceptor.kept u i) x d
led_plans x d app u i says took called hears write sends tells =
    let k = keeps app x.members x.number x.acceptor.kept u i in
    record {
      running = k.running;
      runs = k.runs;
      write = write;
      knows = λ y l. let t = took y l in subst (λ (v : Running). Knows v.heard v.leader y) (some_one (sym t.runs ∙ k.runs)) t.knows;
      hears = λ y l. subst (λ ks. HasHeard (news ks) y) (sym (k.heard ∙ ap (λ (v : Running). v.heard) called)) (hears y l);
      sends = λ y l. (took y l).sends ∙ sym sends;
      tells = tells;
    }

-- what holds of both holds of either
one_of : (P : Effect → Type 0) (t : Bool) (d e : Effect) → P d → P e → P (cond t d e)
one_of P true d e h k = h
one_of P false d e h k = k

-- a promise writes nothing and tells nothing
promise_writes : (n m : ℕ) (older : List Packet) (u : Running) (sender : ℕ) (w : Window) (o : Option Leader) → ((on_promise n m older u sender w o).write ≡ NoWrite) × ((on_promise n m older u sender w o).tells ≡ [])
promise_writes n m older u sender w None = (refl, refl)
promise_writes n m older u sender w (Some l) = one_of (λ (e : Effect). (e.write ≡ NoWrite) × (e.tells ≡ [])) (joins l.ballot (cover_heard older l sender) w) _ _ (refl, refl) (refl, refl)

-- the code's change, as the proofs of the proposer have it
pub commits : (x : Proposer) (change : ProposerChange) (y : Proposer) → HasMade x change y → Commits x change y
commits x change y h = record { nothing = h.nothing; taken = h.taken }

-- a promise that is called for is heard
called_step : (r : Record) (app : Application) (n m sender : ℕ) (u : Running) (w : Window) → below r.promise w.ballot ≡ false
    → effect_of app n m r u (Hears (packet sender (Promise w) m)) ≡ on_promise n m u.heard (hearing u (Hears (packet sender (Promise w) m))) sender w u.leader
called_step r app n m sender u w called = ap (λ t. cond (not t) (on_promise n m u.heard (hearing u (Hears (packet sender (Promise w) m))) sender w u.leader) (quiet u)) called

-- what a leader makes of a promise
pub promise_plans : {R : Type 0} (x : Member R) (d : Draft) (p : ProposerDraft (Option Sends)) (sender : ℕ) (w : Window) → x.proposer.members ≡ x.members → x.proposer.member ≡ x.number
    → below x.acceptor.kept.promise w.ballot ≡ false
    → IsHeard x.members (Hears (packet sender (Promise w) x.number)) → 1 ≤ sender → sender ≤ x.proposer.members → IsWindow w → TakesPromise x.proposer.members x.proposer.lead sender w p.change p.answer
    → ((n m : ℕ) → all_packets n m d.sends.items ≡ prepares_first n m p.answer) → d.tells.items ≡ [] → d.change ≡ Promises p → IsDrafted (Hears (packet sender (Promise w) x.number)) x d
promise_plans x d p sender w members number called heard least most wide takes sends tells change = record {
  heard = heard;
  plans = λ app u new this.
      let i = Hears (packet sender (Promise w) x.number) in
      let e = called_step x.acceptor.kept app x.members x.number sender u w called in
      let does = promise_writes x.members x.number u.heard (hearing u i) sender w u.leader in
      led_plans x d app u i (prepares_first x.members x.number p.answer)
      (λ y l. subst (λ (f : Effect). TookPart f (prepares_first x.members x.number p.answer) y) (sym e)
      (subst (λ m. TookPart (on_promise x.members m u.heard (hearing u i) sender w u.leader) (prepares_first x.members m p.answer) y) number
      (subst (λ n. TookPart (on_promise n x.proposer.member u.heard (hearing u i) sender w u.leader) (prepares_first n x.proposer.member p.answer) y) members
      (promise_took x.proposer y sender x.number u.applied w p.change p.answer least most wide takes (commits x.proposer p.change y (subst (λ c. Leads x.proposer c y) change l)) u.heard u.leader this.knows))))
      (ap (λ t. cond (not t) (hearing u i) u) called)
      (λ y l. subst (HasHeard (news u.heard)) (sym (subst (λ c. Learns x.learner c y) change l)) this.hears)
      (ap (λ (f : Effect). f.write) e ∙ does.0 ∙ ap write_in (sym change))
      (sends x.members x.number)
      (ap (λ (f : Effect). f.tells) e ∙ does.1 ∙ sym tells);
}

-- a promise that is not called for is not heard
pub uncalled_plans : {R : Type 0} (x : Member R) (d : Draft) (sender : ℕ) (w : Window) → below x.acceptor.kept.promise w.ballot ≡ true → IsHeard x.members (Hears (packet sender (Promise w) x.number)) → Says d [] Nothing
    → IsDrafted (Hears (packet sender (Promise w) x.number)) x d
uncalled_plans {R} x d sender w uncalled heard said = record {
  heard = heard;
  plans = λ app u new this.
      let i = Hears (packet sender (Promise w) x.number) in
      subst (λ (e : Effect). Plans {R = R} e x d) (sym (ap (λ t. cond (not t) (on_promise x.members x.number u.heard (hearing u i) sender w u.leader) (quiet u)) uncalled))
      (plain x u [] d this.knows this.hears (sym (ap (all_packets x.members x.number) said.sends_are)) said.tells_are said.change_is);
}
