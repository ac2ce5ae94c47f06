-- What was drafted plans the member's step.
use Rattle.std.proofs.Common.{◌≡◌, ℕ, suc, ◌≤◌, ◌<◌, Bool, true, false, cond, not, refl, sym, ap, ap₂, subst, ◌∙◌, List, [], ◌∷◌, ◌++◌, map, filter, ◌==◌, Option, Some, None}
use Rattle.std.specs.Prelude.{nat_lt, option_map}
use Rattle.std.proofs.lemmas.Bool.{le-ltb, lt-ltb}
use Rattle.std.proofs.lemmas.List.{append-nil}
use Rattle.ballots.specs.Ballot.{below}
use Rattle.ballots.specs.Messages.{Packet, Prepare, Promise, Accept, Accepted, CatchUp, packet, to_all, up_to, window_of}
use Rattle.ballots.specs.Values.{positions}
use Rattle.ballots.specs.declared.ballot.Ballot.{Ballot}
use Rattle.ballots.specs.declared.value.Vote.{Vote}
use Rattle.ballots.specs.declared.message.Message.TheVariants as message
use Rattle.ballots.specs.declared.message.Window.{Window as WindowOfCode}
use Rattle.acceptor.specs.Drafts.{Draft as AcceptorDraft}
use Rattle.acceptor.specs.Steps.{on_prepare_writes, on_prepare_answers, on_accept_writes, on_accept_answers}
use Rattle.learner.specs.Hearing.{HasHeard}
use Rattle.paxos.specs.Application.{Application}
use Rattle.paxos.specs.Knowledge.{news, news_of, prefix, promised_of}
use Rattle.paxos.specs.Records.{Write, Nothing as NoWrite, accept_write, prepare_write, window}
use Rattle.paxos.specs.Step.{Effect, Leader, Running, on_resend, quiet, resent, says, yielding}
use Rattle.proposer.proofs.Learned.{unmoved_knows}
use Rattle.proposer.specs.declared.sends.Sends.{Sends}
use Rattle.proposer.specs.Knowing.{Knows, TookPart, accepts_first}
use Rattle.member.specs.declared.draft.Change.TheVariants.{Nothing, Answer}
use Rattle.member.specs.declared.draft.Draft.{Draft}
use Rattle.member.specs.declared.outcome.Target.TheVariants as target
use Rattle.member.specs.Drafts.{IsDrafted, Leads, Learns, Plans, Says, send_to, write_in}
use Rattle.member.specs.Steps.{Member, Hears, Resends, CatchesUp, IsHeard, IsThis, all_packets, effect_of}
use Rattle.member.proofs.Keeping.{hearing}

-- a draft that says something and changes nothing
pub plain : {R : Type 0} (x : Member R) (v : Running) (ks : List Packet) (d : Draft) → Knows v.heard v.leader x.proposer → HasHeard (news v.heard) x.learner
    → ks ≡ all_packets x.members x.number d.sends.items → d.tells.items ≡ [] → d.change ≡ Nothing → Plans (says v ks) x d
plain x v ks d knows hears sends tells change = record {
  running = v;
  runs = refl;
  write = ap write_in (sym change);
  knows = λ y l. subst (λ z. Knows v.heard v.leader z) (sym (subst (λ c. Leads x.proposer c y) change l)) knows;
  hears = λ y l. subst (HasHeard (news v.heard)) (sym (subst (λ c. Learns x.learner c y) change l)) hears;
  sends = λ y l. sends;
  tells = sym tells;
}

-- what a leader says again
pub resent_plans : {R : Type 0} (x : Member R) (d : Draft) (said : Option Sends) → x.proposer.members ≡ x.members → x.proposer.member ≡ x.number
    → ((heard : List Packet) (leader : Option Leader) (applied : ℕ) → Knows heard leader x.proposer
    → TookPart (on_resend x.proposer.members x.proposer.member (record { heard = heard; leader = leader; applied = applied })) (accepts_first x.proposer.members x.proposer.member said) x.proposer)
    → ((n m : ℕ) → all_packets n m d.sends.items ≡ accepts_first n m said) → d.tells.items ≡ [] → d.change ≡ Nothing → IsDrafted Resends x d
resent_plans x d said members number took sends tells change = record {
  heard = tt;
  plans = λ app u new this.
      plain x u (resent x.members x.number u.heard u.leader) d this.knows this.hears
      (ap₂ (λ n m. resent n m u.heard u.leader) (sym members) (sym number) ∙ (took u.heard u.leader u.applied this.knows).sends ∙ ap₂ (λ n m. accepts_first n m said) members number ∙ sym (sends x.members x.number)) tells change;
}

-- all positions are passed
pub all_passed : (p : ℕ) → 1000000 ≤ p → nat_lt p positions ≡ false
unfolding positions
all_passed p h = le-ltb p 1000000 h

-- a position is left
pub one_left : (p : ℕ) → p < 1000000 → nat_lt p positions ≡ true
unfolding positions
one_left p h = lt-ltb p 1000000 h

-- nobody is asked for what is chosen where all is learnt
pub caught_up_plans : {R : Type 0} (x : Member R) (p : ℕ) (d : Draft) → ((u : Running) → IsThis u x → p ≡ prefix x.members (news u.heard)) → nat_lt p positions ≡ false → Says d [] Nothing → IsDrafted CatchesUp x d
caught_up_plans x p d is spent said = record {
  heard = tt;
  plans = λ app u new this.
      plain x u _ d this.knows this.hears
      (ap (λ (b : Bool). cond b (map (packet x.number (CatchUp (suc (prefix x.members (news u.heard))))) (filter (λ k. not (k == x.number)) (up_to x.members))) []) (ap (λ k. nat_lt k positions) (sym (is u this)) ∙ spent)
      ∙ sym (ap (all_packets x.members x.number) said.sends_are)) said.tells_are said.change_is;
}

-- else all others are
pub catching_up_plans : {R : Type 0} (x : Member R) (p : ℕ) (d : Draft) → ((u : Running) → IsThis u x → p ≡ prefix x.members (news u.heard)) → nat_lt p positions ≡ true
    → Says d (send_to target.Others (message.CatchUp (suc p)) ∷ []) Nothing → IsDrafted CatchesUp x d
catching_up_plans x p d is room said = record {
  heard = tt;
  plans = λ app u new this.
      plain x u _ d this.knows this.hears
      (ap₂ (λ (b : Bool) k. cond b (map (packet x.number (CatchUp (suc k))) (filter (λ j. not (j == x.number)) (up_to x.members))) []) (ap (λ k. nat_lt k positions) (sym (is u this)) ∙ room) (sym (is u this))
      ∙ sym (append-nil _) ∙ sym (ap (all_packets x.members x.number) said.sends_are)) said.tells_are said.change_is;
}

-- a draft that answers a ballot: the acceptor writes, and the leader yields
answered : {R : Type 0} (x : Member R) (u : Running) (k : Packet) (w : Write) (b : Ballot) (ks : List Packet) (a : AcceptorDraft (Unit {0})) (d : Draft) → IsThis u x → news_of k.sender k.body ≡ [] → promised_of k.sender k.body ≡ []
    → w ≡ a.write → ks ≡ all_packets x.members x.number d.sends.items → d.tells.items ≡ [] → d.change ≡ Answer a b
    → Plans (record { write = w; running = Some (yielding b (hearing u (Hears k))); sends = ks; tells = [] }) x d
answered x u k w b ks a d this silent free writes sends tells change = record {
  running = yielding b (hearing u (Hears k));
  runs = refl;
  write = writes ∙ ap write_in (sym change);
  knows = λ y l. subst (λ c. Leads x.proposer c y) change l (k ∷ u.heard) u.leader (unmoved_knows u.heard u.leader x.proposer k silent free this.knows);
  hears = λ y l. subst (HasHeard (news (k ∷ u.heard))) (sym (subst (λ c. Learns x.learner c y) change l)) (subst (λ hs. HasHeard (hs ++ news u.heard) x.learner) (sym silent) this.hears);
  sends = λ y l. sends;
  tells = sym tells;
}

-- a draft that says something of a message that promises and tells nothing
pub plain_message : {R : Type 0} (x : Member R) (u : Running) (k : Packet) (ks : List Packet) (d : Draft) → IsThis u x → news_of k.sender k.body ≡ [] → promised_of k.sender k.body ≡ []
    → ks ≡ all_packets x.members x.number d.sends.items → d.tells.items ≡ [] → d.change ≡ Nothing → Plans (says (hearing u (Hears k)) ks) x d
plain_message x u k ks d this silent free sends tells change =
    plain x (hearing u (Hears k)) ks d (unmoved_knows u.heard u.leader x.proposer k silent free this.knows) (subst (λ hs. HasHeard (hs ++ news u.heard) x.learner) (sym silent) this.hears) sends tells change

-- a Prepare below the promise
pub prepare_refused : {R : Type 0} (x : Member R) (sender : ℕ) (b : Ballot) (from : ℕ) (d : Draft) → IsHeard x.members (Hears (packet sender (Prepare b from) x.number))
    → option_map window_of None ≡ on_prepare_answers x.acceptor.kept b from → Says d [] Nothing → IsDrafted (Hears (packet sender (Prepare b from) x.number)) x d
prepare_refused x sender b from d heard answer said = record {
  heard = heard;
  plans = λ app u new this. by_test u this (below b x.acceptor.kept.promise) answer;
}
  where
    by_test : (u : Running) → IsThis u x → (t : Bool) → None ≡ cond t None (Some (window b from x.acceptor.kept.votes))
        → Plans (cond t (quiet (hearing u (Hears (packet sender (Prepare b from) x.number)))) (record {
          write = prepare_write x.acceptor.kept b;
          running = Some (yielding b (hearing u (Hears (packet sender (Prepare b from) x.number))));
          sends = packet x.number (Promise (window b from x.acceptor.kept.votes)) b.member ∷ [];
          tells = [];
        })) x d
    by_test u this true e = plain_message x u (packet sender (Prepare b from) x.number) [] d this refl refl (sym (ap (all_packets x.members x.number) said.sends_are)) said.tells_are said.change_is
    by_test u this false e = let f : ⊥ = cc in absurd f

-- another Prepare
pub prepare_answered : {R : Type 0} (x : Member R) (sender : ℕ) (b : Ballot) (from : ℕ) (w : WindowOfCode) (a : AcceptorDraft (Unit {0})) (d : Draft) → IsHeard x.members (Hears (packet sender (Prepare b from) x.number))
    → Some (window_of w) ≡ on_prepare_answers x.acceptor.kept b from → a.write ≡ on_prepare_writes x.acceptor.kept b
    → Says d (send_to (target.One b.member) (message.Promise w) ∷ []) (Answer a b) → IsDrafted (Hears (packet sender (Prepare b from) x.number)) x d
prepare_answered x sender b from w a d heard answer writes said = record {
  heard = heard;
  plans = λ app u new this. by_test u this (below b x.acceptor.kept.promise) answer writes;
}
  where
    some_one : {A : Type 0} {x y : A} → Some x ≡ Some y → x ≡ y
    some_one q = cc

    by_test : (u : Running) → IsThis u x → (t : Bool) → Some (window_of w) ≡ cond t None (Some (window b from x.acceptor.kept.votes)) → a.write ≡ cond t NoWrite (prepare_write x.acceptor.kept b)
        → Plans (cond t (quiet (hearing u (Hears (packet sender (Prepare b from) x.number)))) (record {
          write = prepare_write x.acceptor.kept b;
          running = Some (yielding b (hearing u (Hears (packet sender (Prepare b from) x.number))));
          sends = packet x.number (Promise (window b from x.acceptor.kept.votes)) b.member ∷ [];
          tells = [];
        })) x d
    by_test u this true e g = let f : ⊥ = cc in absurd f
    by_test u this false e g = answered x u (packet sender (Prepare b from) x.number) (prepare_write x.acceptor.kept b) b _ a d this refl refl (sym g)
        (ap (λ v. packet x.number (Promise v) b.member ∷ []) (sym (some_one e)) ∙ sym (ap (all_packets x.members x.number) said.sends_are)) said.tells_are said.change_is

-- an Accept below the promise
pub accept_refused : {R : Type 0} (x : Member R) (sender p : ℕ) (vote : Vote) (d : Draft) → IsHeard x.members (Hears (packet sender (Accept p vote) x.number))
    → on_accept_answers x.acceptor.kept vote ≡ false → Says d [] Nothing → IsDrafted (Hears (packet sender (Accept p vote) x.number)) x d
accept_refused x sender p vote d heard answer said = record {
  heard = heard;
  plans = λ app u new this. by_test u this (below vote.ballot x.acceptor.kept.promise) answer;
}
  where
    by_test : (u : Running) → IsThis u x → (t : Bool) → not t ≡ false
        → Plans (cond t (quiet (hearing u (Hears (packet sender (Accept p vote) x.number)))) (record {
          write = accept_write x.acceptor.kept p vote;
          running = Some (yielding vote.ballot (hearing u (Hears (packet sender (Accept p vote) x.number))));
          sends = to_all x.members x.number (Accepted p vote);
          tells = [];
        })) x d
    by_test u this true e = plain_message x u (packet sender (Accept p vote) x.number) [] d this refl refl (sym (ap (all_packets x.members x.number) said.sends_are)) said.tells_are said.change_is
    by_test u this false e = let f : ⊥ = cc in absurd f

-- another Accept
pub accept_answered : {R : Type 0} (x : Member R) (sender p : ℕ) (vote : Vote) (a : AcceptorDraft (Unit {0})) (d : Draft) → IsHeard x.members (Hears (packet sender (Accept p vote) x.number))
    → on_accept_answers x.acceptor.kept vote ≡ true → a.write ≡ on_accept_writes x.acceptor.kept p vote
    → Says d (send_to target.All (message.Accepted p vote) ∷ []) (Answer a vote.ballot) → IsDrafted (Hears (packet sender (Accept p vote) x.number)) x d
accept_answered x sender p vote a d heard answer writes said = record {
  heard = heard;
  plans = λ app u new this. by_test u this (below vote.ballot x.acceptor.kept.promise) answer writes;
}
  where
    by_test : (u : Running) → IsThis u x → (t : Bool) → not t ≡ true → a.write ≡ cond t NoWrite (accept_write x.acceptor.kept p vote)
        → Plans (cond t (quiet (hearing u (Hears (packet sender (Accept p vote) x.number)))) (record {
          write = accept_write x.acceptor.kept p vote;
          running = Some (yielding vote.ballot (hearing u (Hears (packet sender (Accept p vote) x.number))));
          sends = to_all x.members x.number (Accepted p vote);
          tells = [];
        })) x d
    by_test u this true e g = let f : ⊥ = cc in absurd f
    by_test u this false e g = answered x u (packet sender (Accept p vote) x.number) (accept_write x.acceptor.kept p vote) vote.ballot _ a d this refl refl (sym g)
        (sym (append-nil _) ∙ sym (ap (all_packets x.members x.number) said.sends_are)) said.tells_are said.change_is

-- a message that does nothing
pub quiet_plans : {R : Type 0} (x : Member R) (k : Packet) (d : Draft) → IsHeard x.members (Hears k) → news_of k.sender k.body ≡ [] → promised_of k.sender k.body ≡ []
    → ((app : Application) (u : Running) → effect_of app x.members x.number x.acceptor.kept u (Hears k) ≡ quiet (hearing u (Hears k))) → Says d [] Nothing → IsDrafted (Hears k) x d
quiet_plans {R} x k d heard silent free step said = record {
  heard = heard;
  plans = λ app u new this.
      subst (λ (e : Effect). Plans {R = R} e x d) (sym (step app u)) (plain_message x u k [] d this silent free (sym (ap (all_packets x.members x.number) said.sends_are)) said.tells_are said.change_is);
}
