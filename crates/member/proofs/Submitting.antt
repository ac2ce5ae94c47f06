-- What comes of a client's request plans the member's step.
use Rattle.std.proofs.Common.{◌≡◌, ℕ, ◌-◌, ◌≤◌, Bool, true, false, cond, not, ◌&&◌, arith, refl, sym, ap, subst, ◌∙◌, List, [], ◌∷◌, Option, Some, None}
use Rattle.ballots.specs.Messages.{Elsewhere, Packet, Submit, packet}
use Rattle.ballots.specs.Terms.{Request}
use Rattle.ballots.specs.declared.message.Message.TheVariants as message
use Rattle.ballots.specs.declared.value.Value.TheVariants.{Request as Of}
use Rattle.learner.specs.Hearing.{HasHeard}
use Rattle.paxos.proofs.Same.{free_place_same}
use Rattle.paxos.specs.Application.{Application}
use Rattle.paxos.specs.Knowledge.{news}
use Rattle.paxos.specs.Proposing.{has_free_place, has_open, proposes}
use Rattle.paxos.specs.Records.{Nothing as NoWrite, Record}
use Rattle.paxos.specs.Step.{Effect, Leader, Running, cover_heard, is_learnt_heard, leading, on_new_request, on_submit, quiet, report_heard, turn_of as turn_heard}
use Rattle.proposer.proofs.Learned.{unmoved_knows}
use Rattle.proposer.proofs.Submitted.{known_alike, submitted_took, turn_alike}
use Rattle.proposer.specs.Knowing.{IsLed, Knows, TookPart, prepares_first}
use Rattle.proposer.specs.Submitting.{IsSubmitted, takes_request}
use Rattle.proposer.specs.Terms.{Leading, cover_of, is_learnt_of, is_open, report_of, turn_of}
use Rattle.proposer.specs.declared.draft.Draft.{Draft as ProposerDraft}
use Rattle.proposer.specs.declared.sends.Sends.{Sends}
use Rattle.member.proofs.Drafting.{plain_message}
use Rattle.member.proofs.Keeping.{hearing}
use Rattle.member.proofs.Leading.{led_plans}
use Rattle.member.specs.Drafts.{HasMade, IsDrafted, Leads, Learns, Plans, Says, send_to, write_in}
use Rattle.member.specs.Steps.{Member, Hears, IsHeard, IsThis, IsUnanswered, all_packets, effect_of}
use Rattle.member.specs.declared.draft.Change.TheVariants.{Nothing, Submit as Submits}
use Rattle.member.specs.declared.draft.Draft.{Draft}
use Rattle.member.specs.declared.outcome.Target.TheVariants as target

-- two values that are one option
some_one : {A : Type 0} {a b : A} → Some a ≡ Some b → a ≡ b
some_one q = cc

-- where no reply is kept, a request is a new one
is_new : (app : Application) (n m s : ℕ) (r : Record) (u : Running) (q : Request) → IsUnanswered app n u (Hears (packet s (Submit q) m))
    → effect_of app n m r u (Hears (packet s (Submit q) m)) ≡ on_new_request n m r (hearing u (Hears (packet s (Submit q) m))) q u.leader
is_new app n m s r u q new = let v = hearing u (Hears (packet s (Submit q) m)) in ap (on_submit n m r v q) new

-- a request whose step is to say something
request_plans : {R : Type 0} (x : Member R) (s : ℕ) (q : Request) (ks : List Packet) (d : Draft) → IsHeard x.members (Hears (packet s (Submit q) x.number))
    → ((u : Running) → IsThis u x → on_new_request x.members x.number x.acceptor.kept (hearing u (Hears (packet s (Submit q) x.number))) q u.leader
    ≡ record { write = NoWrite; running = Some (hearing u (Hears (packet s (Submit q) x.number))); sends = ks; tells = [] })
    → ks ≡ all_packets x.members x.number d.sends.items → d.tells.items ≡ [] → d.change ≡ Nothing → IsDrafted (Hears (packet s (Submit q) x.number)) x d
request_plans {R} x s q ks d heard step sends tells change = record {
  heard = heard;
  plans = λ app u new this.
      subst (λ (e : Effect). Plans {R = R} e x d) (sym (is_new app x.members x.number s x.acceptor.kept u q new ∙ step u this))
      (plain_message x u (packet s (Submit q) x.number) ks d this refl refl sends tells change);
}

-- nothing is proposed where a request is open
none_open : (t b : Bool) (d e : Effect) → t ≡ true → cond (not t && b) d e ≡ e
none_open true b d e h = refl
none_open false b d e h = let f : ⊥ = cc in absurd f

-- nor where there is no place
none_placed : (t b : Bool) (d e : Effect) → b ≡ false → cond (not t && b) d e ≡ e
none_placed true b d e h = refl
none_placed false true d e h = let f : ⊥ = cc in absurd f
none_placed false false d e h = refl

-- a request that is open is not proposed again
pub open_plans : {R : Type 0} (x : Member R) (s : ℕ) (q : Request) (d : Draft) → IsHeard x.members (Hears (packet s (Submit q) x.number)) → is_open q x.proposer ≡ true → Says d [] Nothing → IsDrafted (Hears (packet s (Submit q) x.number)) x d
open_plans x s q d heard is said =
    request_plans x s q [] d heard (λ u this. by_leader u u.leader this.knows) (sym (ap (all_packets x.members x.number) said.sends_are)) said.tells_are said.change_is
  where
    open_in : (o : Option Leading) → Bool
    open_in o = elim o as (λ z. Bool) [ None ↦ false | Some z ↦ has_open q z.proposals ]

    by_leader : (u : Running) (o : Option Leader) → Knows u.heard o x.proposer
        → on_new_request x.members x.number x.acceptor.kept (hearing u (Hears (packet s (Submit q) x.number))) q o ≡ quiet (hearing u (Hears (packet s (Submit q) x.number)))
    by_leader u None k = let e : false ≡ true = sym (ap open_in k) ∙ is in let f : ⊥ = cc in absurd f
    by_leader u (Some l) k =
        let there : has_open q l.proposals ≡ true = sym (ap (has_open q) k.2.proposals) ∙ sym (ap open_in k.1) ∙ is in
        let v = hearing u (Hears (packet s (Submit q) x.number)) in
        none_open (has_open q l.proposals) (has_free_place x.members (cover_heard v.heard l) (report_heard v.heard l) (is_learnt_heard x.members v.heard) (turn_heard l)) (leading x.members x.number v l (proposes (Of q) (turn_heard l)) [] []) (quiet v) there

-- a request finds no place
pub placeless_plans : {R : Type 0} (x : Member R) (s : ℕ) (q : Request) (d : Draft) → IsHeard x.members (Hears (packet s (Submit q) x.number)) → (x.proposer.lead ≡ None → ⊥) → x.proposer.members ≡ x.members
    → ((l : Leading) → x.proposer.lead ≡ Some l → takes_request x.proposer.members l ≡ false) → Says d [] Nothing → IsDrafted (Hears (packet s (Submit q) x.number)) x d
placeless_plans x s q d heard leads members none said =
    request_plans x s q [] d heard (λ u this. by_leader u u.leader (λ l e. (this.state.leads l e).least) this.knows) (sym (ap (all_packets x.members x.number) said.sends_are)) said.tells_are said.change_is
  where
    by_leader : (u : Running) (o : Option Leader) → ((l : Leader) → o ≡ Some l → 1 ≤ l.next) → Knows u.heard o x.proposer
        → on_new_request x.members x.number x.acceptor.kept (hearing u (Hears (packet s (Submit q) x.number))) q o ≡ quiet (hearing u (Hears (packet s (Submit q) x.number)))
    by_leader u None least k = absurd (leads k)
    by_leader u (Some l) least k =
        let n = x.members in
        let z = k.0 in
        let led : IsLed n u.heard l z = subst (λ j. IsLed j u.heard l z) members k.2 in
        let one : 1 ≤ z.next = (let a = least l refl in let b = led.next in omega (arith, a, b)) in
        let place : has_free_place n (cover_heard u.heard l) (report_heard u.heard l) (is_learnt_heard n u.heard) (turn_heard l) ≡ false =
        ap (has_free_place n (cover_heard u.heard l) (report_heard u.heard l) (is_learnt_heard n u.heard)) (sym (turn_alike n u.heard l z led))
        ∙ sym (free_place_same n (z.next - 1) (cover_of z) (cover_heard u.heard l) (report_of z) (report_heard u.heard l) (is_learnt_of z) (is_learnt_heard n u.heard) (known_alike n u.heard l z one led) (turn_of z) (omega (arith, one)))
        ∙ subst (λ j. takes_request j z ≡ false) members (none z k.1) in
        let v = hearing u (Hears (packet s (Submit q) x.number)) in
        none_placed (has_open q l.proposals) (has_free_place n (cover_heard v.heard l) (report_heard v.heard l) (is_learnt_heard n v.heard) (turn_heard l)) (leading n x.number v l (proposes (Of q) (turn_heard l)) [] []) (quiet v) place

-- a member that does not lead names the one that it has promised
pub elsewhere_plans : {R : Type 0} (x : Member R) (s : ℕ) (q : Request) (d : Draft) → IsHeard x.members (Hears (packet s (Submit q) x.number)) → x.proposer.lead ≡ None
    → Says d (send_to target.Client (message.Elsewhere q.client q.number x.acceptor.kept.promise.member) ∷ []) Nothing → IsDrafted (Hears (packet s (Submit q) x.number)) x d
elsewhere_plans x s q d heard none said =
    request_plans x s q (packet x.number (Elsewhere q.client q.number x.acceptor.kept.promise.member) 0 ∷ []) d heard (λ u this. by_leader u u.leader this.knows) (sym (ap (all_packets x.members x.number) said.sends_are)) said.tells_are said.change_is
  where
    by_leader : (u : Running) (o : Option Leader) → Knows u.heard o x.proposer
        → on_new_request x.members x.number x.acceptor.kept (hearing u (Hears (packet s (Submit q) x.number))) q o
        ≡ record { write = NoWrite; running = Some (hearing u (Hears (packet s (Submit q) x.number))); sends = packet x.number (Elsewhere q.client q.number x.acceptor.kept.promise.member) 0 ∷ []; tells = [] }
    by_leader u None k = refl
    by_leader u (Some l) k = let e : None ≡ Some k.0 = sym none ∙ k.1 in let f : ⊥ = cc in absurd f

-- a request writes nothing and tells nothing
request_writes : (n m : ℕ) (r : Record) (u : Running) (q : Request) (o : Option Leader) → ((on_new_request n m r u q o).write ≡ NoWrite) × ((on_new_request n m r u q o).tells ≡ [])
request_writes n m r u q None = (refl, refl)
request_writes n m r u q (Some l) = one (not (has_open q l.proposals) && has_free_place n (cover_heard u.heard l) (report_heard u.heard l) (is_learnt_heard n u.heard) (turn_heard l)) _ _ (refl, refl) (refl, refl)
  where
    one : (t : Bool) (d e : Effect) → ((d.write ≡ NoWrite) × (d.tells ≡ [])) → ((e.write ≡ NoWrite) × (e.tells ≡ [])) → ((cond t d e).write ≡ NoWrite) × ((cond t d e).tells ≡ [])
    one true d e h k = h
    one false d e h k = k

-- a leader proposes a request
pub submitted_plans : {R : Type 0} (x : Member R) (s : ℕ) (q : Request) (d : Draft) (p : ProposerDraft Sends) → IsHeard x.members (Hears (packet s (Submit q) x.number)) → x.proposer.members ≡ x.members → x.proposer.member ≡ x.number
    → is_open q x.proposer ≡ false → (l : Leading) → IsSubmitted q x.proposer l p.change p.answer → ((n m : ℕ) → all_packets n m d.sends.items ≡ prepares_first n m (Some p.answer)) → d.tells.items ≡ [] → d.change ≡ Submits p
    → IsDrafted (Hears (packet s (Submit q) x.number)) x d
submitted_plans {R} x s q d p heard members number unopened l made sends tells change = record {
  heard = heard;
  plans = λ app u new this.
      let k = packet s (Submit q) x.number in
      let i = Hears k in
      let r = x.acceptor.kept in
      let v = hearing u i in
      let e = is_new app x.members x.number s r u q new in
      let quiet = request_writes x.members x.number r v q u.leader in
      led_plans {R = R} x d app u i (prepares_first x.members x.number (Some p.answer))
      (λ y c. let did : HasMade x.proposer p.change y = subst (λ b. Leads x.proposer b y) change c in
      subst (λ (f : Effect). TookPart f (prepares_first x.members x.number (Some p.answer)) y) (sym e)
      (subst (λ m. TookPart (on_new_request x.members m r v q u.leader) (prepares_first x.members m (Some p.answer)) y) number
      (subst (λ n. TookPart (on_new_request n x.proposer.member r v q u.leader) (prepares_first n x.proposer.member (Some p.answer)) y) members
      (submitted_took x.proposer y q l p.answer made.leads made.place made.least made.sends (did.proposed l (Of q) made.leads made.change_is) unopened (k ∷ u.heard) u.leader u.applied r
      (unmoved_knows u.heard u.leader x.proposer k refl refl this.knows)))))
      refl
      (λ y c. subst (HasHeard (news u.heard)) (sym (subst (λ b. Learns x.learner b y) change c)) this.hears)
      (ap (λ (f : Effect). f.write) e ∙ quiet.0 ∙ ap write_in (sym change))
      (sends x.members x.number)
      (ap (λ (f : Effect). f.tells) e ∙ quiet.1 ∙ sym tells);
}
