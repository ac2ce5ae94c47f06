-- What a node drafts plans its step.
use Rattle.std.proofs.Common.{◌≡◌, ◌<◌, ◌≤◌, ℕ, arith, cond, false, length, refl, sym, ap, ap₂, subst, ◌∙◌, List, [], ◌∷◌, Some}
use Rattle.std.proofs.lemmas.Bool.{le-ltb, lt-ltb}
use Rattle.ballots.specs.Messages.{Body, Packet, Answer, Ask, Behind, Chosen, Promise, Reply, Submit, body_of, packet}
use Rattle.ballots.specs.Terms.{Question, Request}
use Rattle.ballots.specs.Replies.{answered}
use Rattle.ballots.specs.declared.message.Message.{Message}
use Rattle.ballots.specs.declared.message.Message.TheVariants as message
use Rattle.ballots.specs.declared.reply.Answer.{Answer as AnswerOfCode}
use Rattle.ballots.specs.declared.reply.Reply.{Reply as Kept}
use Rattle.ballots.specs.declared.reply.Reply.TheVariants.{Done, Fault}
use Rattle.applications.specs.Limits.{applied_at}
use Rattle.ballots.specs.Values.{positions}
use Rattle.ballots.specs.declared.value.Value.{Value}
use Rattle.member.proofs.Drafting.{plain_message}
use Rattle.member.proofs.Keeping.{hearing}
use Rattle.member.specs.Drafts.{AreShort, IsDrafted as IsDraftedOf, IsReady, IsShort, IsSpent as IsSpentOf, MayBeMade, Plans, Says, send_to}
use Rattle.member.specs.Steps.{Input, Hears, IsHeard, IsUnanswered, MayCome, all_packets, effect_of, ticked}
use Rattle.member.specs.declared.draft.Change.TheVariants.{Nothing}
use Rattle.member.specs.declared.draft.Draft.{Draft as MemberDraft}
use Rattle.member.specs.declared.input.Tick.{Tick}
use Rattle.member.specs.declared.input.Tick.TheVariants as tick
use Rattle.member.specs.declared.outcome.Send.{Send}
use Rattle.member.specs.declared.outcome.Target.TheVariants as target
use Rattle.messages.specs.Spelling.{AreInRange, Fits, IsReply, IsWithin}
use Rattle.paxos.specs.Application.{Application}
use Rattle.paxos.specs.Knowledge.{news, news_of, promised_of}
use Rattle.paxos.specs.Step.{Effect, Running, may_begin, on_submit, says, values_of}
use Rattle.paxos.specs.WellFormed.{IsMessage}
use Rattle.paxos.proofs.News.{prefix_limit}
use Rattle.node.proofs.Going.{values_count}
use Rattle.node.specs.Nodes.{AreAll, IsPlanned, IsSpent, Node, RunsAs}

-- what is short fits, and its numbers are in range
short_fits : (b : Body) → IsShort b → Fits b
short_fits (Promise w) h = h
short_fits (Chosen pairs) h = h
short_fits (Answer client number applied answer) h = absurd h
short_fits b h = tt

short_ranges : (b : Body) → IsShort b → AreInRange b
short_ranges (Reply client number reply) h = absurd h
short_ranges (Answer client number applied answer) h = absurd h
short_ranges (Behind client number applied) h = absurd h
short_ranges b h = tt

-- so it is of lists
all_short : (P : Body → Type 0) → ((b : Body) → IsShort b → P b) → (xs : List Send) → AreShort xs → AreAll P xs
all_short P so [] h = tt
all_short P so (x ∷ xs) h = (so (body_of x.message) h.0, all_short P so xs h.1)

-- what may be heard may come
heard_comes : (n : ℕ) (i : Input) → IsHeard n i → MayCome n i
heard_comes n (Hears k) h = h.0
heard_comes n i h = tt

-- a reply is in range
in_range : (r : Kept) → 1 ≤ applied_at r → applied_at r ≤ positions → IsReply r
in_range (Done p) a b = (a, b)
in_range (Fault code p) a b = (a, b)

-- what comes by the clock asks for no reply
pub tick_unanswered : (app : Application) (n : ℕ) (u : Running) (t : Tick) → IsUnanswered app n u (ticked t)
tick_unanswered app n u tick.Begin = tt
tick_unanswered app n u tick.Resend = tt
tick_unanswered app n u tick.CatchUp = tt
tick_unanswered app n u tick.Keep = tt

module _ {R A : Type 0} (has_applied : List (List ℕ) → List Value → A → Type 0) (app : Application) (x : Node R A) (members : x.member.members ≡ x.setup.members) (number : x.member.number ≡ x.setup.member) where
  -- a step of the member is one of the node
  same_plans : (u : Running) (i : Input) (d : MemberDraft) → Plans (effect_of app x.member.members x.member.number x.member.acceptor.kept u i) x.member d
      → Plans (effect_of app x.setup.members x.setup.member x.member.acceptor.kept u i) x.member d
  same_plans u i d p = subst (λ m. Plans (effect_of app x.setup.members m x.member.acceptor.kept u i) x.member d) number
      (subst (λ n. Plans (effect_of app n x.member.number x.member.acceptor.kept u i) x.member d) members p)

  -- what its member drafts, where no reply is kept for what comes
  pub member_planned : (i : Input) (d : MemberDraft) → IsDraftedOf i x.member d → IsReady x.member d → AreShort d.sends.items
      → ((u : Running) → has_applied x.setup.names (values_of x.setup.members u) x.application → IsUnanswered app x.setup.members u i) → IsPlanned has_applied app i x d
  member_planned i d drafted ready short new = record {
    comes = subst (λ n. MayCome n i) members (heard_comes x.member.members i drafted.heard);
    ready = ready;
    plans = λ u r. same_plans u i d (drafted.plans app u (subst (λ n. IsUnanswered app n u i) (sym members) (new u r.applied)) r.this);
    fits = all_short Fits short_fits d.sends.items short;
    ranges = λ u r. all_short AreInRange short_ranges d.sends.items short;
  }

  -- what it says to a client
  pub client_planned : (k : Packet) (message : Message) (d : MemberDraft) → Says d (send_to target.Client message ∷ []) Nothing → news_of k.sender k.body ≡ [] → promised_of k.sender k.body ≡ []
      → IsMessage x.setup.members k → Fits (body_of message) → ((u : Running) → RunsAs has_applied u x → AreInRange (body_of message))
      → ((u : Running) → RunsAs has_applied u x → effect_of app x.setup.members x.setup.member x.member.acceptor.kept u (Hears k) ≡ says (hearing u (Hears k)) (packet x.setup.member (body_of message) 0 ∷ []))
      → IsPlanned has_applied app (Hears k) x d
  client_planned k message d said silent free comes fits ranges step = record {
    comes = comes;
    ready = subst (MayBeMade x.member) (sym said.change_is) tt;
    plans = λ u r. subst (λ (e : Effect). Plans e x.member d) (sym (step u r))
        (plain_message x.member u k _ d r.this silent free (ap (λ m. packet m (body_of message) 0 ∷ []) (sym number) ∙ sym (ap (all_packets x.member.members x.member.number) said.sends_are)) said.tells_are said.change_is);
    fits = subst (AreAll Fits) (sym said.sends_are) (fits, tt);
    ranges = λ u r. subst (AreAll AreInRange) (sym said.sends_are) (ranges u r, tt);
  }

  -- how much it has applied
  applied_count : (applied : ℕ) → ((names : List (List ℕ)) (values : List Value) → has_applied names values x.application → applied ≡ length values) → (u : Running) → RunsAs has_applied u x → applied ≡ u.applied
  applied_count applied means u r = means x.setup.names (values_of x.setup.members u) r.applied ∙ values_count x.setup.members (news u.heard) u.applied r.most

  -- and it is in range
  applied_limit : (applied : ℕ) → ((names : List (List ℕ)) (values : List Value) → has_applied names values x.application → applied ≡ length values) → (u : Running) → RunsAs has_applied u x → applied ≤ positions
  applied_limit applied means u r = let e = applied_count applied means u r in let a = r.most in let b = prefix_limit x.setup.members (news u.heard) in omega (arith, e, a, b)

  -- what it heard is a question
  asked : (q : Question) → x.setup.member ≤ x.setup.members → IsMessage x.setup.members (packet 0 (Ask q) x.setup.member)
  asked q place = record { sender = refl; target = place; body = tt }

  -- a question comes before so much is applied
  pub behind_planned : (q : Question) (applied : ℕ) (d : MemberDraft) → applied < q.floor → x.setup.member ≤ x.setup.members
      → ((names : List (List ℕ)) (values : List Value) → has_applied names values x.application → applied ≡ length values)
      → Says d (send_to target.Client (message.Behind q.client q.number applied) ∷ []) Nothing → IsPlanned has_applied app (Hears (packet 0 (Ask q) x.setup.member)) x d
  behind_planned q applied d less place means said = client_planned (packet 0 (Ask q) x.setup.member) (message.Behind q.client q.number applied) d said refl refl (asked q place) tt (applied_limit applied means) (λ u r.
      let h = hearing u (Hears (packet 0 (Ask q) x.setup.member)) in
      let count = applied_count applied means u r in
      let m = x.setup.member in
      ap (λ t. cond t (says h (packet m (Behind q.client q.number u.applied) 0 ∷ [])) (says h (packet m (Answer q.client q.number u.applied (app.answer (values_of x.setup.members h) q.level q.text)) 0 ∷ [])))
      (lt-ltb u.applied q.floor (subst (λ a. a < q.floor) count less))
      ∙ ap (λ a. says h (packet m (Behind q.client q.number a) 0 ∷ [])) (sym count))

  -- a question is answered
  pub answer_planned : (q : Question) (applied : ℕ) (a : AnswerOfCode) (d : MemberDraft) → q.floor ≤ applied → x.setup.member ≤ x.setup.members
      → ((names : List (List ℕ)) (values : List Value) → has_applied names values x.application → applied ≡ length values)
      → IsWithin (answered a) → ((values : List Value) → has_applied x.setup.names values x.application → answered a ≡ app.answer values q.level q.text)
      → Says d (send_to target.Client (message.Answer q.client q.number applied a) ∷ []) Nothing → IsPlanned has_applied app (Hears (packet 0 (Ask q) x.setup.member)) x d
  answer_planned q applied a d more place means within answers said = client_planned (packet 0 (Ask q) x.setup.member) (message.Answer q.client q.number applied a) d said refl refl (asked q place) within (applied_limit applied means) (λ u r.
      let h = hearing u (Hears (packet 0 (Ask q) x.setup.member)) in
      let count = applied_count applied means u r in
      let m = x.setup.member in
      ap (λ t. cond t (says h (packet m (Behind q.client q.number u.applied) 0 ∷ [])) (says h (packet m (Answer q.client q.number u.applied (app.answer (values_of x.setup.members h) q.level q.text)) 0 ∷ [])))
      (le-ltb u.applied q.floor (subst (λ j. q.floor ≤ j) count more))
      ∙ ap₂ (λ j b. says h (packet m (Answer q.client q.number j b) 0 ∷ [])) (sym count) (sym (answers (values_of x.setup.members u) r.applied)))

  -- a request that was applied gets its reply
  pub reply_planned : (q : Request) (sender : ℕ) (reply : Kept) (d : MemberDraft) → sender ≡ 0 → x.setup.member ≤ x.setup.members
      → ((values : List Value) → has_applied x.setup.names values x.application → Some reply ≡ app.reply values q.client q.number)
      → ((values : List Value) → has_applied x.setup.names values x.application → (1 ≤ applied_at reply) × (applied_at reply ≤ length values))
      → Says d (send_to target.Client (message.Reply q.client q.number reply) ∷ []) Nothing → IsPlanned has_applied app (Hears (packet sender (Submit q) x.setup.member)) x d
  reply_planned q sender reply d client place replies range said = client_planned (packet sender (Submit q) x.setup.member) (message.Reply q.client q.number reply) d said refl refl
      (record { sender = client; target = place; body = tt }) tt (λ u r. in_range reply (range (values_of x.setup.members u) r.applied).0
      (let h = (range (values_of x.setup.members u) r.applied).1 in let e = values_count x.setup.members (news u.heard) u.applied r.most in let a = r.most in let b = prefix_limit x.setup.members (news u.heard) in omega (arith, h, e, a, b))) (λ u r.
      let h = hearing u (Hears (packet sender (Submit q) x.setup.member)) in
      ap (on_submit x.setup.members x.setup.member x.member.acceptor.kept h q) (sym (replies (values_of x.setup.members u) r.applied)))

-- what is spent for the member is for its node
pub spent_of : {R A : Type 0} (x : Node R A) (u : Running) (t : Tick) → x.member.members ≡ x.setup.members → IsSpentOf x.member u (ticked t) → IsSpent x u (ticked t)
spent_of x u tick.Begin members h = subst (λ n. may_begin n x.member.acceptor.kept u ≡ false) members h
spent_of x u tick.Resend members h = h
spent_of x u tick.CatchUp members h = h
spent_of x u tick.Keep members h = h

pub spent_to : {R A : Type 0} (x : Node R A) (u : Running) (t : Tick) → x.member.members ≡ x.setup.members → IsSpent x u (ticked t) → IsSpentOf x.member u (ticked t)
spent_to x u tick.Begin members h = subst (λ n. may_begin n x.member.acceptor.kept u ≡ false) (sym members) h
spent_to x u tick.Resend members h = h
spent_to x u tick.CatchUp members h = h
spent_to x u tick.Keep members h = h
