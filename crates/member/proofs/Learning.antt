-- What is newly learnt plans the member's step.
use Rattle.std.proofs.Common.{◌≡◌, ℕ, suc, ◌+◌, ◌≤◌, Bool, true, false, cond, arith, refl, inl, inr, sym, ap, ap₂, subst, ◌∙◌, List, [], ◌∷◌, ◌++◌, map, Option, Some, None, is_none, option_to_list}
use Rattle.std.specs.Prelude.{flat_map, ◌&&◌, ◌==◌}
use Rattle.std.proofs.lemmas.Bool.{eq-eqb, ne_eqb}
use Rattle.ballots.specs.Ballot.{is_majority}
use Rattle.ballots.specs.Messages.{Accepted, Body, Chosen, Packet, Promise, packet}
use Rattle.ballots.specs.Values.{positions, IsRising}
use Rattle.ballots.specs.declared.value.Pair.{Pair}
use Rattle.ballots.specs.declared.value.Value.{Value}
use Rattle.ballots.specs.declared.value.Vote.{Vote}
use Rattle.learner.specs.Changes.{Counts, Learns as LearnsPairs, Nothing, change_of, not_learnt, positions_in, positions_of, with_member}
use Rattle.learner.specs.Drafts.{Draft as LearnerDraft}
use Rattle.learner.specs.Hearing.{HasHeard, news_at}
use Rattle.learner.specs.Terms.{Learner, learnt_of}
use Rattle.learner.proofs.Hearing.{news_of_change}
use Rattle.paxos.specs.Application.{Application}
use Rattle.paxos.specs.Knowledge.{AcceptedBy, ChosenAre, Heard, accepted_by, first, learnt as learnt_at, newly, newly_at, news, news_of, pair_of, value_at}
use Rattle.paxos.specs.Lists.{Has}
use Rattle.paxos.specs.Records.{Nothing as NoWrite, Record}
use Rattle.paxos.specs.Step.{Effect, Leader, Running, is_called_for, learns, on_news}
use Rattle.paxos.specs.WellFormed.{ArePairs}
use Rattle.proposer.specs.declared.draft.Draft.{Draft as ProposerDraft}
use Rattle.proposer.specs.declared.sends.Sends.{Sends}
use Rattle.proposer.specs.Hearing.{TakesLearnt}
use Rattle.proposer.specs.Knowing.{TookPart, prepares_first}
use Rattle.proposer.proofs.Learned.{learned_took}
use Rattle.member.specs.declared.draft.Change.TheVariants.{News}
use Rattle.member.specs.declared.draft.Draft.{Draft}
use Rattle.member.specs.Drafts.{IsDrafted, Leads, Learns, write_in}
use Rattle.member.specs.Steps.{Member, Hears, IsHeard, IsThis, all_packets, effect_of}
use Rattle.member.proofs.Keeping.{hearing}
use Rattle.member.proofs.Leading.{commits, led_plans}

-- what is newly learnt is told, and nothing is written
learns_tells : (n m : ℕ) (u : Running) (es : List Pair) (o : Option Leader) → ((learns n m u es o).write ≡ NoWrite) × ((learns n m u es o).tells ≡ es)
learns_tells n m u [] o = (refl, refl)
learns_tells n m u (e ∷ es) None = (refl, refl)
learns_tells n m u (e ∷ es) (Some l) = (refl, refl)

-- what tells something is called for
called_news : (r : Record) (m : ℕ) (body : Body) (h : Heard) → news_of m body ≡ h ∷ [] → is_called_for r body ≡ true
called_news r m (Promise w) h e = let f : ⊥ = cc in absurd f
called_news r m body h e = refl

-- A draft of what a message told, and of what is learnt by that, plans the step.
pub news_plans : {R : Type 0} (x : Member R) (d : Draft) (k : Packet) (h : Heard) (l : LearnerDraft) (p : ProposerDraft (Option Sends)) → x.proposer.members ≡ x.members → x.proposer.member ≡ x.number → x.learner.members ≡ x.members → x.members ≤ 63
    → IsHeard x.members (Hears k) → news_of k.sender k.body ≡ h ∷ []
    → ((app : Application) (u : Running) → effect_of app x.members x.number x.acceptor.kept u (Hears k) ≡ on_news x.members x.number u.heard (hearing u (Hears k)) h)
    → l.change ≡ change_of x.learner h → l.news ≡ positions_of l.change → TakesLearnt x.proposer.members x.proposer.lead l.news p.change p.answer
    → ((n m : ℕ) → all_packets n m d.sends.items ≡ prepares_first n m p.answer) → ((u : Running) → IsThis u x → newly x.members h (news u.heard) ≡ d.tells.items) → d.change ≡ News l p → IsDrafted (Hears k) x d
news_plans {R} x d k h l p members number counted few heard tells_one step change told takes sends tells is = record {
  heard = heard;
  plans = λ app u new this.
      let i = Hears k in
      let e = step app u in
      let does = learns_tells x.members x.number (hearing u i) (newly x.members h (news u.heard)) u.leader in
      let places : l.news ≡ positions_in (newly x.proposer.members h (news u.heard)) =
      told ∙ ap positions_of change ∙ news_of_change h (news u.heard) x.learner (subst (λ n. n ≤ 63) (sym counted) few) this.hears ∙ ap (λ n. news_at n h (news u.heard)) (counted ∙ sym members) in
      led_plans {R = R} x d app u i (prepares_first x.members x.number p.answer)
      (λ y q. subst (λ (f : Effect). TookPart f (prepares_first x.members x.number p.answer) y) (sym e)
      (subst (λ m. TookPart (on_news x.members m u.heard (hearing u i) h) (prepares_first x.members m p.answer) y) number
      (subst (λ n. TookPart (on_news n x.proposer.member u.heard (hearing u i) h) (prepares_first n x.proposer.member p.answer) y) members
      (learned_took x.proposer y l.news p.change p.answer takes (commits x.proposer p.change y (subst (λ c. Leads x.proposer c y) is q)) u.heard u.leader u.applied k h tells_one places this.knows))))
      (ap (λ t. cond t (hearing u i) u) (called_news x.acceptor.kept k.sender k.body h tells_one))
      (λ y q. subst (λ hs. HasHeard (hs ++ news u.heard) y) (sym tells_one) (subst (λ c. Learns x.learner c y) is q (news u.heard) h this.hears change))
      (ap (λ (f : Effect). f.write) e ∙ does.0 ∙ ap write_in (sym is))
      (sends x.members x.number)
      (ap (λ (f : Effect). f.tells) e ∙ does.1 ∙ tells u this);
}

-- an acceptance completes its own value
pub accepted_tells : (n m p : ℕ) (vote : Vote) (older : List Heard) → newly n (AcceptedBy m p vote) older ≡ map (λ q. pair_of q vote.value) (news_at n (AcceptedBy m p vote) older)
accepted_tells n m p vote older = one (learnt_at n p older) (p == p && is_majority n (accepted_by p vote (AcceptedBy m p vote ∷ older)))
  where
    one : (o : Option Value) (t : Bool) → cond (is_none o) (map (pair_of p) (option_to_list (first o (cond t (Some vote.value) None)))) []
        ≡ map (λ q. pair_of q vote.value) (map (λ (e : Pair). e.position) (cond (is_none o) (map (pair_of p) (option_to_list (first o (cond t (Some vote.value) None)))) []))
    one (Some x) t = refl
    one None true = refl
    one None false = refl

-- its position is one
pub accepted_rising : (l : Learner) (m p : ℕ) (vote : Vote) → 1 ≤ p → p ≤ positions → IsRising 1 (positions_of (change_of l (AcceptedBy m p vote)))
accepted_rising l m p vote low high = one (is_some_at l p) (is_majority l.members (with_member l p vote m))
  where
    is_some_at : Learner → ℕ → Bool
    is_some_at x q = elim (value_at q (learnt_of x)) as (λ o. Bool) [ Some v ↦ true | None ↦ false ]

    one : (a b : Bool) → IsRising 1 (positions_of (cond a Nothing (cond b (LearnsPairs (pair_of p vote.value ∷ [])) (Counts m p vote))))
    one true b = tt
    one false true = (low, high, tt)
    one false false = tt

-- positions of pairs that rise, of which some are left out
pub chosen_rising : (learnt pairs : List Pair) (k l : ℕ) → k ≤ l → ArePairs l pairs → IsRising k (positions_in (not_learnt learnt pairs))
chosen_rising learnt [] k l low h = tt
chosen_rising learnt (e ∷ es) k l low h =
    one (is_none (value_at e.position learnt)) (chosen_rising learnt es (e.position + 1) (suc e.position) (omega arith) h.2) (chosen_rising learnt es k (suc e.position) (omega (arith, low, h.0)) h.2)
  where
    one : (b : Bool) → IsRising (e.position + 1) (positions_in (not_learnt learnt es)) → IsRising k (positions_in (not_learnt learnt es)) → IsRising k (positions_in (cond b (e ∷ not_learnt learnt es) (not_learnt learnt es)))
    one true there after = (omega (arith, low, h.0), h.1, there)
    one false there after = after

-- pairs that rise have no positions below the least
has_least : (l : ℕ) (es : List Pair) (e : Pair) → ArePairs l es → Has es e → l ≤ e.position
has_least l [] e h o = absurd o
has_least l (x ∷ es) e h (inl q) = subst (λ (y : Pair). l ≤ y.position) q h.0
has_least l (x ∷ es) e h (inr o) = let r = has_least (suc x.position) es e h.2 o in omega (arith, h.0, r)

-- each of them has its own value
value_there : (l : ℕ) (es : List Pair) (e : Pair) → ArePairs l es → Has es e → value_at e.position es ≡ Some e.value
value_there l [] e h o = absurd o
value_there l (x ∷ es) e h (inl q) = subst (λ (y : Pair). value_at y.position (x ∷ es) ≡ Some y.value) q (rw (eq-eqb x.position x.position refl) refl)
value_there l (x ∷ es) e h (inr o) =
    let r = has_least (suc x.position) es e h.2 o in
    rw (ne_eqb e.position x.position (λ q. omega (arith, q, r))) (value_there (suc x.position) es e h.2 o)

-- of values that are told, those that were not learnt are told on
pub chosen_tells : (n : ℕ) (older : List Heard) (learnt all : List Pair) → ArePairs 1 all → ((q : ℕ) → value_at q learnt ≡ learnt_at n q older) → newly n (ChosenAre all) older ≡ not_learnt learnt all
chosen_tells n older learnt all rise h = each all (λ e o. value_there 1 all e rise o)
  where
    one : (e : Pair) (o c : Option Value) → c ≡ Some e.value → cond (is_none o) (map (pair_of e.position) (option_to_list (first o c))) [] ≡ cond (is_none o) (e ∷ []) []
    one e None c q = rw q refl
    one e (Some x) c q = refl

    step : (e : Pair) (xs : List Pair) (b : Bool) → cond b (e ∷ []) [] ++ xs ≡ cond b (e ∷ xs) xs
    step e xs true = refl
    step e xs false = refl

    each : (es : List Pair) → ((e : Pair) → Has es e → value_at e.position all ≡ Some e.value) → flat_map (λ (e : Pair). newly_at n (ChosenAre all) older e.position) es ≡ not_learnt learnt es
    each [] g = refl
    each (e ∷ es) g =
        ap₂ (λ xs ys. xs ++ ys) (one e (learnt_at n e.position older) (value_at e.position all) (g e (inl refl))) (each es (λ x k. g x (inr k)))
        ∙ ap (λ (o : Option Value). cond (is_none o) (e ∷ []) [] ++ not_learnt learnt es) (sym (h e.position)) ∙ step e (not_learnt learnt es) (is_none (value_at e.position learnt))

-- what is learnt by an acceptance
pub accepted_plans : {R : Type 0} (x : Member R) (d : Draft) (s p : ℕ) (vote : Vote) (l : LearnerDraft) (a : ProposerDraft (Option Sends)) → x.proposer.members ≡ x.members → x.proposer.member ≡ x.number → x.learner.members ≡ x.members → x.members ≤ 63
    → IsHeard x.members (Hears (packet s (Accepted p vote) x.number)) → l.change ≡ change_of x.learner (AcceptedBy s p vote) → l.news ≡ positions_of l.change → TakesLearnt x.proposer.members x.proposer.lead l.news a.change a.answer
    → ((n m : ℕ) → all_packets n m d.sends.items ≡ prepares_first n m a.answer) → d.tells.items ≡ map (λ q. pair_of q vote.value) l.news → d.change ≡ News l a → IsDrafted (Hears (packet s (Accepted p vote) x.number)) x d
accepted_plans {R} x d s p vote l a members number counted few heard change told takes sends tells is =
    let h = AcceptedBy s p vote in
    news_plans {R = R} x d (packet s (Accepted p vote) x.number) h l a members number counted few heard refl (λ app u. refl) change told takes sends (λ u this.
    let places : news_at x.members h (news u.heard) ≡ l.news = ap (λ n. news_at n h (news u.heard)) (sym counted) ∙ sym (told ∙ ap positions_of change ∙ news_of_change h (news u.heard) x.learner (subst (λ n. n ≤ 63) (sym counted) few) this.hears) in
    accepted_tells x.members s p vote (news u.heard) ∙ ap (map (λ q. pair_of q vote.value)) places ∙ sym tells) is

-- what is learnt by values that are told
pub chosen_plans : {R : Type 0} (x : Member R) (d : Draft) (s : ℕ) (pairs : List Pair) (l : LearnerDraft) (a : ProposerDraft (Option Sends)) → x.proposer.members ≡ x.members → x.proposer.member ≡ x.number → x.learner.members ≡ x.members → x.members ≤ 63
    → IsHeard x.members (Hears (packet s (Chosen pairs) x.number)) → ArePairs 1 pairs → l.change ≡ change_of x.learner (ChosenAre pairs) → l.news ≡ positions_of l.change → TakesLearnt x.proposer.members x.proposer.lead l.news a.change a.answer
    → ((n m : ℕ) → all_packets n m d.sends.items ≡ prepares_first n m a.answer) → d.tells.items ≡ not_learnt (learnt_of x.learner) pairs → d.change ≡ News l a → IsDrafted (Hears (packet s (Chosen pairs) x.number)) x d
chosen_plans {R} x d s pairs l a members number counted few heard rise change told takes sends tells is =
    news_plans {R = R} x d (packet s (Chosen pairs) x.number) (ChosenAre pairs) l a members number counted few heard refl (λ app u. refl) change told takes sends (λ u this.
    chosen_tells x.members (news u.heard) (learnt_of x.learner) pairs rise (λ q. this.hears.learnt q ∙ ap (λ n. learnt_at n q (news u.heard)) counted) ∙ sym tells) is
