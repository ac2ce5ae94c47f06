-- No step changes what was heard before, but that it hears its message, nor how many positions are applied.
use Rattle.std.proofs.Common.{◌≡◌, ◌≤◌, ℕ, Bool, true, false, cond, not, arith, refl, sym, ap, subst, ◌∙◌, ◌&&◌, nat_lt, List, [], ◌∷◌, Option, Some, None}
use Rattle.ballots.specs.Ballot.{below}
use Rattle.ballots.specs.Messages.{Window, Body, Prepare, Promise, Accept, Accepted, Chosen, CatchUp, Submit, Ask, Packet}
use Rattle.ballots.specs.Terms.{Request}
use Rattle.ballots.specs.declared.reply.Reply.{Reply as Kept}
use Rattle.ballots.specs.declared.value.Pair.{Pair}
use Rattle.ballots.specs.declared.value.Value.{Value}
use Rattle.paxos.specs.Application.{Application}
use Rattle.paxos.specs.Knowledge.{AcceptedBy, ChosenAre, joins, news, news_of, newly, prefix}
use Rattle.paxos.specs.Proposing.{has_open, has_free_place}
use Rattle.paxos.proofs.News.{prefix_grows}
use Rattle.paxos.specs.Records.{Record}
use Rattle.paxos.specs.Step.{Leader, Running, Effect, quiet, is_called_for, on_body, on_promise, learns, on_new_request, on_submit, may_begin, says, cover_heard, report_heard, is_learnt_heard, turn_of, to_keep, keeping}
use Rattle.member.specs.Steps.{Input, Hears, Begins, Resends, CatchesUp, KeepsLearnt, effect_of}

-- the step leaves what the member heard and applied
pub record Keeps (u : Running) (e : Effect) : Type 0 where
  pub running : Running
  pub runs : e.running ≡ Some running
  pub heard : running.heard ≡ u.heard
  pub applied : running.applied ≡ u.applied

-- one of two that do
keeps_one : (u : Running) (t : Bool) (d e : Effect) → Keeps u d → Keeps u e → Keeps u (cond t d e)
keeps_one u true d e h k = h
keeps_one u false d e h k = k

keeps_says : (u : Running) (ks : List Packet) → Keeps u (says u ks)
keeps_says u ks = record { running = u; runs = refl; heard = refl; applied = refl }

keeps_promise : (n m : ℕ) (older : List Packet) (u : Running) (sender : ℕ) (w : Window) (o : Option Leader) → Keeps u (on_promise n m older u sender w o)
keeps_promise n m older u sender w None = keeps_says u []
keeps_promise n m older u sender w (Some l) = keeps_one u (joins l.ballot (cover_heard older l sender) w) _ _ (record { running = _; runs = refl; heard = refl; applied = refl }) (keeps_says u [])

keeps_learns : (n m : ℕ) (u : Running) (es : List Pair) (o : Option Leader) → Keeps u (learns n m u es o)
keeps_learns n m u [] o = keeps_says u []
keeps_learns n m u (e ∷ es) None = record { running = u; runs = refl; heard = refl; applied = refl }
keeps_learns n m u (e ∷ es) (Some l) = record { running = _; runs = refl; heard = refl; applied = refl }

keeps_new : (n m : ℕ) (r : Record) (u : Running) (q : Request) (o : Option Leader) → Keeps u (on_new_request n m r u q o)
keeps_new n m r u q None = keeps_says u _
keeps_new n m r u q (Some l) = keeps_one u (not (has_open q l.proposals) && has_free_place n (cover_heard u.heard l) (report_heard u.heard l) (is_learnt_heard n u.heard) (turn_of l)) _ _
    (record { running = _; runs = refl; heard = refl; applied = refl }) (keeps_says u [])

keeps_submit : (n m : ℕ) (r : Record) (u : Running) (q : Request) (o : Option Kept) → Keeps u (on_submit n m r u q o)
keeps_submit n m r u q (Some reply) = keeps_says u _
keeps_submit n m r u q None = keeps_new n m r u q u.leader

keeps_body : (app : Application) (n m : ℕ) (older : List Packet) (r : Record) (u : Running) (sender : ℕ) (body : Body) → Keeps u (on_body app n m older r u sender body)
keeps_body app n m older r u sender (Prepare b from) = keeps_one u (below b r.promise) _ _ (keeps_says u []) (record { running = _; runs = refl; heard = refl; applied = refl })
keeps_body app n m older r u sender (Promise w) = keeps_promise n m older u sender w u.leader
keeps_body app n m older r u sender (Accept p vote) = keeps_one u (below vote.ballot r.promise) _ _ (keeps_says u []) (record { running = _; runs = refl; heard = refl; applied = refl })
keeps_body app n m older r u sender (Accepted p vote) = keeps_learns n m u (newly n (AcceptedBy sender p vote) (news older)) u.leader
keeps_body app n m older r u sender (Chosen pairs) = keeps_learns n m u (newly n (ChosenAre pairs) (news older)) u.leader
keeps_body app n m older r u sender (CatchUp from) = keeps_says u _
keeps_body app n m older r u sender (Submit q) = keeps_submit n m r u q _
keeps_body app n m older r u sender (Ask q) = keeps_one u (nat_lt u.applied q.floor) _ _ (keeps_says u _) (keeps_says u _)
keeps_body app n m older r u sender body = keeps_says u []

-- what an input leaves a member with, before it does anything
abbrev pub hearing : Running → Input → Running
hearing u (Hears k) = record { heard = k ∷ u.heard; leader = u.leader; applied = u.applied }
hearing u i = u

-- what an input leaves a member with that keeps r: a promise that is not called for is not heard
abbrev pub heard_by : Record → Running → Input → Running
heard_by r u (Hears k) = cond (is_called_for r k.body) (hearing u (Hears k)) u
heard_by r u i = u

-- Each step does.
pub keeps : (app : Application) (n m : ℕ) (r : Record) (u : Running) (i : Input) → Keeps (heard_by r u i) (effect_of app n m r u i)
keeps app n m r u (Hears k) = one (is_called_for r k.body)
  where
    one : (t : Bool) → Keeps (cond t (hearing u (Hears k)) u) (cond t (on_body app n m u.heard r (hearing u (Hears k)) k.sender k.body) (quiet u))
    one true = keeps_body app n m u.heard r (hearing u (Hears k)) k.sender k.body
    one false = keeps_says u []
keeps app n m r u Begins = keeps_one u (may_begin n r u) _ _ (record { running = _; runs = refl; heard = refl; applied = refl }) (keeps_says u [])
keeps app n m r u Resends = keeps_says u _
keeps app n m r u CatchesUp = keeps_says u _
keeps app n m r u KeepsLearnt = one (to_keep n r u)
  where
    one : (o : Option Value) → Keeps u (keeping u o)
    one None = keeps_says u []
    one (Some value) = record { running = u; runs = refl; heard = refl; applied = refl }

-- Nothing is forgotten by it, and nothing applied.
pub grows : (app : Application) (n m : ℕ) (r : Record) (u : Running) (i : Input) (v : Running) → (effect_of app n m r u i).running ≡ Some v
    → (prefix n (news u.heard) ≤ prefix n (news v.heard)) × (v.applied ≡ u.applied)
grows app n m r u i v e =
    let k = keeps app n m r u i in
    let same : k.running ≡ v = some_one (sym k.runs ∙ e) in
    let left = heard_grows i in (
      subst (λ (z : Running). prefix n (news u.heard) ≤ prefix n (news z.heard)) same (subst (λ ks. prefix n (news u.heard) ≤ prefix n (news ks)) (sym k.heard) left.0),
      ap (λ (z : Running). z.applied) (sym same) ∙ k.applied ∙ left.1,
    )
  where
    some_one : {A : Type 0} {a b : A} → Some a ≡ Some b → a ≡ b
    some_one q = cc

    either : (t : Bool) (k : Packet) → (prefix n (news u.heard) ≤ prefix n (news (cond t (hearing u (Hears k)) u).heard)) × ((cond t (hearing u (Hears k)) u).applied ≡ u.applied)
    either true k = (prefix_grows n (news_of k.sender k.body) (news u.heard), refl)
    either false k = (omega arith, refl)

    heard_grows : (i : Input) → (prefix n (news u.heard) ≤ prefix n (news (heard_by r u i).heard)) × ((heard_by r u i).applied ≡ u.applied)
    heard_grows (Hears k) = either (is_called_for r k.body) k
    heard_grows Begins = (omega arith, refl)
    heard_grows Resends = (omega arith, refl)
    heard_grows CatchesUp = (omega arith, refl)
    heard_grows KeepsLearnt = (omega arith, refl)
