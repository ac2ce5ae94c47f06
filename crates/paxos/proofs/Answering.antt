-- Each answer to a message, and each tick, keeps the invariant.
use Rattle.std.proofs.Common.{◌⊎◌, ◌++◌, inr, ◌≡◌, ℕ, suc, ◌-◌, Bool, true, false, cond, not, arith, refl, inl, subst, ◌∙◌, Option, Some, None, ⊎_elim, List, [], ◌∷◌, map, filter, take, length, ◌==◌, nat_lt}
use Rattle.paxos.specs.Lists.{Has}
use Rattle.ballots.specs.Terms.{Request, Question}
use Rattle.ballots.specs.Values.{positions}
use Rattle.ballots.specs.declared.value.Value.{Value}
use Rattle.ballots.specs.declared.value.Pair.{Pair}
use Rattle.ballots.specs.declared.reply.Reply.{Reply as Kept}
use Rattle.ballots.specs.Messages.{Packet, packet, Body, Prepare, Promise, Accept, Accepted, Chosen, CatchUp, Submit, Reply, Ask, Answer, Behind, up_to}
use Rattle.paxos.specs.Application.{Application}
use Rattle.paxos.specs.Records.{Record}
use Rattle.paxos.specs.Knowledge.{learnt, pair_of, Heard, AcceptedBy, ChosenAre, news_of, news, newly, prefix, learnt_from}
use Rattle.paxos.specs.Step.{Running, quiet, says, on_news, chosen_packet, on_catch_up, values_of, on_submit, on_ask, on_body, is_called_for, on_message, on_catch_up_tick}
use Rattle.paxos.specs.World.{told_to, World}
use Rattle.paxos.specs.Agreement.{IsChosen}
use Rattle.paxos.proofs.Lists.{has_take}
use Rattle.paxos.proofs.News.{IsTruth, newly_chosen, newly_or_older, learnt_from_chosen, prefix_grows, said_accepted, said_chosen}
use Rattle.paxos.proofs.Kept.{size, MayHear, Invariant, MaySay}
use Rattle.paxos.proofs.Effects.{Stands, None_new, Good, sent_to_each, heard_truth, says_good, quiet_good}
use Rattle.paxos.proofs.Accepting.{prepare_good, accept_good}
use Rattle.paxos.proofs.Leading.{promise_good, learns_good, new_request_good}

-- the message that is answered was sent
record Comes (w : World) (sender : ℕ) (body : Body) : Type 0 where
  packet : Packet
  sent : Has w.sent packet
  from : packet.sender ≡ sender
  says : packet.body ≡ body

-- what it newly tells is true too
newer_truth : (w : World) → Invariant w → (sender : ℕ) (body : Body) → Comes w sender body → (h : Heard) → Has (news_of sender body) h → (older : List Heard) → IsTruth w older → IsTruth w (h ∷ older)
newer_truth w i sender body c h told older t = record {
  accepted = λ m p v a. ⊎_elim
      (λ (e : h ≡ AcceptedBy m p v).
      let s = said_accepted sender body m p v (subst (Has (news_of sender body)) e told) in
      subst (λ x. Has w.votes (record { member = x; entry = record { position = p; vote = v } })) (c.from ∙ s.0) (i.accepted c.packet p v c.sent (c.says ∙ s.1)))
      (λ (o : Has older (AcceptedBy m p v)). t.accepted m p v o) a;
  chosen = λ pairs e a q. ⊎_elim
      (λ (d : h ≡ ChosenAre pairs). i.chosen c.packet pairs e c.sent (c.says ∙ said_chosen sender body pairs (subst (Has (news_of sender body)) d told)) q)
      (λ (o : Has older (ChosenAre pairs)). t.chosen pairs e o q) a;
}

module _ (w : World) (m : ℕ) (r : Record) (u : Running) (s : Stands w m r u []) where
  -- one message to one target, that anyone may send
  one_says : (body : Body) (target : ℕ) → MaySay w None_new r body → (k : Packet) → Has (packet m body target ∷ []) k → (k.sender ≡ m) × MaySay w None_new r k.body
  one_says body target may k h = sent_to_each w m None_new r body (target ∷ []) may k h

  -- chosen values may be told
  chosen_says : (target : ℕ) (pairs : List Pair) → ((e : Pair) → Has pairs e → IsChosen w e.position e.value) → (k : Packet) → Has (chosen_packet m target pairs) k → (k.sender ≡ m) × MaySay w None_new r k.body
  chosen_says target [] h k q = absurd q
  chosen_says target (e ∷ es) h k q = one_says (Chosen (e ∷ es)) target h k q

  -- a CatchUp
  catch_up_good : (sender from : ℕ) → Good w m r (on_catch_up (size w) m u sender from)
  catch_up_good sender from = says_good w m r u s _ (chosen_says sender (take 8 (learnt_from (size w) (news u.heard) from (suc positions - from)))
      (λ e h. learnt_from_chosen w (news u.heard) from (suc positions - from) (heard_truth w s.invariant u.heard s.heard) e (has_take 8 _ e h)))

  -- a Submit
  submit_good : (q : Request) (o : Option Kept) → Good w m r (on_submit (size w) m r u q o)
  submit_good q (Some reply) = says_good w m r u s _ (one_says (Reply q.client q.number reply) 0 tt)
  submit_good q None = new_request_good w m r u s q u.leader refl

  -- an Ask
  ask_good : (app : Application) (q : Question) → Good w m r (on_ask app (size w) m u q)
  ask_good app q = one (nat_lt u.applied q.floor)
    where
      behind : Body
      behind = Behind q.client q.number u.applied

      answer : Body
      answer = Answer q.client q.number u.applied (app.answer (values_of (size w) u) q.level q.text)

      one : (t : Bool) → Good w m r (cond t (says u (packet m behind 0 ∷ [])) (says u (packet m answer 0 ∷ [])))
      one true = says_good w m r u s _ (one_says behind 0 tt)
      one false = says_good w m r u s _ (one_says answer 0 tt)

  -- the tick CatchUp
  pub catch_up_tick_good : Good w m r (on_catch_up_tick (size w) m u)
  catch_up_tick_good = says_good w m r u s _ (one (nat_lt (prefix (size w) (news u.heard)) positions))
    where
      one : (t : Bool) (k : Packet) → Has (cond t (map (packet m (CatchUp (suc (prefix (size w) (news u.heard))))) (filter (λ j. not (j == m)) (up_to (size w)))) []) k → (k.sender ≡ m) × MaySay w None_new r k.body
      one true k h = sent_to_each w m None_new r (CatchUp (suc (prefix (size w) (news u.heard)))) (filter (λ j. not (j == m)) (up_to (size w))) tt k h
      one false k h = absurd h

-- what a message tells that was not learnt before
abbrev owed_of : (members : ℕ) → (older : List Packet) → (sender : ℕ) → Body → List Pair
owed_of n older sender (Accepted p vote) = newly n (AcceptedBy sender p vote) (news older)
owed_of n older sender (Chosen pairs) = newly n (ChosenAre pairs) (news older)
owed_of n older sender body = []

-- an Accepted or a Chosen that was sent
news_good : (w : World) (m : ℕ) (r : Record) (u : Running) (older : List Packet) → ((k : Packet) → Has older k → MayHear w k) → (sender : ℕ) (body : Body) → Comes w sender body → (h : Heard) → Has (news_of sender body) h
    → Stands w m r u (newly (size w) h (news older)) → Good w m r (on_news (size w) m older u h)
news_good w m r u older sent sender body c h told s = learns_good w m r u (newly (size w) h (news older)) s
    (newly_chosen w h (news older) (newer_truth w s.invariant sender body c h told (news older) (heard_truth w s.invariant older sent))) u.leader refl

-- each kind of message that was sent
body_good : (w : World) (m : ℕ) (r : Record) (u : Running) (app : Application) (older : List Packet) → ((k : Packet) → Has older k → MayHear w k) → (sender : ℕ) (body : Body) → Comes w sender body
    → Stands w m r u (owed_of (size w) older sender body) → Good w m r (on_body app (size w) m older r u sender body)
body_good w m r u app older sent sender (Prepare b from) c s = prepare_good w m r u s b from
body_good w m r u app older sent sender (Promise x) c s = promise_good w m r u s older sender x u.leader refl
body_good w m r u app older sent sender (Accept p vote) c s = accept_good w m r u s p vote (record { packet = c.packet; sent = c.sent; body = c.says })
body_good w m r u app older sent sender (Accepted p vote) c s = news_good w m r u older sent sender (Accepted p vote) c (AcceptedBy sender p vote) (inl refl) s
body_good w m r u app older sent sender (Chosen pairs) c s = news_good w m r u older sent sender (Chosen pairs) c (ChosenAre pairs) (inl refl) s
body_good w m r u app older sent sender (CatchUp from) c s = catch_up_good w m r u s sender from
body_good w m r u app older sent sender (Submit q) c s = submit_good w m r u s q (app.reply (values_of (size w) u) q.client q.number)
body_good w m r u app older sent sender (Ask q) c s = ask_good w m r u s app q
body_good w m r u app older sent sender body c s = quiet_good w m r u s

-- what is learnt with a message was learnt before or is told now
owed_told : (n : ℕ) (older : List Packet) (sender : ℕ) (body : Body) (p : ℕ) (value : Value) → learnt n p (news_of sender body ++ news older) ≡ Some value → (learnt n p (news older) ≡ Some value) ⊎ Has (owed_of n older sender body) (pair_of p value)
owed_told n older sender (Accepted q vote) p value e = newly_or_older n (AcceptedBy sender q vote) (news older) p value e
owed_told n older sender (Chosen pairs) p value e = newly_or_older n (ChosenAre pairs) (news older) p value e
owed_told n older sender body p value e = inl e

-- a member that has heard one more message of those sent
hears : (w : World) (m : ℕ) (r : Record) (u : Running) (k : Packet) → Has w.sent k → Stands w m r u [] → Stands w m r (record { heard = k ∷ u.heard; leader = u.leader; applied = u.applied }) (owed_of (size w) u.heard k.sender k.body)
hears w m r u k h s = record {
  invariant = s.invariant;
  some = s.some;
  kept = s.kept;
  holds = s.holds;
  leads = s.leads;
  heard = λ q a. ⊎_elim (λ (e : k ≡ q). inl (subst (Has w.sent) e h)) (λ (o : Has u.heard q). s.heard q o) a;
  applied = let more = prefix_grows (length w.members) (news_of k.sender k.body) (news u.heard) in omega (arith, s.applied);
  told = λ p value e. ⊎_elim
      (λ (o : learnt (size w) p (news u.heard) ≡ Some value). ⊎_elim (λ (a : Has w.told (told_to m (pair_of p value))). inl a) (λ (a : ⊥). absurd a) (s.told p value o))
      (λ (o : Has (owed_of (size w) u.heard k.sender k.body) (pair_of p value)). inr o)
      (owed_told (size w) u.heard k.sender k.body p value e);
}

-- each message that was sent
pub message_good : (w : World) (m : ℕ) (r : Record) (u : Running) (app : Application) (k : Packet) → Has w.sent k → Stands w m r u [] → Good w m r (on_message app (length w.members) m k r u)
message_good w m r u app k h s = one (is_called_for r k.body)
  where
    one : (t : Bool) → Good w m r (cond t (on_body app (length w.members) m u.heard r (record { heard = k ∷ u.heard; leader = u.leader; applied = u.applied }) k.sender k.body) (quiet u))
    one true = body_good w m r (record { heard = k ∷ u.heard; leader = u.leader; applied = u.applied }) app u.heard s.heard k.sender k.body
        (record { packet = k; sent = h; from = refl; says = refl }) (hears w m r u k h s)
    one false = quiet_good w m r u s
