-- The Accepted are delivered, first that of member 1 to each member, then that of member 2, and so on.
use Rattle.std.proofs.Common.{◌≡◌, ℕ, suc, ◌+◌, ◌*◌, ◌<◌, ◌≤◌, arith, Bool, true, false, cond, eqb, not, is_some, refl, inr, sym, subst, ap, ◌∙◌, Option, Some, None, List, [], ◌∷◌, ◌++◌, map, append-nil}
use Rattle.std.proofs.lemmas.Bool.{false≢true}
use Rattle.ballots.specs.Messages.{Packet, up_to}
use Rattle.ballots.specs.Terms.{Request}
use Rattle.ballots.specs.Values.{positions}
use Rattle.ballots.specs.declared.value.Pair.{Pair}
use Rattle.ballots.specs.declared.value.Value.{Value}
use Rattle.ballots.specs.declared.value.Value.TheVariants.{Request as Of}
use Rattle.paxos.specs.Application.{Application}
use Rattle.paxos.specs.Knowledge.{Heard, AcceptedBy, news, prefix, learnt, newly}
use Rattle.paxos.specs.Lists.{at}
use Rattle.paxos.specs.Proposing.{Turn}
use Rattle.paxos.specs.Records.{Record, Nothing}
use Rattle.paxos.specs.Step.{Running, Leader, leading, turn_of, goes_on, is_learnt_heard, learns, closes, on_message}
use Rattle.paxos.specs.World.{Deliver, told_to}
use Rattle.paxos.proofs.Quick.{EndsAt, NewsUpTo}
use Rattle.straight_runs.proofs.Lists.{at-right, length_each, each_more, moved_at, moved_put, rows, at_rows}
use Rattle.straight_runs.proofs.Heard.{heards, heards_news, enough_more, learnt_first, learnt_second, newly_first, prefix_first, news_end, all_windows_end, all_unreported}
use Rattle.straight_runs.proofs.Phases.{own, lead, led, pair, vote, entry, accept, accepted, before, sent_by, heard_of, enough, learner, told_by, learning}
use Rattle.straight_runs.proofs.Proposal.{length_accepts}
use Rattle.straight_runs.proofs.Proposes.{goes_nowhere}
use Rattle.straight_runs.proofs.Smooth.{runs_with, Leads, leads, delivered}

module _ (app : Application) (n m : ℕ) (q : Request) where
  -- what member i has heard, where it heard that members 1 to a accepted
  abbrev pub heard_by : (a i : ℕ) → List Packet
  heard_by a i = heard_of n m q a i ++ accept n m q i ∷ before n m q i

  -- its leader's open proposals then, if it leads
  abbrev pub open_at : (a : ℕ) → List Pair
  open_at a = cond (enough n m q a) [] (pair n m q ∷ [])

  -- the request is learnt where there are enough
  learnt_by : (a i : ℕ) → a ≤ n → (p : ℕ) → is_learnt_heard n (heard_by a i) p ≡ is_some (learnt n p (heards n m q a))
  learnt_by a i h p = ap (λ (hs : List Heard). is_some (learnt n p hs)) (heards_news n m q a i)

  is_learnt : (a i : ℕ) → a ≤ n → enough n m q a ≡ true → is_learnt_heard n (heard_by a i) 1 ≡ true
  is_learnt a i h e = learnt_by a i h 1 ∙ ap (is_some {T = Value}) (learnt_first n m q a h ∙ ap (λ (b : Bool). cond {A = Option Value} b (Some (Of q)) None) e)

  -- nothing is known above it
  ends : (a i : ℕ) → a ≤ n → enough n m q a ≡ true → (proposals : List Pair) → EndsAt n (heard_by a i) (lead n m 2 proposals) 1
  unfolding positions
  ends a i h e proposals = record {
    windows_end = all_windows_end n m q a i;
    news_end = subst (NewsUpTo 1) (sym (heards_news n m q a i)) (news_end n m q a);
    known = λ l. inr (is_learnt a i h e);
    most = omega arith;
  }

  -- the leader's proposal is closed, and it proposes nothing more
  closed : (a i : ℕ) → a ≤ n → enough n m q a ≡ true → closes n (heard_by a i) (lead n m 2 (pair n m q ∷ [])) ≡ lead n m 2 []
  closed a i h e = ap (λ (b : Bool). lead n m 2 (cond (not b) (pair n m q ∷ []) [])) (is_learnt a i h e)

  stays : (a i : ℕ) → a ≤ n → enough n m q a ≡ true → goes_on n (heard_by a i) (lead n m 2 []) ≡ turn_of (lead n m 2 [])
  stays a i h e = goes_nowhere n (heard_by a i) (lead n m 2 []) 1 (ends a i h e []) (all_unreported n m q a i 2)
      (learnt_by a i h 2 ∙ ap (is_some {T = Value}) (learnt_second n m q a)) (omega arith)

  -- what is told, and what is led then
  abbrev pub newly_told : (a : ℕ) → List Pair
  newly_told a = cond (enough n m q a) [] (cond (enough n m q (suc a)) (pair n m q ∷ []) [])

  -- a member that learns the request
  told_it : (a i k : ℕ) → suc a ≤ n → enough n m q (suc a) ≡ true → (t : Bool)
      → learns n i (record { heard = heard_by (suc a) i; leader = cond t (Some (lead n m 2 (pair n m q ∷ []))) None; applied = k }) (pair n m q ∷ []) (cond t (Some (lead n m 2 (pair n m q ∷ []))) None)
      ≡ record { write = Nothing; running = Some (record { heard = heard_by (suc a) i; leader = cond t (Some (lead n m 2 [])) None; applied = k }); sends = []; tells = pair n m q ∷ [] }
  told_it a i k h e true =
      ap (λ (l : Leader). leading n i (record { heard = heard_by (suc a) i; leader = Some (lead n m 2 (pair n m q ∷ [])); applied = k }) l (goes_on n (heard_by (suc a) i) l) [] (pair n m q ∷ [])) (closed (suc a) i h e)
      ∙ ap (λ (t : Turn). leading n i (record { heard = heard_by (suc a) i; leader = Some (lead n m 2 (pair n m q ∷ [])); applied = k }) (lead n m 2 []) t [] (pair n m q ∷ [])) (stays (suc a) i h e)
  told_it a i k h e false = refl

  -- a member that hears an Accepted
  hears : (a i k : ℕ) → suc a ≤ n → (t b c : Bool) → enough n m q (suc a) ≡ c → (b ≡ true → c ≡ true)
      → learns n i (record { heard = heard_by (suc a) i; leader = cond t (Some (lead n m 2 (cond b [] (pair n m q ∷ [])))) None; applied = k }) (cond b [] (cond c (pair n m q ∷ []) [])) (cond t (Some (lead n m 2 (cond b [] (pair n m q ∷ [])))) None)
      ≡ record { write = Nothing; running = Some (record { heard = heard_by (suc a) i; leader = cond t (Some (lead n m 2 (cond c [] (pair n m q ∷ [])))) None; applied = k }); sends = []; tells = cond b [] (cond c (pair n m q ∷ []) []) }
  hears a i k h t true true e more = refl
  hears a i k h t true false e more = absurd (false≢true (more refl))
  hears a i k h t false true e more = told_it a i k h e t
  hears a i k h t false false e more = refl

  -- who was told then
  told_more : (a k : ℕ) → map (λ i. told_to i (pair n m q)) (up_to (told_by n m q a (suc k))) ≡ map (λ i. told_to i (pair n m q)) (up_to (told_by n m q a k)) ++ map (told_to (suc k)) (newly_told a)
  told_more a k = one (enough n m q a) (enough n m q (suc a))
    where
      one : (b c : Bool) → map (λ i. told_to i (pair n m q)) (up_to (cond b n (cond c (suc k) 0))) ≡ map (λ i. told_to i (pair n m q)) (up_to (cond b n (cond c k 0))) ++ map (told_to (suc k)) (cond b [] (cond c (pair n m q ∷ []) []))
      one true c = sym (append-nil (map (λ i. told_to i (pair n m q)) (up_to n)))
      one false true = each_more k (λ i. told_to i (pair n m q))
      one false false = refl

  -- an Accepted is delivered
  pub accepted_step : (a : ℕ) → a < n → (k : ℕ) → k < n → Leads app (learning n m q a k) (Deliver (3 * n + 2 + n * a + k)) (learning n m q a (suc k))
  accepted_step a g k h = leads app n (learning n m q a k) (Deliver (3 * n + 2 + n * a + k)) (learning n m q a (suc k)) (record {
    member = suc k;
    kept = kept;
    running = running;
    write = Nothing;
    next = next;
    sends = [];
    tells = newly_told a;
    many = length_each n _;
    there = moved_at n k (learner n m q a) (learner n m q (suc a)) h;
    step = delivered app n (learning n m q a k) (3 * n + 2 + n * a + k) (accepted n m q (suc a) (suc k)) kept running _ (length_each n _) sent (moved_at n k (learner n m q a) (learner n m q (suc a)) h) answered;
    enough = enough_applied;
    members = sym (moved_put n k (learner n m q a) (learner n m q (suc a)) h);
    sent = sym (append-nil (sent_by n m q n));
    votes = sym (append-nil _);
    told = told_more a k;
  })
    where
      kept : Record
      kept = record { promise = own n m; votes = entry n m q ∷ []; learnt = [] }

      running : Running
      running = runs_with n (heard_by a (suc k)) (led n m (lead n m 2 (open_at a)) (suc k))

      next : Running
      next = record { heard = heard_by (suc a) (suc k); leader = led n m (lead n m 2 (open_at (suc a))) (suc k); applied = prefix n (news (heard_by a (suc k))) }

      hearing : Running
      hearing = record { heard = heard_by (suc a) (suc k); leader = led n m (lead n m 2 (open_at a)) (suc k); applied = prefix n (news (heard_by a (suc k))) }

      sent : at (sent_by n m q n) (3 * n + 2 + n * a + k) ≡ Some (accepted n m q (suc a) (suc k))
      sent = at-right _ (rows n n (accepted n m q)) (3 * n + 1) (3 * n + 2 + n * a + k) (n * a + suc k) (accepted n m q (suc a) (suc k)) (length_accepts app n m q) (omega arith)
          (at_rows n n a (suc k) (n * a + suc k) (accepted n m q) g (omega arith) (omega arith) refl)

      tells : newly n (AcceptedBy (suc a) 1 (vote n m q)) (news (heard_by a (suc k))) ≡ newly_told a
      tells = ap (newly n (AcceptedBy (suc a) 1 (vote n m q))) (heards_news n m q a (suc k)) ∙ newly_first n m q a (omega arith)

      answered : on_message app n (suc k) (accepted n m q (suc a) (suc k)) kept running ≡ record { write = Nothing; running = Some next; sends = []; tells = newly_told a }
      answered = ap (λ (es : List Pair). learns n (suc k) hearing es hearing.leader) tells
          ∙ hears a (suc k) (prefix n (news (heard_by a (suc k)))) (omega arith) (eqb (suc k) m) (enough n m q a) (enough n m q (suc a)) refl (enough_more n m q a)

      no_less : (b c : Bool) → (b ≡ true → c ≡ true) → cond b 1 0 ≤ cond c 1 0
      no_less true true more = omega arith
      no_less true false more = absurd (false≢true (more refl))
      no_less false c more = omega arith

      prefix_of : (b : ℕ) → b ≤ n → prefix n (news (heard_by b (suc k))) ≡ cond (enough n m q b) 1 0
      prefix_of b l = ap (prefix n) (heards_news n m q b (suc k)) ∙ prefix_first n m q b l

      enough_applied : prefix n (news (heard_by a (suc k))) ≤ prefix n (news (heard_by (suc a) (suc k)))
      enough_applied = rw (prefix_of a (omega arith), prefix_of (suc a) (omega arith)) (no_less (enough n m q a) (enough n m q (suc a)) (enough_more n m q a))
