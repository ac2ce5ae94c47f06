-- The request is submitted to the leader, which proposes it, and the Accepts are delivered.
use Rattle.std.proofs.Common.{◌≡◌, ℕ, suc, ◌+◌, ◌*◌, ◌<◌, ◌≤◌, arith, Bool, true, false, cond, eqb, leb, ◌&&◌, is_some, is_none, refl, sym, subst, ap, ◌∙◌, Some, None, List, [], ◌∷◌, ◌++◌, map, length, append-nil, length-append}
use Rattle.std.proofs.Math.Path.{ap₂}
use Rattle.std.proofs.lemmas.Bool.{lt-ltb}
use Rattle.std.proofs.lemmas.List.{append_assoc}
use Rattle.ballots.specs.Ballot.{count}
use Rattle.ballots.specs.Messages.{Packet, Submit, up_to}
use Rattle.ballots.specs.Terms.{Request}
use Rattle.ballots.specs.Values.{positions}
use Rattle.ballots.specs.declared.value.Value.TheVariants.{Request as Of}
use Rattle.paxos.specs.Application.{Application}
use Rattle.paxos.specs.Knowledge.{Heard, news, prefix, learnt, values_to}
use Rattle.paxos.specs.Lists.{at}
use Rattle.paxos.specs.Proposing.{has_place, proposes, turn}
use Rattle.paxos.specs.Records.{Record, Nothing, NewVote}
use Rattle.paxos.specs.Step.{Running, Effect, quiet, yields, leading, turn_of, cover_heard, report_heard, is_learnt_heard, on_submit, on_message}
use Rattle.paxos.specs.World.{Member, Deliver, Submits, Choice, asks, happens, cast_by}
use Rattle.paxos.proofs.Order.{below_self}
use Rattle.paxos.proofs.Quick.{EndsAt, NewsUpTo}
use Rattle.straight_runs.proofs.Lists.{at-left, at-right, length_each, each_more, at_each, same_each, moved_none, moved_at, moved_put, beside_at, beside_put, rows, rows_more}
use Rattle.straight_runs.proofs.Heard.{count_all, promises_news, cover_heard_all, none_reported, windows_end}
use Rattle.straight_runs.proofs.Phases.{own, lead, led, prepare, promise, promises, follower, leader, promising, submission, pair, vote, entry, submitting, accept, accepted, before, asked, voted, accepting}
use Rattle.straight_runs.proofs.Prefixes.{prefix_empty}
use Rattle.straight_runs.proofs.Proposes.{no_turn}
use Rattle.straight_runs.proofs.Smooth.{runs_with, Leads, leads, delivered}

module _ (app : Application) (n m : ℕ) (q : Request) where
  -- how many messages were sent before the Accepts
  pub length_submitting : length (submitting n m q).sent ≡ 2 * n + 1
  length_submitting = length-append (map (prepare n m) (up_to n) ++ map (promise n m) (up_to n)) (submission n m q ∷ [])
      ∙ (ap (λ (l : ℕ). l + 1) (length-append (map (prepare n m) (up_to n)) (map (promise n m) (up_to n)))
      ∙ omega (arith, length_each n (prepare n m), length_each n (promise n m)))

  -- and with them
  pub length_accepts : length ((submitting n m q).sent ++ map (accept n m q) (up_to n)) ≡ 3 * n + 1
  length_accepts = length-append (submitting n m q).sent (map (accept n m q) (up_to n)) ∙ omega (arith, length_submitting, length_each n (accept n m q))

  -- an Accept is delivered
  pub accept_step : (j : ℕ) → j < n → Leads app (accepting n m q j) (Deliver (2 * n + 2 + j)) (accepting n m q (suc j))
  accept_step j h = leads app n (accepting n m q j) (Deliver (2 * n + 2 + j)) (accepting n m q (suc j)) (record {
    member = suc j;
    kept = kept;
    running = running;
    write = NewVote 1 (vote n m q);
    next = next;
    sends = map (accepted n m q (suc j)) (up_to n);
    tells = [];
    many = length_each n _;
    there = moved_at n j (asked n m q) (voted n m q) h;
    step = delivered app n (accepting n m q j) (2 * n + 2 + j) (accept n m q (suc j)) kept running _ (length_each n _) sent (moved_at n j (asked n m q) (voted n m q) h) answered;
    enough = omega arith;
    members = sym (moved_put n j (asked n m q) (voted n m q) h);
    sent = ap (λ (ks : List Packet). (submitting n m q).sent ++ map (accept n m q) (up_to n) ++ ks) (rows_more n j (accepted n m q)) ∙ sym (append_assoc ((submitting n m q).sent ++ map (accept n m q) (up_to n)) (rows n j (accepted n m q)) (map (accepted n m q (suc j)) (up_to n)));
    votes = each_more j (λ i. cast_by i (entry n m q));
    told = refl;
  })
    where
      kept : Record
      kept = record { promise = own n m; votes = []; learnt = [] }

      running : Running
      running = runs_with n (before n m q (suc j)) (led n m (lead n m 2 (pair n m q ∷ [])) (suc j))

      next : Running
      next = record { heard = accept n m q (suc j) ∷ before n m q (suc j); leader = led n m (lead n m 2 (pair n m q ∷ [])) (suc j); applied = prefix n (news (before n m q (suc j))) }

      sent : at (accepting n m q j).sent (2 * n + 2 + j) ≡ Some (accept n m q (suc j))
      sent = at-left ((submitting n m q).sent ++ map (accept n m q) (up_to n)) (rows n j (accepted n m q)) (2 * n + 2 + j) (accept n m q (suc j))
          (at-right (submitting n m q).sent (map (accept n m q) (up_to n)) (2 * n + 1) (2 * n + 2 + j) (suc j) (accept n m q (suc j)) length_submitting (omega arith) (at_each n (suc j) (accept n m q) (omega arith) (omega arith)))

      leads_on : (t : Bool) → yields (own n m) (cond t (Some (lead n m 2 (pair n m q ∷ []))) None) ≡ cond t (Some (lead n m 2 (pair n m q ∷ []))) None
      leads_on true = rw (below_self (own n m)) refl
      leads_on false = refl

      answered : on_message app n (suc j) (accept n m q (suc j)) kept running ≡ record { write = NewVote 1 (vote n m q); running = Some next; sends = map (accepted n m q (suc j)) (up_to n); tells = [] }
      answered = rw (below_self (own n m), leads_on (eqb (suc j) m)) refl

  module _ (least : 1 ≤ m) (most : m ≤ n) where
    -- the request is submitted
    pub submit_step : Leads app (promising n m n) (Submits m q) (submitting n m q)
    submit_step = record { only = λ c h all. asked_of c; may = (record { fails = None; applied = 0 }, refl, asked_of (record { fails = None; applied = 0 })); keeps = λ h. h }
      where
        asked_of : (c : Choice) → happens app (promising n m n) c (Submits m q) ≡ submitting n m q
        asked_of c = ap (asks (promising n m n) m (Submit q)) (beside_at n m (leader n m n) (follower n m) least most)

    -- all that the leader heard then
    abbrev pub so_far : List Packet
    so_far = submission n m q ∷ promises n m n ++ prepare n m m ∷ []

    -- it is no news
    so_far_news : news so_far ≡ []
    so_far_news = promises_news n m n (prepare n m m ∷ [])

    -- nothing is known then
    ends : EndsAt n so_far (lead n m 1 []) 0
    ends = record {
      windows_end = windows_end n m (prepare n m m ∷ []) refl 0 n;
      news_end = subst (NewsUpTo 0) (sym so_far_news) tt;
      known = λ l. absurd (omega arith);
      most = omega arith;
    }

    -- so proposing has stopped
    stopped : turn n (cover_heard so_far (lead n m 1 [])) (report_heard so_far (lead n m 1 [])) (is_learnt_heard n so_far) (turn_of (lead n m 1 [])) ≡ None
    stopped = no_turn n so_far (lead n m 1 []) 0 ends (none_reported n m (prepare n m m ∷ []) refl n 1) (ap (λ (hs : List Heard). is_some (learnt n 1 hs)) so_far_news) (omega arith)

    -- 1 is a position
    one_is_position : leb 1 positions ≡ true
    unfolding positions
    one_is_position = refl

    -- all members cover the first position
    covered : count n (λ k. leb 1 (cover_heard so_far (lead n m 1 []) k)) ≡ n
    covered = count_all n (λ k. leb 1 (cover_heard so_far (lead n m 1 []) k)) (λ i l h. ap (leb 1) (cover_heard_all n m (prepare n m m ∷ []) refl n i l h) ∙ one_is_position)

    -- there is place for it
    placed : has_place n (cover_heard so_far (lead n m 1 [])) (turn_of (lead n m 1 [])) ≡ true
    placed = rw (one_is_position, covered, lt-ltb n (2 * n) (omega arith)) refl

    module _ (unknown : app.reply [] q.client q.number ≡ None) where
      -- no reply is kept then
      no_reply : app.reply (values_to n (news so_far) (prefix n (news (promises n m n ++ prepare n m m ∷ [])))) q.client q.number ≡ None
      no_reply = ap (λ (k : ℕ). app.reply (values_to n (news so_far) k) q.client q.number) (ap (prefix n) (promises_news n m n (prepare n m m ∷ [])) ∙ prefix_empty n) ∙ unknown

      -- the leader proposes it
      pub propose_step : Leads app (submitting n m q) (Deliver (2 * n + 1)) (accepting n m q 0)
      propose_step = leads app n (submitting n m q) (Deliver (2 * n + 1)) (accepting n m q 0) (record {
        member = m;
        kept = kept;
        running = running;
        write = Nothing;
        next = next;
        sends = map (accept n m q) (up_to n);
        tells = [];
        many = length_each n _;
        there = beside_at n m (leader n m n) (follower n m) least most;
        step = delivered app n (submitting n m q) (2 * n + 1) (submission n m q) kept running _ (length_each n _) sent (beside_at n m (leader n m n) (follower n m) least most) answered;
        enough = omega arith;
        members = moved_none n (asked n m q) (voted n m q) ∙ (same_each n (asked n m q) (λ i. cond (eqb i m) proposer (follower n m i)) (λ i l k. each i (eqb i m)) ∙ sym (beside_put n m (leader n m n) proposer (follower n m) least most));
        sent = append-nil ((submitting n m q).sent ++ map (accept n m q) (up_to n));
        votes = refl;
        told = refl;
      })
        where
          kept : Record
          kept = record { promise = own n m; votes = []; learnt = [] }

          running : Running
          running = runs_with n (promises n m n ++ prepare n m m ∷ []) (Some (lead n m 1 []))

          next : Running
          next = record { heard = so_far; leader = Some (lead n m 2 (pair n m q ∷ [])); applied = prefix n (news (promises n m n ++ prepare n m m ∷ [])) }

          hearing : Running
          hearing = record { heard = so_far; leader = Some (lead n m 1 []); applied = prefix n (news (promises n m n ++ prepare n m m ∷ [])) }

          proposer : Member
          proposer = record { kept = kept; running = Some (runs_with n so_far (Some (lead n m 2 (pair n m q ∷ [])))) }

          sent : at (submitting n m q).sent (2 * n + 1) ≡ Some (submission n m q)
          sent = at-right (map (prepare n m) (up_to n) ++ map (promise n m) (up_to n)) (submission n m q ∷ []) (2 * n) (2 * n + 1) 1 (submission n m q)
              (length-append (map (prepare n m) (up_to n)) (map (promise n m) (up_to n)) ∙ omega (arith, length_each n (prepare n m), length_each n (promise n m))) refl refl

          proposed : Effect
          proposed = leading n m hearing (lead n m 1 []) (proposes (Of q) (turn_of (lead n m 1 []))) [] []

          answered : on_message app n m (submission n m q) kept running ≡ record { write = Nothing; running = Some next; sends = map (accept n m q) (up_to n); tells = [] }
          answered = ap (on_submit n m kept hearing q) no_reply
              ∙ (ap₂ (λ (a b : Bool). cond (a && b) proposed (quiet hearing)) placed (ap is_none stopped)
              ∙ ap (λ (ks : List Packet). record { write = Nothing; running = Some next; sends = ks; tells = [] }) (append-nil (map (accept n m q) (up_to n))))

          each : (i : ℕ) (b : Bool)
              → record { kept = record { promise = own n m; votes = []; learnt = [] }; running = Some (runs_with n (cond b (submission n m q ∷ promises n m n ++ prepare n m m ∷ []) (prepare n m i ∷ [])) (cond b (Some (lead n m 2 (pair n m q ∷ []))) None)) } ≡ cond b proposer (follower n m i)
          each i true = refl
          each i false = refl
