-- One of n members begins, and the Prepares and the Promises are delivered.
use Rattle.std.proofs.Common.{◌≡◌, ℕ, suc, ◌+◌, ◌<◌, ◌≤◌, arith, Bool, true, false, cond, not, eqb, ltb, ◌&&◌, nat_lt, is_some, refl, sym, subst, ap, ◌∙◌, Some, None, List, [], ◌∷◌, ◌++◌, map, length, replicate, append-nil}
use Rattle.std.proofs.Math.Path.{ap₂}
use Rattle.std.proofs.lemmas.Bool.{eqb-true, eq-eqb, ne_eqb, le-ltb}
use Rattle.std.proofs.lemmas.List.{append_assoc}
use Rattle.ballots.specs.Ballot.{below, no_ballot, last_round}
use Rattle.ballots.specs.Messages.{Packet, packet, Prepare, up_to}
use Rattle.ballots.specs.Values.{positions}
use Rattle.paxos.specs.Application.{Application}
use Rattle.paxos.specs.Knowledge.{Heard, news, prefix, learnt, joins}
use Rattle.paxos.specs.Lists.{at, put}
use Rattle.paxos.specs.Records.{Record, Nothing, NewPromise, window, prepare_write, written}
use Rattle.paxos.specs.Step.{Running, Effect, quiet, may_begin, begins, yields, on_message, on_promise, leading, turn_of, goes_on, asks_on, cover_heard, is_learnt_heard}
use Rattle.paxos.specs.Proposing.{Turn}
use Rattle.paxos.specs.World.{Member, World, Event, Begin, Deliver, Choice, started, fresh, start, casts, after, settles, takes, begins_in, happens}
use Rattle.paxos.specs.Examples.{deliveries}
use Rattle.paxos.proofs.Order.{below_self}
use Rattle.paxos.proofs.Quick.{EndsAt, NewsUpTo}
use Rattle.straight_runs.proofs.Lists.{at-left, at-right, length_each, each_more, at_each, same_each, replicate_each, put_each, moved, moved_none, moved_all, moved_at, moved_put, beside_at, beside_put}
use Rattle.straight_runs.proofs.Heard.{promises_news, window_joins, cover_unheard, cover_heard_all, none_reported, windows_end}
use Rattle.straight_runs.proofs.Prefixes.{prefix_empty}
use Rattle.straight_runs.proofs.Proposes.{goes_nowhere}
use Rattle.straight_runs.proofs.Smooth.{runs_with, Leads, leads, delivered, Reaches, reaches_join, deliveries_reach, deliveries_join}
use Rattle.straight_runs.specs.Straight.{opening}
use Rattle.straight_runs.proofs.Phases.{own, lead, led, prepare, promise, promises, called, promised, preparing, follower, leader, promising}

module _ (app : Application) (n m : ℕ) where
  -- an answered Prepare: whoever had promised nothing, or this ballot
  not_below : (t : Bool) → below (own n m) (cond t (own n m) no_ballot) ≡ false
  not_below true = below_self (own n m)
  not_below false = refl

  -- the ballot's leader leads on
  leads_on : (t : Bool) (next : ℕ) → yields (own n m) (cond t (Some (lead n m next [])) None) ≡ cond t (Some (lead n m next [])) None
  leads_on true next = rw (below_self (own n m)) refl
  leads_on false next = refl

  -- what it writes
  prepare_written : (t : Bool) → written (prepare_write (record { promise = cond t (own n m) no_ballot; votes = []; learnt = [] }) (own n m)) (record { promise = cond t (own n m) no_ballot; votes = []; learnt = [] }) ≡ record { promise = own n m; votes = []; learnt = [] }
  prepare_written true = rw (below_self (own n m)) refl
  prepare_written false = refl

  -- no vote is recorded
  prepare_casts : (t : Bool) → casts (prepare_write (record { promise = cond t (own n m) no_ballot; votes = []; learnt = [] }) (own n m)) ≡ []
  prepare_casts true = rw (below_self (own n m)) refl
  prepare_casts false = refl

  -- a Prepare is delivered
  prepare_step : (j : ℕ) → j < n → Leads app (preparing n m j) (Deliver (1 + j)) (preparing n m (suc j))
  prepare_step j h = leads app n (preparing n m j) (Deliver (1 + j)) (preparing n m (suc j)) (record {
    member = suc j;
    kept = kept;
    running = running;
    write = prepare_write kept (own n m);
    next = next;
    sends = promise n m (suc j) ∷ [];
    tells = [];
    many = length_each n _;
    there = there;
    step = delivered app n (preparing n m j) (1 + j) (prepare n m (suc j)) kept running _ (length_each n _) sent there answered;
    enough = omega arith;
    members = sym (moved_put n j (called n m) (promised n m) h) ∙ ap (λ (r : Record). put (moved n j (called n m) (promised n m)) (suc j) (record { kept = r; running = Some (runs_with n (prepare n m (suc j) ∷ []) (led n m (lead n m 1 []) (suc j))) })) (sym (prepare_written (eqb (suc j) m)));
    sent = rw (each_more j (promise n m)) (sym (append_assoc (map (prepare n m) (up_to n)) (map (promise n m) (up_to j)) (promise n m (suc j) ∷ [])));
    votes = rw (prepare_casts (eqb (suc j) m)) refl;
    told = refl;
  })
    where
      kept : Record
      kept = record { promise = cond (eqb (suc j) m) (own n m) no_ballot; votes = []; learnt = [] }

      running : Running
      running = runs_with n [] (led n m (lead n m 1 []) (suc j))

      next : Running
      next = record { heard = prepare n m (suc j) ∷ []; leader = led n m (lead n m 1 []) (suc j); applied = prefix n [] }

      there : at (moved n j (called n m) (promised n m)) (suc j) ≡ Some (record { kept = kept; running = Some running })
      there = moved_at n j (called n m) (promised n m) h

      sent : at (preparing n m j).sent (1 + j) ≡ Some (prepare n m (suc j))
      sent = ap (at (preparing n m j).sent) one_more ∙ at-left (map (prepare n m) (up_to n)) (map (promise n m) (up_to j)) (suc j) (prepare n m (suc j)) (at_each n (suc j) (prepare n m) (omega arith) (omega arith))
        where
          one_more : 1 + j ≡ suc j
          one_more = omega arith

      answered : on_message app n (suc j) (prepare n m (suc j)) kept running ≡ record { write = prepare_write kept (own n m); running = Some next; sends = promise n m (suc j) ∷ []; tells = [] }
      answered = rw (not_below (eqb (suc j) m), leads_on (eqb (suc j) m) 1) refl

  -- the leader is one of the members
  module _ (least : 1 ≤ m) (most : m ≤ n) where
    -- positions and rounds are left
    may_begin_first : may_begin n (record { promise = no_ballot; votes = []; learnt = [] }) started ≡ true
    unfolding positions last_round
    may_begin_first = ap (λ (p : ℕ). nat_lt p positions && nat_lt 0 last_round) (prefix_empty n)

    -- it begins
    begin_step : Leads app (start n) (Begin m) (preparing n m 0)
    begin_step = leads app n (start n) (Begin m) (preparing n m 0) (record {
      member = m;
      kept = kept;
      running = started;
      write = NewPromise (own n m);
      next = next;
      sends = map (prepare n m) (up_to n);
      tells = [];
      many = many;
      there = there;
      step = step;
      enough = omega arith;
      members = moved_none n (called n m) (promised n m) ∙ sym (ap (λ (ms : List Member). put ms m after_it) (replicate_each n fresh) ∙ put_each n m (λ i. fresh) (called n m) after_it least most leads_then others_then);
      sent = append-nil (map (prepare n m) (up_to n));
      votes = refl;
      told = refl;
    })
      where
        kept : Record
        kept = record { promise = no_ballot; votes = []; learnt = [] }

        next : Running
        next = record { heard = []; leader = Some (lead n m 1 []); applied = 0 }

        after_it : Member
        after_it = record { kept = record { promise = own n m; votes = []; learnt = [] }; running = Some (runs_with n [] (Some (lead n m 1 []))) }

        many : length (replicate n fresh) ≡ n
        many = ap length (replicate_each n fresh) ∙ length_each n (λ i. fresh)

        there : at (replicate n fresh) m ≡ Some (record { kept = kept; running = Some started })
        there = ap (λ (ms : List Member). at ms m) (replicate_each n fresh) ∙ at_each n m (λ i. fresh) least most

        begun : Effect
        begun = record { write = NewPromise (own n m); running = Some next; sends = map (prepare n m) (up_to n); tells = [] }

        step : (c : Choice) → happens app (start n) c (Begin m) ≡ after (start n) m kept (settles n c begun)
        step c =
            ap (takes (start n) m (begins_in (start n) c m)) there
            ∙ (ap (λ (l : ℕ). after (start n) m kept (cond (may_begin l kept started) (settles l c (begins l m kept started)) (quiet started))) many
            ∙ (ap (λ (b : Bool). after (start n) m kept (cond b (settles n c (begins n m kept started)) (quiet started))) may_begin_first
            ∙ ap (λ (p : ℕ). after (start n) m kept (settles n c (record {
              write = NewPromise (own n m);
              running = Some (record { heard = []; leader = Some (record { ballot = own n m; base = p; next = suc p; proposals = [] }); applied = 0 });
              sends = map (packet m (Prepare (own n m) (suc p))) (up_to n);
              tells = [];
            }))) (prefix_empty n)))

        leads_then : called n m m ≡ after_it
        leads_then = ap (λ (b : Bool). record { kept = record { promise = cond b (own n m) no_ballot; votes = []; learnt = [] }; running = Some (runs_with n [] (cond b (Some (lead n m 1 [])) None)) }) (eq-eqb m m refl)

        others_then : (i : ℕ) → 1 ≤ i → i ≤ n → (i ≡ m → ⊥) → fresh ≡ called n m i
        others_then i l k d = ap (λ (a : ℕ). record { kept = kept; running = Some (record { heard = []; leader = None; applied = a }) }) (sym (prefix_empty n))
            ∙ ap (λ (b : Bool). record { kept = record { promise = cond b (own n m) no_ballot; votes = []; learnt = [] }; running = Some (runs_with n [] (cond b (Some (lead n m 1 [])) None)) }) (sym (ne_eqb i m d))

    -- a Promise is delivered
    promise_step : (j : ℕ) → j < n → Leads app (promising n m j) (Deliver (suc n + j)) (promising n m (suc j))
    promise_step j h = leads app n (promising n m j) (Deliver (suc n + j)) (promising n m (suc j)) (record {
      member = m;
      kept = kept;
      running = running;
      write = Nothing;
      next = next;
      sends = [];
      tells = [];
      many = length_each n _;
      there = beside_at n m (leader n m j) (follower n m) least most;
      step = delivered app n (promising n m j) (suc n + j) (promise n m (suc j)) kept running _ (length_each n _) sent (beside_at n m (leader n m j) (follower n m) least most) answered;
      enough = omega arith;
      members = sym (beside_put n m (leader n m j) (leader n m (suc j)) (follower n m) least most);
      sent = sym (append-nil (promising n m j).sent);
      votes = refl;
      told = refl;
    })
      where
        kept : Record
        kept = record { promise = own n m; votes = []; learnt = [] }

        running : Running
        running = runs_with n (promises n m j ++ prepare n m m ∷ []) (Some (lead n m 1 []))

        next : Running
        next = record { heard = promises n m (suc j) ++ prepare n m m ∷ []; leader = Some (lead n m 1 []); applied = prefix n (news (promises n m j ++ prepare n m m ∷ [])) }

        sent : at (promising n m j).sent (suc n + j) ≡ Some (promise n m (suc j))
        sent = at-right (map (prepare n m) (up_to n)) (map (promise n m) (up_to n)) n (suc n + j) (suc j) (promise n m (suc j)) (length_each n (prepare n m)) (omega arith) (at_each n (suc j) (promise n m) (omega arith) (omega arith))

        ends : EndsAt n (promises n m (suc j) ++ prepare n m m ∷ []) (lead n m 1 []) 0
        ends = record {
          windows_end = windows_end n m (prepare n m m ∷ []) refl 0 (suc j);
          news_end = subst (NewsUpTo 0) (sym (promises_news n m (suc j) (prepare n m m ∷ []))) tt;
          known = λ l. absurd (omega arith);
          most = omega arith;
        }

        unlearnt : is_learnt_heard n (promises n m (suc j) ++ prepare n m m ∷ []) 1 ≡ false
        unlearnt = ap (λ (hs : List Heard). is_some (learnt n 1 hs)) (promises_news n m (suc j) (prepare n m m ∷ []))

        stays : goes_on n (promises n m (suc j) ++ prepare n m m ∷ []) (lead n m 1 []) ≡ turn_of (lead n m 1 [])
        stays = goes_nowhere n (promises n m (suc j) ++ prepare n m m ∷ []) (lead n m 1 []) 0 ends (none_reported n m (prepare n m m ∷ []) refl (suc j) 1) unlearnt (omega arith)

        covered : cover_heard (promises n m (suc j) ++ prepare n m m ∷ []) (lead n m 1 []) (suc j) ≡ positions
        covered = cover_heard_all n m (prepare n m m ∷ []) refl (suc j) (suc j) (omega arith) (omega arith)

        joined : joins (own n m) (cover_heard (promises n m j ++ prepare n m m ∷ []) (lead n m 1 []) (suc j)) (window (own n m) 1 []) ≡ true
        joined = ap (λ (c : ℕ). joins (own n m) c (window (own n m) 1 [])) (cover_unheard n m (prepare n m m ∷ []) refl j (suc j) (omega arith)) ∙ window_joins n m

        all_asked : asks_on m (promises n m (suc j) ++ prepare n m m ∷ []) (lead n m 1 []) (suc j) ≡ []
        all_asked = ap (λ (c : ℕ). cond (ltb c positions) (packet m (Prepare (own n m) (suc c)) (suc j) ∷ []) []) covered ∙ ap (λ (b : Bool). cond b (packet m (Prepare (own n m) (suc positions)) (suc j) ∷ []) []) (le-ltb positions positions (omega arith))

        answered : on_message app n m (promise n m (suc j)) kept running ≡ record { write = Nothing; running = Some next; sends = []; tells = [] }
        answered = ap (λ (b : Bool). cond (not b) (on_promise n m running.heard next (suc j) (window (own n m) 1 []) running.leader) (quiet running)) (below_self (own n m))
            ∙ ap (λ (b : Bool). cond b (leading n m next (lead n m 1 []) (goes_on n next.heard (lead n m 1 [])) (asks_on m next.heard (lead n m 1 []) (suc j)) []) (quiet next)) joined
            ∙ ap₂ (λ (t : Turn) (ks : List Packet). leading n m next (lead n m 1 []) t ks []) stays all_asked

    -- after the Prepares the Promises are delivered
    all_prepared : preparing n m n ≡ promising n m 0
    all_prepared = ap (λ (ms : List Member). record { members = ms; sent = map (prepare n m) (up_to n) ++ map (promise n m) (up_to n); votes = []; told = [] })
        (moved_all n (called n m) (promised n m) ∙ same_each n (promised n m) (λ i. cond (eqb i m) (leader n m 0) (follower n m i)) (λ i l k. each i (eqb i m) refl))
      where
        each : (i : ℕ) (b : Bool) → eqb i m ≡ b
            → record { kept = record { promise = own n m; votes = []; learnt = [] }; running = Some (runs_with n (prepare n m i ∷ []) (cond b (Some (lead n m 1 [])) None)) } ≡ cond b (leader n m 0) (follower n m i)
        each i true e = ap (λ (k : ℕ). record { kept = record { promise = own n m; votes = []; learnt = [] }; running = Some (runs_with n (prepare n m k ∷ []) (Some (lead n m 1 []))) }) (eqb-true i m e)
        each i false e = refl

    -- some of the Prepares are delivered
    pub prepares_reach : (j : ℕ) → j ≤ n → Reaches app (start n) (opening m j) (preparing n m j)
    prepares_reach j h = (preparing n m 0, begin_step, deliveries_reach app n 1 (preparing n m) prepare_step 1 0 j j (omega arith) (omega arith) h)

    -- and some of the Promises
    pub promises_reach : (j : ℕ) → j ≤ n → Reaches app (start n) (opening m (n + j)) (promising n m j)
    promises_reach j h = subst (λ (es : List Event). Reaches app (start n) (Begin m ∷ es) (promising n m j)) (sym (deliveries_join 1 (suc n) n j (omega arith)))
        (reaches_join app (start n) (preparing n m n) (promising n m j) (opening m n) (deliveries (suc n) j) (prepares_reach n (omega arith))
        (subst (λ (w : World). Reaches app w (deliveries (suc n) j) (promising n m j)) (sym all_prepared)
        (deliveries_reach app n (suc n) (promising n m) promise_step (suc n) 0 j j (omega arith) (omega arith) h)))
