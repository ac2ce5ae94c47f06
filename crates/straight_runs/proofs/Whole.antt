-- The straight run, phase by phase.
use Rattle.std.proofs.Common.{◌≡◌, ℕ, zero, suc, ◌+◌, ◌-◌, ◌*◌, ◌<◌, ◌≤◌, arith, Bool, true, false, cond, refl, inl, sym, subst, ap, ◌∙◌, ⊎_elim, Some, None, List, [], ◌∷◌, ◌++◌, map, length, length-append}
use Rattle.std.specs.Prelude.{min}
use Rattle.std.proofs.Math.Path.{ap₂}
use Rattle.std.proofs.lemmas.Bool.{cases_lt, false≢true, lt-ltb, le-ltb}
use Rattle.ballots.specs.Messages.{up_to}
use Rattle.ballots.specs.Terms.{Request}
use Rattle.ballots.specs.declared.value.Value.TheVariants.{Request as Of}
use Rattle.paxos.specs.Agreement.{IsRunning}
use Rattle.paxos.specs.Application.{Application}
use Rattle.paxos.specs.Examples.{deliveries}
use Rattle.paxos.specs.Knowledge.{prefix, pair_of}
use Rattle.paxos.specs.Lists.{at, Has}
use Rattle.paxos.specs.Step.{Running}
use Rattle.paxos.specs.World.{Member, World, Event, Submits, start, cast_by, told_to}
use Rattle.paxos.proofs.Lists.{has_left, has_right}
use Rattle.straight_runs.specs.Straight.{opening, opening_sent, closing, closing_sent}
use Rattle.straight_runs.proofs.Lists.{length_each, at_each, same_each, moved_none, moved_all, rows, length_rows}
use Rattle.straight_runs.proofs.Heard.{heards_news, enough_more, prefix_first}
use Rattle.straight_runs.proofs.Phases.{led, lead, prepare, promise, pair, entry, accept, accepted, sent_by, preparing, promising, submitting, accepting, asked, voted, enough, learner, told_by, learning}
use Rattle.straight_runs.proofs.Opening.{prepares_reach, promises_reach}
use Rattle.straight_runs.proofs.Proposal.{length_submitting, length_accepts, accept_step, submit_step, propose_step}
use Rattle.straight_runs.proofs.Learning.{heard_by, accepted_step}
use Rattle.straight_runs.proofs.Sums.{place}
use Rattle.straight_runs.proofs.Smooth.{runs_with, Reaches, reaches_join, deliveries_reach, deliveries_join}

-- A world that the events lead to, and how many messages were sent then.
pub record Ended (app : Application) (n : ℕ) (events : List Event) (sent : ℕ) : Type 0 where
  pub world : World
  pub reached : Reaches app (start n) events world
  pub many : length world.sent ≡ sent

module _ (app : Application) (n m : ℕ) where
  -- how many messages were sent
  length_opened : (j : ℕ) → length (map (prepare n m) (up_to n) ++ map (promise n m) (up_to j)) ≡ n + j
  length_opened j = length-append (map (prepare n m) (up_to n)) (map (promise n m) (up_to j)) ∙ omega (arith, length_each n (prepare n m), length_each j (promise n m))

  module _ (least : 1 ≤ m) (most : m ≤ n) where
    -- the first half, after each delivery
    pub opened : (j : ℕ) → j ≤ 2 * n → Ended app n (opening m j) (opening_sent n j)
    opened j h = ⊎_elim
        (λ (o : n < j). record { world = promising n m (j - n); reached = subst (λ (k : ℕ). Reaches app (start n) (opening m k) (promising n m (j - n))) (omega arith) (promises_reach app n m least most (j - n) (omega arith)); many = length_opened n ∙ omega arith })
        (λ (o : j ≤ n). record { world = preparing n m j; reached = prepares_reach app n m least most j o; many = length_opened j ∙ omega arith })
        (cases_lt n j)

module _ (app : Application) (n m : ℕ) (q : Request) where
  -- none of the members are no majority
  none_enough : enough n m q 0 ≡ false
  none_enough = le-ltb n (2 * 0) (omega arith)

  -- what was told before any is delivered
  none_told : 0 ≡ told_by n m q 0 0
  none_told = one (enough n m q 0) (enough n m q 1) none_enough
    where
      one : (b c : Bool) → b ≡ false → 0 ≡ cond b n (cond c 0 0)
      one true c e = absurd (false≢true (sym e))
      one false true e = refl
      one false false e = refl

  -- after the Accepts the Accepted are delivered
  all_voted : accepting n m q n ≡ learning n m q 0 0
  all_voted =
      ap₂ (λ (ms : List Member) (k : ℕ). record { members = ms; sent = sent_by n m q n; votes = map (λ i. cast_by i (entry n m q)) (up_to n); told = map (λ i. told_to i (pair n m q)) (up_to k) })
      (moved_all n (asked n m q) (voted n m q) ∙ (same_each n (voted n m q) (learner n m q 0) (λ i l h. each i (enough n m q 0) none_enough) ∙ sym (moved_none n (learner n m q 0) (learner n m q 1))))
      none_told
    where
      each : (i : ℕ) (b : Bool) → b ≡ false → voted n m q i
          ≡ record { kept = (voted n m q i).kept; running = Some (runs_with n (heard_by app n m q 0 i) (led n m (lead n m 2 (cond b [] (pair n m q ∷ []))) i)) }
      each i true e = absurd (false≢true (sym e))
      each i false e = refl

  -- after a row of them the next
  row_done : (a : ℕ) → learning n m q a n ≡ learning n m q (suc a) 0
  row_done a =
      ap₂ (λ (ms : List Member) (k : ℕ). record { members = ms; sent = sent_by n m q n; votes = map (λ i. cast_by i (entry n m q)) (up_to n); told = map (λ i. told_to i (pair n m q)) (up_to k) })
      (moved_all n (learner n m q a) (learner n m q (suc a)) ∙ sym (moved_none n (learner n m q (suc a)) (learner n m q (suc (suc a)))))
      (one (enough n m q a) (enough n m q (suc a)) (enough n m q (suc (suc a))) (enough_more n m q a))
    where
      one : (b c d : Bool) → (b ≡ true → c ≡ true) → cond b n (cond c n 0) ≡ cond c n (cond d 0 0)
      one true true d more = refl
      one true false d more = absurd (false≢true (more refl))
      one false true d more = refl
      one false false true more = refl
      one false false false more = refl

  -- a part of a row, after whole rows
  part_of_row : (a k : ℕ) → a < n → k ≤ n → Reaches app (learning n m q 0 0) (deliveries (3 * n + 2) (n * a)) (learning n m q a 0)
      → Reaches app (learning n m q 0 0) (deliveries (3 * n + 2) (n * a + k)) (learning n m q a k)
  part_of_row a k g h r = subst (λ (es : List Event). Reaches app (learning n m q 0 0) es (learning n m q a k)) (sym (deliveries_join (3 * n + 2) (3 * n + 2 + n * a) (n * a) k refl))
      (reaches_join app (learning n m q 0 0) (learning n m q a 0) (learning n m q a k) (deliveries (3 * n + 2) (n * a)) (deliveries (3 * n + 2 + n * a) k) r
      (deliveries_reach app n (3 * n + 2 + n * a) (learning n m q a) (accepted_step app n m q a g) (3 * n + 2 + n * a) 0 k k (omega arith) (omega arith) h))

  -- whole rows
  rows_reach : (a : ℕ) → a ≤ n → Reaches app (learning n m q 0 0) (deliveries (3 * n + 2) (n * a)) (learning n m q a 0)
  rows_reach zero h = subst (λ (k : ℕ). Reaches app (learning n m q 0 0) (deliveries (3 * n + 2) k) (learning n m q 0 0)) (sym nothing) refl
    where
      nothing : n * 0 ≡ 0
      nothing = omega arith
  rows_reach (suc a) h = next_row row (row_done a) (part_of_row a n (omega arith) (omega arith) (rows_reach a (omega arith)))
    where
      row : n * a + n ≡ n * suc a
      row = grind arith

      next_row : n * a + n ≡ n * suc a → learning n m q a n ≡ learning n m q (suc a) 0
          → Reaches app (learning n m q 0 0) (deliveries (3 * n + 2) (n * a + n)) (learning n m q a n)
          → Reaches app (learning n m q 0 0) (deliveries (3 * n + 2) (n * suc a)) (learning n m q (suc a) 0)
      next_row e f r = subst (λ (w : World). Reaches app (learning n m q 0 0) (deliveries (3 * n + 2) (n * suc a)) w) f
          (subst (λ (k : ℕ). Reaches app (learning n m q 0 0) (deliveries (3 * n + 2) k) (learning n m q a n)) e r)

  -- how many messages were sent
  length_sent_by : (j : ℕ) → length (sent_by n m q j) ≡ 3 * n + 1 + n * j
  length_sent_by j = length-append ((submitting n m q).sent ++ map (accept n m q) (up_to n)) (rows n j (accepted n m q)) ∙ omega (arith, length_accepts app n m q, length_rows n j (accepted n m q))

  module _ (least : 1 ≤ m) (most : m ≤ n) where
    -- the request is submitted after the first half
    submitted : (j : ℕ) (v : World) → Reaches app (submitting n m q) (deliveries (2 * n + 1) j) v → Reaches app (start n) (closing n m q j) v
    submitted j v r = reaches_join app (start n) (promising n m n) v (opening m (2 * n)) (Submits m q ∷ deliveries (2 * n + 1) j)
        (subst (λ (k : ℕ). Reaches app (start n) (opening m k) (promising n m n)) twice (promises_reach app n m least most n (omega arith)))
        (submitting n m q, submit_step app n m q least most, r)
      where
        twice : n + n ≡ 2 * n
        twice = omega arith

    module _ (unknown : app.reply [] q.client q.number ≡ None) where
      -- the request and some of the Accepts are delivered
      accepts_reach : (i : ℕ) → i ≤ n → Reaches app (submitting n m q) (deliveries (2 * n + 1) (suc i)) (accepting n m q i)
      accepts_reach i h = (
        accepting n m q 0,
        propose_step app n m q least most unknown,
        deliveries_reach app n (2 * n + 2) (accepting n m q) (accept_step app n m q) (suc (2 * n + 1)) 0 i i (omega arith) (omega arith) h,
      )

      -- and some of the Accepted
      learns_reach : (c : ℕ) (v : World) → Reaches app (learning n m q 0 0) (deliveries (3 * n + 2) c) v → Reaches app (submitting n m q) (deliveries (2 * n + 1) (suc n + c)) v
      learns_reach c v r = subst (λ (es : List Event). Reaches app (submitting n m q) es v) (sym (deliveries_join (2 * n + 1) (3 * n + 2) (suc n) c (omega arith)))
          (reaches_join app (submitting n m q) (accepting n m q n) v (deliveries (2 * n + 1) (suc n)) (deliveries (3 * n + 2) c) (accepts_reach n (omega arith))
          (subst (λ (w : World). Reaches app w (deliveries (3 * n + 2) c) v) (sym all_voted) r))

      -- the end
      pub ended : Reaches app (start n) (closing n m q (n * n + n + 1)) (learning n m q n 0)
      ended = submitted (n * n + n + 1) (learning n m q n 0)
          (subst (λ (k : ℕ). Reaches app (submitting n m q) (deliveries (2 * n + 1) k) (learning n m q n 0)) all (learns_reach (n * n) (learning n m q n 0) (rows_reach n (omega arith))))
        where
          all : suc n + n * n ≡ n * n + n + 1
          all = omega arith

      -- the second half, after each delivery
      pub closed : (j : ℕ) → j ≤ n * n + n + 1 → Ended app n (closing n m q j) (closing_sent n j)
      closed zero h = record { world = submitting n m q; reached = submitted 0 (submitting n m q) refl; many = length_submitting app n m q }
      closed (suc i) h = ⊎_elim late early (cases_lt n i)
        where
          early : i ≤ n → Ended app n (closing n m q (suc i)) (closing_sent n (suc i))
          early o = record {
            world = accepting n m q i;
            reached = submitted (suc i) (accepting n m q i) (accepts_reach i o);
            many = length_sent_by i ∙ ap (λ (k : ℕ). 3 * n + 1 + n * k) all;
          }
            where
              all : i ≡ min i n
              all = omega arith

          late : n < i → Ended app n (closing n m q (suc i)) (closing_sent n (suc i))
          late o =
              let p = place n (i - n) (omega arith) (omega arith) in
              let many : suc n + (n * p.rows + p.part) ≡ suc i = omega (arith, p.is) in record {
                world = learning n m q p.rows p.part;
                reached = submitted (suc i) (learning n m q p.rows p.part) (subst (λ (k : ℕ). Reaches app (submitting n m q) (deliveries (2 * n + 1) k) (learning n m q p.rows p.part)) many
                    (learns_reach (n * p.rows + p.part) (learning n m q p.rows p.part) (part_of_row p.rows p.part p.fewer p.most (rows_reach p.rows (omega (arith, p.fewer))))));
                many = length_sent_by n ∙ ap (λ (k : ℕ). 3 * n + 1 + n * k) all;
              }
            where
              all : n ≡ min i n
              all = omega arith

module _ (app : Application) (n m : ℕ) (q : Request) (least : 1 ≤ m) (most : m ≤ n) where
  -- all members are a majority
  all_enough : enough n m q n ≡ true
  all_enough = lt-ltb n (2 * n) (omega arith)

  -- so all were told
  pub all_told : (learning n m q n 0).told ≡ map (λ k. told_to k (pair_of 1 (Of q))) (up_to n)
  all_told = ap (λ (b : Bool). map (λ k. told_to k (pair n m q)) (up_to (cond b n (cond (enough n m q (suc n)) 0 0)))) all_enough

  -- and have applied it
  pub all_applied : (k : ℕ) → 1 ≤ k → k ≤ n → (u : Running) × IsRunning (learning n m q n 0) k u × (u.applied ≡ 1)
  all_applied k l h = (
    runs_with n (heard_by app n m q n k) (led n m (lead n m 2 (cond (enough n m q n) [] (pair n m q ∷ []))) k),
    record {
      is = learner n m q n k;
      there = ap (λ (ms : List Member). at ms k) (moved_none n (learner n m q n) (learner n m q (suc n))) ∙ at_each n k (learner n m q n) l h;
      running = refl;
    },
    ap (prefix n) (heards_news n m q n k) ∙ (prefix_first n m q n (omega arith) ∙ ap (λ (b : Bool). cond b 1 0) all_enough),
  )

-- each member is among them
pub has_member : (n k : ℕ) → 1 ≤ k → k ≤ n → Has (up_to n) k
has_member zero k l h = absurd (omega arith)
has_member (suc n) k l h = ⊎_elim
    (λ (o : n < k). has_right (up_to n) (suc n ∷ []) k (inl (omega arith)))
    (λ (o : k ≤ n). has_left (up_to n) (suc n ∷ []) k (has_member n k l o))
    (cases_lt n k)
