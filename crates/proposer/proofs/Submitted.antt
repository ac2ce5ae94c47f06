-- A request that found a place.
use Rattle.std.proofs.Common.{◌≡◌, ℕ, suc, ◌-◌, ◌≤◌, Bool, true, false, not, ◌&&◌, cond, arith, refl, sym, ap, ap₂, ◌∙◌, subst, List, [], ◌∷◌, ◌++◌, length, Option, Some, None, is_none, ⊎_elim, ltb-true, ◌*◌}
use Rattle.std.specs.Prelude.{nat_lt, nat_le}
use Rattle.std.proofs.lemmas.Bool.{leb-true}
use Rattle.ballots.specs.Ballot.{count}
use Rattle.ballots.specs.Messages.{Packet}
use Rattle.ballots.specs.Terms.{Request}
use Rattle.ballots.specs.Values.{positions}
use Rattle.ballots.specs.declared.value.Value.TheVariants.{Request as Of}
use Rattle.ballots.specs.declared.value.Pair.{Pair}
use Rattle.paxos.specs.Knowledge.{pair_of}
use Rattle.paxos.specs.Proposing.{Turn, HasStopped, Full, Spent, Uncovered, NothingAbove, has_open, has_place, has_free_place, is_covered, turn, turns, passes, proposes, proposal}
use Rattle.paxos.specs.Records.{Record}
use Rattle.paxos.specs.Step.{Leader, Running, accepts, leading, quiet, on_new_request, cover_heard, report_heard, is_learnt_heard, turn_of as turn_heard}
use Rattle.paxos.specs.Lists.{Has}
use Rattle.paxos.proofs.Lists.{has_cases}
use Rattle.paxos.proofs.Same.{SameAbove, free_place_same}
use Rattle.paxos.proofs.Stopping.{turns_stop}
use Rattle.proposer.specs.declared.sends.Sends.{Sends}
use Rattle.proposer.specs.Knowing.{IsLed, IsAcceptOf, IsStopped, Knows, TookPart, prepares_first}
use Rattle.proposer.specs.Submitting.{takes_request}
use Rattle.proposer.specs.Terms.{Leading, Proposer, cover_of, report_of, is_learnt_of, turn_of, is_open, proposing}
use Rattle.proposer.proofs.Positions.{some_one}

-- a leader and a proposer that knows what it heard begin proposing alike
pub turn_alike : (n : ℕ) (heard : List Packet) (l : Leader) (x : Leading) → IsLed n heard l x → turn_of x ≡ turn_heard l
turn_alike n heard l x h = ap₂ (λ (p : ℕ) (es : List _). record { next = p; proposals = es; made = [] }) h.next h.proposals

-- what they know from the next position on is the same
pub known_alike : (n : ℕ) (heard : List Packet) (l : Leader) (x : Leading) → 1 ≤ x.next → IsLed n heard l x
    → SameAbove n (x.next - 1) (cover_of x) (cover_heard heard l) (report_of x) (report_heard heard l) (is_learnt_of x) (is_learnt_heard n heard)
known_alike n heard l x one h = record {
  covers = λ m a b. h.covers m (omega (arith, a)) b;
  reports = λ p a. h.reports p (let e = h.next in omega (arith, a, e, one));
  learns = λ p a. h.learnt p (let e = h.next in omega (arith, a, e, one));
}

-- the leader proposes the request
proposed_step : (n m : ℕ) (q : Request) (heard : List Packet) (l : Leader) (x : Leading) (applied : ℕ) (r : Record) → 1 ≤ x.next → IsLed n heard l x → has_open q x.proposals ≡ false → takes_request n x ≡ true
    → on_new_request n m r (record { heard = heard; leader = Some l; applied = applied }) q (Some l) ≡ leading n m (record { heard = heard; leader = Some l; applied = applied }) l (proposes (Of q) (turn_heard l)) [] []
proposed_step n m q heard l x applied r one h f place =
    let unopened : has_open q l.proposals ≡ false = ap (has_open q) (sym h.proposals) ∙ f in
    let free : has_free_place n (cover_heard heard l) (report_heard heard l) (is_learnt_heard n heard) (turn_heard l) ≡ true =
    ap (has_free_place n (cover_heard heard l) (report_heard heard l) (is_learnt_heard n heard)) (sym (turn_alike n heard l x h))
    ∙ sym (free_place_same n (x.next - 1) (cover_of x) (cover_heard heard l) (report_of x) (report_heard heard l) (is_learnt_of x) (is_learnt_heard n heard) (known_alike n heard l x one h) (turn_of x) (omega (arith, one)))
    ∙ place in
    let u : Running = record { heard = heard; leader = Some l; applied = applied } in
    ap (λ b. cond b (leading n m u l (proposes (Of q) (turn_heard l)) [] []) (quiet u)) (ap₂ (λ a b. not a && b) unopened free)

-- a request's position isn't learnt
place_unlearnt : (n : ℕ) (l : Leading) → takes_request n l ≡ true → is_learnt_of l l.next ≡ false
place_unlearnt n l h = by_test (has_place n (cover_of l) (turn_of l)) (is_learnt_of l l.next) h
  where
    by_test : (a b : Bool) → (a && is_none (cond a (cond b (Some (passes (turn_of l))) (proposal (report_of l) (is_learnt_of l) (turn_of l) (report_of l l.next))) None)) ≡ true → b ≡ false
    by_test true false h = refl
    by_test true true h = let f : ⊥ = cc in absurd f
    by_test false b h = let f : ⊥ = cc in absurd f

-- the proposer's part of it
pub submitted_took : (x y : Proposer) (q : Request) (l : Leading) (s : Sends) → x.lead ≡ Some l → takes_request x.members l ≡ true → 1 ≤ l.next → IsAcceptOf (Of q) l s
    → y ≡ record { members = x.members; member = x.member; lead = Some (proposing (Of q) l) } → is_open q x ≡ false → (heard : List Packet) (leader : Option Leader) (applied : ℕ) (r : Record) → Knows heard leader x
    → TookPart (on_new_request x.members x.member r (record { heard = heard; leader = leader; applied = applied }) q leader) (prepares_first x.members x.member (Some s)) y
submitted_took x y q l s e place one sent f unopened heard None applied r k = absurd (let g : ⊥ = cc in g)
submitted_took x y q l s e place one sent f unopened heard (Some h) applied r k =
    let same : k.0 ≡ l = some_one (sym k.1 ∙ e) in
    let led : IsLed x.members heard h l = subst (IsLed x.members heard h) same k.2 in
    let none_open : has_open q l.proposals ≡ false = ap (λ o. elim o as (λ z. Bool) [ None ↦ false | Some z ↦ has_open q z.proposals ]) (sym e) ∙ unopened in
    subst (λ step. TookPart step (prepares_first x.members x.member (Some s)) y) (sym (proposed_step x.members x.member q heard h l applied r one led none_open place)) (record {
      running = record { heard = heard; leader = Some (record { ballot = h.ballot; base = h.base; next = suc h.next; proposals = h.proposals ++ pair_of h.next (Of q) ∷ [] }); applied = applied };
      runs = refl;
      knows = rw f (
        proposing (Of q) l,
        refl,
        record {
          ballot = led.ballot;
          base = led.base;
          next = ap suc led.next;
          proposals = ap₂ (λ es p. es ++ pair_of p (Of q) ∷ []) led.proposals led.next;
          covers = led.covers;
          reports = λ p a. led.reports p (omega (arith, a));
          learnt = λ p a. led.learnt p (omega (arith, a));
          unlearnt = λ w i. ⊎_elim (led.unlearnt w) (λ (j : Has (pair_of h.next (Of q) ∷ []) w). ⊎_elim (λ (g : pair_of h.next (Of q) ≡ w). ap (λ (z : Pair). is_learnt_heard x.members heard z.position) (sym g) ∙ sym (led.learnt h.next (omega arith)) ∙ ap (is_learnt_of l) (sym led.next) ∙ place_unlearnt x.members l place) (λ g. absurd g) j) (has_cases h.proposals (pair_of h.next (Of q) ∷ []) w i);
        },
      );
      sends = sym (rw (sent.no_prepares, sent.one_accept) (ap₂ (λ b p. accepts x.members x.member b (pair_of p (Of q) ∷ [])) (sent.ballot_is ∙ led.ballot) led.next));
    })

-- Where a request finds a place, proposing has stopped, since nothing is known at the next position or above.
module _ (n : ℕ) (l : Leading) (place : takes_request n l ≡ true) where
  both : (a b : Bool) → (a && b) ≡ true → (a ≡ true) × (b ≡ true)
  both true b e = (refl, e)
  both false b e = let f : ⊥ = cc in absurd f

  no_turn : (o : Option Turn) → is_none o ≡ true → o ≡ None
  no_turn None e = refl
  no_turn (Some t) e = let f : ⊥ = cc in absurd f

  stopped_here : HasStopped n (cover_of l) (report_of l) (is_learnt_of l) (turn_of l)
  stopped_here =
      let t = no_turn (turn n (cover_of l) (report_of l) (is_learnt_of l) (turn_of l)) (both (has_place n (cover_of l) (turn_of l)) _ place).1 in
      subst (HasStopped n (cover_of l) (report_of l) (is_learnt_of l))
      (ap (λ (o : Option Turn). elim o as (λ x. Turn) [ None ↦ turn_of l | Some u ↦ turns n (cover_of l) (report_of l) (is_learnt_of l) positions u ]) t)
      (turns_stop n (cover_of l) (report_of l) (is_learnt_of l) (suc positions) (turn_of l) (omega arith))

  pub proposed_stopped : (q : Request) → HasStopped n (cover_of l) (report_of l) (is_learnt_of l) (turn_of (proposing (Of q) l))
  proposed_stopped q = by_reason stopped_here
    where
      placed : (nat_lt (length l.proposals) 16 ≡ true) × ((nat_le l.next positions && is_covered n (cover_of l) l.next) ≡ true)
      placed = both (nat_lt (length l.proposals) 16) (nat_le l.next positions && is_covered n (cover_of l) l.next) (both (has_place n (cover_of l) (turn_of l)) (is_none (turn n (cover_of l) (report_of l) (is_learnt_of l) (turn_of l))) place).0

      by_reason : HasStopped n (cover_of l) (report_of l) (is_learnt_of l) (turn_of l) → HasStopped n (cover_of l) (report_of l) (is_learnt_of l) (turn_of (proposing (Of q) l))
      by_reason (Full h) = let a = ltb-true (length l.proposals) 16 placed.0 in absurd (omega (arith, a, h))
      by_reason (Spent h) = let a = leb-true l.next positions (both (nat_le l.next positions) (is_covered n (cover_of l) l.next) placed.1).0 in absurd (omega (arith, a, h))
      by_reason (Uncovered h) = absurd (h (ltb-true n (2 * count n (λ m. nat_le l.next (cover_of l m))) (both (nat_le l.next positions) (is_covered n (cover_of l) l.next) placed.1).1))
      by_reason (NothingAbove h) = NothingAbove (λ p a b. h p (omega (arith, a)) b)

-- the proposer has stopped then
pub submitted_stopped : (x y : Proposer) (q : Request) (l : Leading) → takes_request x.members l ≡ true → y ≡ record { members = x.members; member = x.member; lead = Some (proposing (Of q) l) } → IsStopped y
submitted_stopped x y q l place f = λ z g.
    let same : proposing (Of q) l ≡ z = some_one (sym (ap (λ (w : Proposer). w.lead) f) ∙ g) in
    rw f (subst (λ w. HasStopped x.members (cover_of w) (report_of w) (is_learnt_of w) (turn_of w)) same (proposed_stopped x.members l place q))
