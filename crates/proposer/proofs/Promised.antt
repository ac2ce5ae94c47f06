-- The proposer's part of what a member does with a promise.
use Rattle.std.proofs.Common.{◌≡◌, ℕ, suc, ◌+◌, ◌≤◌, ◌<◌, Bool, true, false, ◌||◌, ◌&&◌, cond, arith, refl, sym, ap, ap₂, ◌∙◌, subst, List, [], ◌∷◌, ◌++◌, map, Option, Some, None, is_some, eqb}
use Rattle.std.specs.Prelude.{nat_le, nat_lt}
use Rattle.std.proofs.lemmas.Bool.{eq-eqb, ne_eqb, leb-false}
use Rattle.ballots.specs.Messages.{Packet, Window, Promise, Prepare, packet}
use Rattle.ballots.specs.Values.{positions}
use Rattle.ballots.specs.declared.value.Entry.{Entry}
use Rattle.ballots.specs.declared.value.Pair.{Pair}
use Rattle.paxos.specs.Knowledge.{joins, windows, report_in, higher}
use Rattle.paxos.specs.Proposing.{Turn, still_open, HasStopped}
use Rattle.paxos.specs.Records.{vote_at}
use Rattle.paxos.specs.Step.{Leader, Running, Effect, accepts, asks_on, goes_on, leading, quiet, on_promise, cover_heard}
use Rattle.position_map.specs.Slots.{value_at}
use Rattle.proposer.specs.declared.draft.Change.{Change}
use Rattle.proposer.specs.declared.draft.Change.TheVariants.{Nothing, Take}
use Rattle.proposer.specs.declared.draft.News.{News}
use Rattle.proposer.specs.declared.sends.Sends.{Sends}
use Rattle.proposer.specs.Beginning.{is_in}
use Rattle.proposer.specs.Hearing.{AreBetween, IsWindow, IsTaking, IsQuiet, IsUnchanged, SameLead, TakesIf, TakesPromise}
use Rattle.proposer.specs.Knowing.{IsLed, IsStopped, Knows, TookPart, prepare_of, prepares_first}
use Rattle.proposer.specs.Taking.{HasTaken, IsAsWas, asked_on}
use Rattle.proposer.specs.Terms.{Leading, Proposer, cover_of, report_of, is_learnt_of, turn_of}
use Rattle.std.proofs.lemmas.Bool.{lt-ltb}
use Rattle.proposer.proofs.Positions.{some_one}
use Rattle.proposer.proofs.Taken.{Agrees, cover_skips, cover_joins, report_skips, report_joins, later, step_goes, taken_led, taken_stopped, stopped_same}

-- Room changes nothing that a proposer knows.
led_as_was : (n : ℕ) (heard : List Packet) (l : Leader) (x y : Leading) → IsAsWas x y → IsLed n heard l x → IsLed n heard l y
led_as_was n heard l x y s h = record {
  ballot = ap (λ (z : Leading). z.ballot) s.same ∙ h.ballot;
  base = ap (λ (z : Leading). z.base) s.same ∙ h.base;
  next = ap (λ (z : Leading). z.next) s.same ∙ h.next;
  proposals = ap (λ (z : Leading). z.proposals) s.same ∙ h.proposals;
  covers = λ m i j. ap (λ (z : Leading). cover_of z m) s.same ∙ h.covers m i j;
  reports = λ p i. ap (λ es. value_at p es) s.reports ∙ h.reports p i;
  learnt = λ p i. ap (λ es. is_some (value_at p es)) s.learnt ∙ h.learnt p i;
  unlearnt = h.unlearnt;
}

no_lead : (o : Option Leading) → SameLead None o → o ≡ None
no_lead None h = refl
no_lead (Some x) h = absurd h

some_lead : (l : Leading) (o : Option Leading) → SameLead (Some l) o → (x : Leading) × (o ≡ Some x) × IsAsWas l x
some_lead l None h = absurd h
some_lead l (Some x) h = (x, refl, h)

pub knows_unchanged : (heard : List Packet) (leader : Option Leader) (x y : Proposer) → IsUnchanged x y → Knows heard leader x → Knows heard leader y
knows_unchanged heard None x y s k = no_lead y.lead (subst (λ o. SameLead o y.lead) k s.lead)
knows_unchanged heard (Some l) x y s k =
    let r = some_lead k.0 y.lead (subst (λ o. SameLead o y.lead) k.1 s.lead) in
    (r.0, r.1, subst (λ n. IsLed n heard l r.0) (sym s.members) (led_as_was x.members heard l k.0 r.0 r.2 k.2))

-- What commits.
pub record Commits (x : Proposer) (change : Change) (y : Proposer) : Type 0 where
  pub nothing : change ≡ Nothing → y ≡ x
  pub taken : (l : Leading) (news : News) → x.lead ≡ Some l → change ≡ Take news → (z : Leading) × (y ≡ record { members = x.members; member = x.member; lead = Some z }) × HasTaken l news z

-- entries between two positions have no votes elsewhere
none_below : (least most p : ℕ) (es : List Entry) → AreBetween least most es → p < least → vote_at p es ≡ None
none_below least most p [] h l = refl
none_below least most p (e ∷ es) h l = rw (ne_eqb p e.position (λ q. omega (arith, q, l, h.0))) (none_below (e.position + 1) most p es h.2 (omega (arith, l, h.0)))

none_above : (least most p : ℕ) (es : List Entry) → AreBetween least most es → most < p → vote_at p es ≡ None
none_above least most p [] h l = refl
none_above least most p (e ∷ es) h l = rw (ne_eqb p e.position (λ q. omega (arith, q, l, h.1))) (none_above (e.position + 1) most p es h.2 l)

-- a window reports just its entries
reported_in : (p : ℕ) (w : Window) → IsWindow w → vote_at p w.entries ≡ report_in p w
reported_in p w h = by_test (nat_le w.from p) (nat_le p w.covered) refl refl
  where
    by_test : (a b : Bool) → nat_le w.from p ≡ a → nat_le p w.covered ≡ b → vote_at p w.entries ≡ cond (a && b) (vote_at p w.entries) None
    by_test true true e f = refl
    by_test true false e f = none_above w.from w.covered p w.entries h.entries (leb-false p w.covered f)
    by_test false b e f = none_below w.from w.covered p w.entries h.entries (leb-false w.from p e)

-- nothing learnt closes nothing
still_none : (es : List Pair) → still_open (λ p. is_in p []) es ≡ es
still_none [] = refl
still_none (x ∷ es) = ap (λ ys. x ∷ ys) (still_none es)

pub still_all : (ps : List ℕ) (es : List Pair) → ps ≡ [] → still_open (λ p. is_in p ps) es ≡ es
still_all ps es e = ap (λ qs. still_open (λ p. is_in p qs) es) e ∙ still_none es

pub or_none : (b : Bool) → (b || false) ≡ b
or_none true = refl
or_none false = refl

module _ (n k target applied : ℕ) (w : Window) (heard : List Packet) (l : Leader) (x : Leading) (led : IsLed n heard l x) (one : 1 ≤ k) (most : k ≤ n) where
  -- what was heard then
  more : List Packet
  more = packet k (Promise w) target ∷ heard

  joined_alike : joins x.ballot (cover_of x k) w ≡ joins l.ballot (cover_heard heard l k) w
  joined_alike = ap₂ (λ b c. joins b c w) led.ballot (led.covers k one most)

  -- a window that doesn't join changes nothing
  skipped_led : joins l.ballot (cover_heard heard l k) w ≡ false → IsLed n (packet k (Promise w) target ∷ heard) l x
  skipped_led j = record {
    ballot = led.ballot;
    base = led.base;
    next = led.next;
    proposals = led.proposals;
    covers = λ i a b. led.covers i a b ∙ sym (cover_skips l.ballot l.base k w (windows heard) i j);
    reports = λ p a. led.reports p a ∙ sym (report_skips l.ballot l.base k p w (windows heard) j);
    learnt = led.learnt;
    unlearnt = led.unlearnt;
  }

  joined_agrees : (news : News) (change : Change) (answer : Option Sends) → IsWindow w → joins l.ballot (cover_heard heard l k) w ≡ true → (t : IsTaking n x k w.covered w.entries [] change answer) → Agrees n (packet k (Promise w) target ∷ heard) l x t.news
  joined_agrees news change answer wide j t = record {
    ballot = led.ballot;
    base = led.base;
    next = led.next;
    least = (let e = led.next in let o = t.least in omega (arith, e, o));
    proposals = still_all t.news.learnt.items x.proposals t.told.learnt_are ∙ led.proposals;
    covers = λ i a b. ap₂ (λ q c. cond (eqb i q) c (cover_of x i)) t.told.member_is t.told.covered_is ∙ ap (λ c. cond (eqb i k) w.covered c) (led.covers i a b) ∙ sym (cover_joins l.ballot l.base k w (windows heard) i j);
    reports = λ p a. ap₂ higher (led.reports p a) (ap (vote_at p) t.told.entries_are ∙ reported_in p w wide) ∙ sym (report_joins l.ballot l.base k p w (windows heard) j);
    learnt = λ p a. ap (λ ps. is_learnt_of x p || is_in p ps) t.told.learnt_are ∙ or_none (is_learnt_of x p) ∙ led.learnt p a;
    unlearnt = led.unlearnt;
  }

  -- the member is asked on
  asked_again : (m : ℕ) (news : News) (s : Sends) → s.ballot ≡ l.ballot → s.prepares.items ≡ asked_on news → news.member ≡ k → news.covered ≡ w.covered → joins l.ballot (cover_heard heard l k) w ≡ true
      → map (prepare_of m s.ballot) s.prepares.items ≡ asks_on m (packet k (Promise w) target ∷ heard) l k
  asked_again m news s b e f g j =
      let covered : cover_heard (packet k (Promise w) target ∷ heard) l k ≡ w.covered = cover_joins l.ballot l.base k w (windows heard) k j ∙ ap (λ q. cond q w.covered (cover_heard heard l k)) (eq-eqb k k refl) in
      rw (e, b, f, g, covered, lt-ltb 0 k one) (by_test (nat_lt w.covered positions))
    where
      by_test : (t : Bool) → map (prepare_of m l.ballot) (cond t (record { member = k; from = suc w.covered } ∷ []) []) ≡ cond t (packet m (Prepare l.ballot (suc w.covered)) k ∷ []) []
      by_test true = refl
      by_test false = refl

  -- the step of a promise that joins
  joined_took : (m : ℕ) (x0 y : Proposer) (change : Change) (answer : Option Sends) → x0.members ≡ n → x0.lead ≡ Some x → Commits x0 change y → IsWindow w → (j : joins l.ballot (cover_heard heard l k) w ≡ true) → IsTaking n x k w.covered w.entries [] change answer
      → TookPart (leading n m (record { heard = packet k (Promise w) target ∷ heard; leader = Some l; applied = applied }) l (goes_on n (packet k (Promise w) target ∷ heard) l) (asks_on m (packet k (Promise w) target ∷ heard) l k) []) (prepares_first n m answer) y
  joined_took m x0 y change answer ns e c wide j t =
      let a = joined_agrees t.news change answer wide j t in
      let r = c.taken x t.news e t.change_is in
      let goes = step_goes n (packet k (Promise w) target ∷ heard) l x t.news a t.gone in
      record {
        running = record { heard = packet k (Promise w) target ∷ heard; leader = Some (later n (packet k (Promise w) target ∷ heard) l x t.news a t.gone); applied = applied };
        runs = ap (λ (u : Turn). Some (record { heard = packet k (Promise w) target ∷ heard; leader = Some (record { ballot = l.ballot; base = l.base; next = u.next; proposals = u.proposals }); applied = applied })) goes;
        knows = rw r.1 (r.0, refl, subst (λ q. IsLed q (packet k (Promise w) target ∷ heard) (later n (packet k (Promise w) target ∷ heard) l x t.news a t.gone) r.0) (sym ns) (taken_led n (packet k (Promise w) target ∷ heard) l x t.news a t.gone r.0 r.2));
        sends = ap₂ (λ ps (u : Turn). ps ++ accepts n m l.ballot u.made) (sym (asked_again m t.news t.sends (t.said.ballot_is ∙ led.ballot) t.said.prepares_are t.told.member_is t.told.covered_is j)) goes
            ∙ ap₂ (λ b es. map (prepare_of m t.sends.ballot) t.sends.prepares.items ++ accepts n m b es) (sym (t.said.ballot_is ∙ led.ballot)) (sym t.said.accepts_are)
            ∙ ap (prepares_first n m) (sym t.answer_is);
      }

-- the proposer's part of the step
pub promise_took : (x y : Proposer) (k target applied : ℕ) (w : Window) (change : Change) (answer : Option Sends) → 1 ≤ k → k ≤ x.members → IsWindow w → TakesPromise x.members x.lead k w change answer → Commits x change y
    → (heard : List Packet) (leader : Option Leader) → Knows heard leader x
    → TookPart (on_promise x.members x.member heard (record { heard = packet k (Promise w) target ∷ heard; leader = leader; applied = applied }) k w leader) (prepares_first x.members x.member answer) y
promise_took x y k target applied w change answer one most wide t c heard None kn =
    let q : IsQuiet change answer = subst (λ o. TakesPromise x.members o k w change answer) kn t in
    record {
      running = record { heard = packet k (Promise w) target ∷ heard; leader = None; applied = applied };
      runs = refl;
      knows = ap (λ (z : Proposer). z.lead) (c.nothing q.change_is) ∙ kn;
      sends = sym (ap (prepares_first x.members x.member) q.answer_is);
    }
promise_took x y k target applied w change answer one most wide t c heard (Some l) kn =
    by_join (joins l.ballot (cover_heard heard l k) w) refl
    (subst (λ b. TakesIf b x.members kn.0 k w change answer) (joined_alike x.members k target applied w heard l kn.0 kn.2 one most) (subst (λ o. TakesPromise x.members o k w change answer) kn.1 t))
  where
    u : Running
    u = record { heard = packet k (Promise w) target ∷ heard; leader = Some l; applied = applied }

    by_join : (j : Bool) → joins l.ballot (cover_heard heard l k) w ≡ j → TakesIf j x.members kn.0 k w change answer
        → TookPart (cond j (leading x.members x.member (record { heard = packet k (Promise w) target ∷ heard; leader = Some l; applied = applied }) l (goes_on x.members (packet k (Promise w) target ∷ heard) l) (asks_on x.member (packet k (Promise w) target ∷ heard) l k) []) (quiet (record { heard = packet k (Promise w) target ∷ heard; leader = Some l; applied = applied }))) (prepares_first x.members x.member answer) y
    by_join true j s = joined_took x.members k target applied w heard l kn.0 kn.2 one most x.member x y change answer refl kn.1 c wide j s
    by_join false j s = record {
      running = record { heard = packet k (Promise w) target ∷ heard; leader = Some l; applied = applied };
      runs = refl;
      knows = rw (c.nothing s.change_is) (kn.0, kn.1, skipped_led x.members k target applied w heard l kn.0 kn.2 one most j);
      sends = sym (ap (prepares_first x.members x.member) s.answer_is);
    }

-- Where it had stopped before, it has stopped then.
pub taking_stopped : (x y : Proposer) (l : Leading) (k c : ℕ) (es : List Entry) (ps : List ℕ) (change : Change) (answer : Option Sends) → x.lead ≡ Some l → Commits x change y → IsTaking x.members l k c es ps change answer → IsStopped y
taking_stopped x y l k c es ps change answer e m t = λ z g.
    let r = m.taken l t.news e t.change_is in
    let same : r.0 ≡ z = some_one (sym (ap (λ (p : Proposer). p.lead) r.1) ∙ g) in
    rw r.1 (subst (λ q. HasStopped x.members (cover_of q) (report_of q) (is_learnt_of q) (turn_of q)) same (taken_stopped x.members l r.0 t.news t.least t.gone r.2))

pub quiet_stopped : (x y : Proposer) (change : Change) (answer : Option Sends) → Commits x change y → IsQuiet change answer → IsStopped x → IsStopped y
quiet_stopped x y change answer m q s = subst IsStopped (sym (m.nothing q.change_is)) s

pub promise_stopped : (x y : Proposer) (k : ℕ) (w : Window) (change : Change) (answer : Option Sends) → TakesPromise x.members x.lead k w change answer → Commits x change y → IsStopped x → IsStopped y
promise_stopped x y k w change answer t c s = by_lead x.lead refl t
  where
    by_join : (l : Leading) → x.lead ≡ Some l → (j : Bool) → TakesIf j x.members l k w change answer → IsStopped y
    by_join l e true t = taking_stopped x y l k w.covered w.entries [] change answer e c t
    by_join l e false t = quiet_stopped x y change answer c t s

    by_lead : (o : Option Leading) → x.lead ≡ o → TakesPromise x.members o k w change answer → IsStopped y
    by_lead None e t = quiet_stopped x y change answer c t s
    by_lead (Some l) e t = by_join l e (joins l.ballot (cover_of l k) w) t

-- a proposer that is stopped, with other room
pub stopped_unchanged : (x y : Proposer) → IsUnchanged x y → IsStopped x → IsStopped y
stopped_unchanged x y u s = λ z g. by_lead z (x.lead) refl (subst (SameLead x.lead) g u.lead)
  where
    by_lead : (z : Leading) → (o : Option Leading) → x.lead ≡ o → SameLead o (Some z) → HasStopped y.members (cover_of z) (report_of z) (is_learnt_of z) (turn_of z)
    by_lead z None e h = absurd h
    by_lead z (Some l) e h =
        subst (λ n. HasStopped n (cover_of z) (report_of z) (is_learnt_of z) (turn_of z)) (sym u.members)
        (stopped_same x.members (cover_of l) (cover_of z) (report_of l) (report_of z) (is_learnt_of l) (is_learnt_of z) (turn_of l) (turn_of z)
        (λ m i. sym (ap (λ (w : Leading). cover_of w m) h.same)) (λ p. sym (ap (λ es. value_at p es) h.reports)) (λ p. sym (ap (λ es. is_some (value_at p es)) h.learnt))
        (sym (ap (λ (w : Leading). w.next) h.same)) (sym (ap (λ (w : Leading). w.proposals) h.same)) (s l e))

-- the same step of a proposer before room was made
pub took_as_was : (x mid y : Proposer) (step : ℕ → ℕ → Effect) (a b : Option Sends) → IsUnchanged x mid → a ≡ b → TookPart (step mid.members mid.member) (prepares_first mid.members mid.member a) y → TookPart (step x.members x.member) (prepares_first x.members x.member b) y
took_as_was x mid y step a b u e t =
    subst (λ q. TookPart (step x.members x.member) (prepares_first x.members x.member q) y) e
    (subst (λ m. TookPart (step x.members m) (prepares_first x.members m a) y) u.member
    (subst (λ n. TookPart (step n mid.member) (prepares_first n mid.member a) y) u.members t))
