-- What happens in a world happens in one where more was sent.
use Rattle.std.proofs.Common.{◌≡◌, ℕ, suc, Bool, false, List, [], ◌∷◌, ◌++◌, length, refl, sym, ap, subst, ◌⊎◌, ⊎_elim, inl, inr, Option, Some, None, slice_get}
use Rattle.ballots.specs.declared.value.Value.{Value}
use Rattle.ballots.specs.Messages.{Ask, Body, Packet, Submit, packet}
use Rattle.paxos.proofs.Lists.{at_has, has_cases, has_left, has_right}
use Rattle.paxos.proofs.Runs.{run_agrees}
use Rattle.paxos.specs.Agreement.{Agreement, IsChosen, IsRunning}
use Rattle.paxos.specs.Application.{Application}
use Rattle.paxos.specs.Lists.{Has, at}
use Rattle.paxos.specs.Records.{Record}
use Rattle.paxos.specs.Step.{Effect, Running, on_begin, on_catch_up_tick, on_keep, on_message, on_resend, quiet}
use Rattle.paxos.specs.World.{Asks, Begin, CatchUp, Choice, Deliver, Event, Happening, Keep, Member, Resend, Start, Stop, StopInBegin, StopInDeliver, StopInKeep, Submits, World, asks, begins_in, delivers, happens, keeps_in, restarts, run, runs, settles, start, starts, stops_in, takes}
use Rattle.turn_laws.specs.Turns.{Acknowledged, Ending, IsButForLost, StoppedAfter, StoppedBefore, Turn, ends_in, run_turns, stops}

-- the world with other messages
abbrev with_sent : World → List Packet → World
with_sent w s = record { members = w.members; sent = s; votes = w.votes; told = w.told }

abbrev AllSent : List Packet → List Packet → Type 0
AllSent s t = (k : Packet) → Has s k → Has t k

-- This world comes of the one with more messages, where all of these and of some others were sent.
record Comes (apart : List Packet) (now more : World) : Type 0 where
  pub sent : List Packet
  pub is : more ≡ with_sent now sent
  pub all : AllSent now.sent sent
  pub others : AllSent apart sent

-- one thing more is sent in both
more_sent : (s t e : List Packet) → AllSent s t → AllSent (s ++ e) (t ++ e)
more_sent s t e h k has = ⊎_elim (λ old. has_left t e k (h k old)) (λ new. has_right t e k new) (has_cases s e k has)

sent_on : (b t e : List Packet) → AllSent b t → AllSent b (t ++ e)
sent_on b t e h k has = has_left t e k (h k has)

module _ (b : List Packet) (w : World) (s : List Packet) (h : AllSent w.sent s) (o : AllSent b s) where
  same : Comes b w (with_sent w s)
  same = record { sent = s; is = refl; all = h; others = o }

  runs_come : (m : ℕ) (r : Record) (step : Record → Running → Effect) (u : Option Running) → Comes b (runs w m r step u) (runs (with_sent w s) m r step u)
  runs_come m r step None = same
  runs_come m r step (Some u) = record { sent = s ++ (step r u).sends; is = refl; all = more_sent w.sent s (step r u).sends h; others = sent_on b s (step r u).sends o }

  takes_come : (m : ℕ) (step : Record → Running → Effect) (x : Option Member) → Comes b (takes w m step x) (takes (with_sent w s) m step x)
  takes_come m step None = same
  takes_come m step (Some x) = runs_come m x.kept step x.running

  asks_come : (m : ℕ) (body : Body) (x : Option Member) → Comes b (asks w m body x) (asks (with_sent w s) m body x)
  asks_come m body None = same
  asks_come m body (Some x) = record { sent = s ++ packet 0 body m ∷ []; is = refl; all = more_sent w.sent s (packet 0 body m ∷ []) h; others = sent_on b s (packet 0 body m ∷ []) o }

  restarts_come : (fails : Option Bool) (k m : ℕ) (r : Record) (u : Option Running) → Comes b (restarts w fails k m r u) (restarts (with_sent w s) fails k m r u)
  restarts_come fails k m r (Some u) = same
  restarts_come (Some kept) k m r None = same
  restarts_come None k m r None = record { sent = s ++ []; is = refl; all = more_sent w.sent s [] h; others = sent_on b s [] o }

  starts_come : (c : Choice) (m : ℕ) (x : Option Member) → Comes b (starts w c m x) (starts (with_sent w s) c m x)
  starts_come c m None = same
  starts_come c m (Some x) = restarts_come c.fails c.applied m x.kept x.running

  delivers_come : (app : Application) (how : Effect → Effect) (k : Option Packet) → Comes b (delivers app w how k) (delivers app (with_sent w s) how k)
  delivers_come app how None = same
  delivers_come app how (Some k) = takes_come k.target (λ r u. how (on_message app (length w.members) k.target k r u)) (at w.members k.target)

-- a message that is there has a number
numbered : (s : List Packet) (k : Packet) → Has s k → (i : ℕ) × (slice_get s i ≡ Some k)
numbered [] k none = absurd none
numbered (x ∷ xs) k (inl is) = (0, ap (λ p. Some p) is)
numbered (x ∷ xs) k (inr later) = let n = numbered xs k later in (suc n.0, n.1)

-- what a number names has one there, too
named : (s t : List Packet) (j : ℕ) → AllSent s t → (i : ℕ) × (at t i ≡ at s j)
named s t j h = of (at s j) refl
  where
    of : (o : Option Packet) → at s j ≡ o → (i : ℕ) × (at t i ≡ o)
    of None e = (0, refl)
    of (Some k) e = let n = numbered t k (h k (at_has s j k e)) in (suc n.0, n.1)

-- an event there does the same
happens_come : (b : List Packet) (app : Application) (w : World) (s : List Packet) → AllSent w.sent s → AllSent b s → (c : Choice) (e : Event)
    → (d : Event) × Comes b (happens app w c e) (happens app (with_sent w s) c d)
happens_come b app w s h o c (Deliver k) =
    let n = named w.sent s k h in
    let how : Effect → Effect = settles (length w.members) c in
    (Deliver n.0, subst (λ p. Comes b (happens app w c (Deliver k)) (delivers app (with_sent w s) how p)) (sym n.1) (delivers_come b w s h o app how (at w.sent k)))
happens_come b app w s h o c (StopInDeliver k kept) =
    let n = named w.sent s k h in
    let how : Effect → Effect = stops_in (keeps_in c.fails kept) in
    (StopInDeliver n.0 kept, subst (λ p. Comes b (happens app w c (StopInDeliver k kept)) (delivers app (with_sent w s) how p)) (sym n.1) (delivers_come b w s h o app how (at w.sent k)))
happens_come b app w s h o c (Begin m) = (Begin m, takes_come b w s h o m (begins_in w c m) (at w.members m))
happens_come b app w s h o c (Resend m) = (Resend m, takes_come b w s h o m (λ r u. settles (length w.members) c (on_resend (length w.members) m u)) (at w.members m))
happens_come b app w s h o c (CatchUp m) = (CatchUp m, takes_come b w s h o m (λ r u. settles (length w.members) c (on_catch_up_tick (length w.members) m u)) (at w.members m))
happens_come b app w s h o c (Keep m) = (Keep m, takes_come b w s h o m (λ r u. settles (length w.members) c (on_keep (length w.members) r u)) (at w.members m))
happens_come b app w s h o c (Submits m q) = (Submits m q, asks_come b w s h o m (Submit q) (at w.members m))
happens_come b app w s h o c (Asks m q) = (Asks m q, asks_come b w s h o m (Ask q) (at w.members m))
happens_come b app w s h o c (StopInBegin m kept) = (StopInBegin m kept, takes_come b w s h o m (λ r u. stops_in (keeps_in c.fails kept) (on_begin (length w.members) m r u)) (at w.members m))
happens_come b app w s h o c (StopInKeep m kept) = (StopInKeep m kept, takes_come b w s h o m (λ r u. stops_in (keeps_in c.fails kept) (on_keep (length w.members) r u)) (at w.members m))
happens_come b app w s h o c (Stop m) = (Stop m, takes_come b w s h o m (λ r u. stops_in false (quiet u)) (at w.members m))
happens_come b app w s h o c (Start m) = (Start m, starts_come b w s h o c m (at w.members m))

-- so do several
run_comes : (b : List Packet) (app : Application) (w more : World) → Comes b w more → (hs : List Happening) → (gs : List Happening) × Comes b (run app w hs) (run app more gs)
run_comes b app w more c [] = ([], c)
run_comes b app w more c (h ∷ hs) =
    let one = happens_come b app w c.sent c.all c.others h.choice h.event in
    let there = subst (λ v. Comes b (happens app w h.choice h.event) (happens app v h.choice one.0)) (sym c.is) one.1 in
    let rest = run_comes b app (happens app w h.choice h.event) (happens app more h.choice one.0) there hs in
    (record { event = one.0; choice = h.choice } ∷ rest.0, rest.1)

run_both : (app : Application) (w : World) (gs hs : List Happening) → run app w (gs ++ hs) ≡ run app (run app w gs) hs
run_both app w [] hs = refl
run_both app w (g ∷ gs) hs = run_both app (happens app w g.choice g.event) gs hs

-- a turn does what events do there
ends_come : (app : Application) (w more : World) → Comes [] w more → (m : ℕ) (steps : List Happening) (ending : Ending) → (gs : List Happening) × Comes [] (ends_in app w m steps ending) (run app more gs)
ends_come app w more c m steps Acknowledged = run_comes [] app w more c steps
ends_come app w more c m steps StoppedBefore = run_comes [] app w more c (stops m ∷ [])
ends_come app w more c m steps StoppedAfter =
    let r = run_comes w.sent app w more (record { sent = c.sent; is = c.is; all = c.all; others = c.all }) (steps ++ stops m ∷ []) in
    (r.0, record { sent = r.1.sent; is = r.1.is; all = r.1.others; others = λ k none. absurd none })

turns_come : (app : Application) (w more : World) → Comes [] w more → (ts : List Turn) → (gs : List Happening) × Comes [] (run_turns app w ts) (run app more gs)
turns_come app w more c [] = ([], c)
turns_come app w more c (t ∷ ts) =
    let one = ends_come app w more c t.member t.steps t.ending in
    let rest = turns_come app (ends_in app w t.member t.steps t.ending) (run app more one.0) one.1 ts in
    (one.0 ++ rest.0, subst (λ v. Comes [] (run_turns app (ends_in app w t.member t.steps t.ending) ts) v) (sym (run_both app more one.0 rest.0)) rest.1)

from_start : (app : Application) (n : ℕ) (ts : List Turn) → (gs : List Happening) × Comes [] (run_turns app (start n) ts) (run app (start n) gs)
from_start app n ts = turns_come app (start n) (start n) (record { sent = []; is = refl; all = λ k has. has; others = λ k none. absurd none }) ts

but_for_lost : (v w : World) → Comes [] v w → IsButForLost v w
but_for_lost v w c = record {
  members = sym (ap (λ (w : World). w.members) c.is);
  votes = sym (ap (λ (w : World). w.votes) c.is);
  told = sym (ap (λ (w : World). w.told) c.is);
  sent = λ k has. subst (λ (w : World). Has w.sent k) (sym c.is) (c.all k has);
}

-- a list of turns leads where events lead
pub turns_as_events : (app : Application) (n : ℕ) (ts : List Turn) → (gs : List Happening) × IsButForLost (run_turns app (start n) ts) (run app (start n) gs)
turns_as_events app n ts = let f = from_start app n ts in (f.0, but_for_lost (run_turns app (start n) ts) (run app (start n) f.0) f.1)

module _ (w : World) (s : List Packet) where
  chosen_there : (p : ℕ) (a : Value) → IsChosen w p a → IsChosen (with_sent w s) p a
  chosen_there p a c = record { ballot = c.ballot; set = c.set; majority = c.majority; voted = c.voted }

  chosen_here : (p : ℕ) (a : Value) → IsChosen (with_sent w s) p a → IsChosen w p a
  chosen_here p a c = record { ballot = c.ballot; set = c.set; majority = c.majority; voted = c.voted }

  runs_there : (m : ℕ) (u : Running) → IsRunning w m u → IsRunning (with_sent w s) m u
  runs_there m u r = record { is = r.is; there = r.there; running = r.running }

  -- agreement says nothing of messages
  agrees_here : Agreement (with_sent w s) → Agreement w
  agrees_here a = record {
    one_value = λ p x y c d. a.one_value p x y (chosen_there p x c) (chosen_there p y d);
    told = λ m p x t. chosen_here p x (a.told m p x t);
    told_one = a.told_one;
    learnt = λ m p u x r e. a.learnt m p u x (runs_there m u r) e;
    kept = a.kept;
    applied = λ m p u r low high. a.applied m p u (runs_there m u r) low high;
    same_values = λ k m j u v r t high too. a.same_values k m j u v (runs_there k u r) (runs_there m v t) high too;
  }

pub turns_agree : (app : Application) (n : ℕ) (ts : List Turn) → Agreement (run_turns app (start n) ts)
turns_agree app n ts =
    let f = from_start app n ts in
    agrees_here (run_turns app (start n) ts) f.1.sent (subst Agreement f.1.is (run_agrees app n f.0))
