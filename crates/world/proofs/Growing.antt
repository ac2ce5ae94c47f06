-- What was sent, recorded and told stays so, whatever happens.
use Rattle.std.proofs.Common.{◌≡◌, ◌∙◌, ℕ, false, refl, sym, subst, Bool, List, [], ◌∷◌, map, length, Option, Some, None}
use Rattle.ballots.specs.Ballot.{IsMajority}
use Rattle.ballots.specs.Messages.{Ask, Body, Packet, Submit, packet}
use Rattle.ballots.specs.declared.value.Value.{Value}
use Rattle.paxos.specs.Agreement.{IsChosen}
use Rattle.paxos.specs.Application.{Application}
use Rattle.paxos.specs.Lists.{Has, at}
use Rattle.paxos.specs.Records.{Record, written}
use Rattle.paxos.specs.Step.{Running, Effect, on_begin, on_catch_up_tick, on_keep, on_message, on_resend, quiet, resumed}
use Rattle.paxos.specs.World.{Member, Cast, Told, World, Event, Deliver, Begin, Resend, CatchUp, Keep, Submits, Asks, StopInDeliver, StopInBegin, StopInKeep, Stop, Start, Choice, Happening, cast_by, told_to, casts, after, applies, runs, takes, acts, begins_in, delivers, asks, keeps_in, restarts, settles, starts, stops_in, happens, run}
use Rattle.paxos.proofs.Lists.{has_left, length_put}

-- nothing is taken out of them
pub record Grows (v z : World) : Type 0 where
  pub size : length z.members ≡ length v.members
  pub sent : (k : Packet) → Has v.sent k → Has z.sent k
  pub votes : (c : Cast) → Has v.votes c → Has z.votes c
  pub told : (t : Told) → Has v.told t → Has z.told t

grows_same : (w : World) → Grows w w
grows_same w = record { size = refl; sent = λ k h. h; votes = λ c h. h; told = λ t h. h }

grows_then : (a b c : World) → Grows a b → Grows b c → Grows a c
grows_then a b c g h = record { size = h.size ∙ g.size; sent = λ k x. h.sent k (g.sent k x); votes = λ k x. h.votes k (g.votes k x); told = λ t x. h.told t (g.told t x) }

after_grows : (w : World) (m : ℕ) (r : Record) (e : Effect) → Grows w (after w m r e)
after_grows w m r e = record {
  size = length_put w.members m (record { kept = written e.write r; running = e.running });
  sent = λ k h. has_left w.sent e.sends k h;
  votes = λ c h. has_left w.votes (map (cast_by m) (casts e.write)) c h;
  told = λ t h. has_left w.told (map (told_to m) e.tells) t h;
}

runs_grows : (w : World) (m : ℕ) (r : Record) (step : Record → Running → Effect) (o : Option Running) → Grows w (runs w m r step o)
runs_grows w m r step None = grows_same w
runs_grows w m r step (Some u) = after_grows w m r (step r u)

takes_grows : (w : World) (m : ℕ) (step : Record → Running → Effect) (o : Option Member) → Grows w (takes w m step o)
takes_grows w m step None = grows_same w
takes_grows w m step (Some x) = runs_grows w m x.kept step x.running

acts_grows : (w : World) (m : ℕ) (step : Record → Running → Effect) → Grows w (acts w m step)
acts_grows w m step = takes_grows w m step (at w.members m)

delivers_grows : (app : Application) (w : World) (how : Effect → Effect) (o : Option Packet) → Grows w (delivers app w how o)
delivers_grows app w how None = grows_same w
delivers_grows app w how (Some k) = acts_grows w k.target (λ r u. how (on_message app (length w.members) k.target k r u))

asks_grows : (w : World) (m : ℕ) (body : Body) (o : Option Member) → Grows w (asks w m body o)
asks_grows w m body None = grows_same w
asks_grows w m body (Some x) = record { size = refl; sent = λ k h. has_left w.sent (packet 0 body m ∷ []) k h; votes = λ c h. h; told = λ t h. h }

restarts_grows : (w : World) (fails : Option Bool) (k m : ℕ) (r : Record) (o : Option Running) → Grows w (restarts w fails k m r o)
restarts_grows w fails k m r (Some u) = grows_same w
restarts_grows w (Some kept) k m r None = grows_same w
restarts_grows w None k m r None = after_grows w m r (applies (length w.members) k (quiet (resumed m r)))

starts_grows : (w : World) (c : Choice) (m : ℕ) (o : Option Member) → Grows w (starts w c m o)
starts_grows w c m None = grows_same w
starts_grows w c m (Some x) = restarts_grows w c.fails c.applied m x.kept x.running

happens_grows : (app : Application) (w : World) (c : Choice) (e : Event) → Grows w (happens app w c e)
happens_grows app w c (Deliver k) = delivers_grows app w (settles (length w.members) c) (at w.sent k)
happens_grows app w c (Begin m) = acts_grows w m (begins_in w c m)
happens_grows app w c (Resend m) = acts_grows w m (λ r u. settles (length w.members) c (on_resend (length w.members) m u))
happens_grows app w c (CatchUp m) = acts_grows w m (λ r u. settles (length w.members) c (on_catch_up_tick (length w.members) m u))
happens_grows app w c (Keep m) = acts_grows w m (λ r u. settles (length w.members) c (on_keep (length w.members) r u))
happens_grows app w c (Submits m q) = asks_grows w m (Submit q) (at w.members m)
happens_grows app w c (Asks m q) = asks_grows w m (Ask q) (at w.members m)
happens_grows app w c (StopInDeliver k kept) = delivers_grows app w (stops_in (keeps_in c.fails kept)) (at w.sent k)
happens_grows app w c (StopInBegin m kept) = acts_grows w m (λ r u. stops_in (keeps_in c.fails kept) (on_begin (length w.members) m r u))
happens_grows app w c (StopInKeep m kept) = acts_grows w m (λ r u. stops_in (keeps_in c.fails kept) (on_keep (length w.members) r u))
happens_grows app w c (Stop m) = acts_grows w m (λ r u. stops_in false (quiet u))
happens_grows app w c (Start m) = starts_grows w c m (at w.members m)

pub run_grows : (app : Application) (w : World) (hs : List Happening) → Grows w (run app w hs)
run_grows app w [] = grows_same w
run_grows app w (h ∷ hs) = grows_then w (happens app w h.choice h.event) (run app (happens app w h.choice h.event) hs) (happens_grows app w h.choice h.event) (run_grows app (happens app w h.choice h.event) hs)

-- what is chosen stays chosen
pub chosen_still : (v z : World) (p : ℕ) (value : Value) → Grows v z → IsChosen v p value → IsChosen z p value
chosen_still v z p value g c = record { ballot = c.ballot; set = c.set; majority = subst (λ n. IsMajority n c.set) (sym g.size) c.majority; voted = λ m h. g.votes _ (c.voted m h) }
