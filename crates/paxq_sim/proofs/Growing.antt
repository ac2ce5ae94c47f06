-- No event takes a message back.
use Rattle.std.proofs.Common.{ℕ, ◌≤◌, arith, length, length-append, Option, Some, None, ◌∷◌, [], Bool, false}
use Rattle.ballots.specs.Messages.{Body, Submit, Ask, Packet, packet}
use Rattle.paxos.specs.Application.{Application}
use Rattle.paxos.specs.Lists.{at}
use Rattle.paxos.specs.Records.{Record}
use Rattle.paxos.specs.Step.{Running, Effect, quiet, on_message, on_begin, on_catch_up_tick, on_keep, on_resend, resumed}
use Rattle.paxos.specs.World.{
  World,
  Member,
  Event,
  Choice,
  Deliver,
  Begin,
  Resend,
  CatchUp,
  Keep,
  Submits,
  Asks,
  StopInDeliver,
  StopInBegin,
  StopInKeep,
  Stop,
  Start,
  after,
  acts,
  applies,
  asks,
  begins_in,
  delivers,
  happens,
  keeps_in,
  restarts,
  runs,
  settles,
  starts,
  stops_in,
  takes,
}

module _ (w : World) where
  after_grows : (m : ℕ) (r : Record) (e : Effect) → length w.sent ≤ length (after w m r e).sent
  after_grows m r e = omega (arith, length-append w.sent e.sends)

  runs_grow : (m : ℕ) (r : Record) (step : Record → Running → Effect) (o : Option Running) → length w.sent ≤ length (runs w m r step o).sent
  runs_grow m r step None = omega arith
  runs_grow m r step (Some u) = after_grows m r (step r u)

  takes_grow : (m : ℕ) (step : Record → Running → Effect) (o : Option Member) → length w.sent ≤ length (takes w m step o).sent
  takes_grow m step None = omega arith
  takes_grow m step (Some x) = runs_grow m x.kept step x.running

  acts_grow : (m : ℕ) (step : Record → Running → Effect) → length w.sent ≤ length (acts w m step).sent
  acts_grow m step = takes_grow m step (at w.members m)

  delivers_grow : (app : Application) (how : Effect → Effect) (o : Option Packet) → length w.sent ≤ length (delivers app w how o).sent
  delivers_grow app how None = omega arith
  delivers_grow app how (Some k) = acts_grow k.target (λ r u. how (on_message app (length w.members) k.target k r u))

  asks_grow : (m : ℕ) (body : Body) (o : Option Member) → length w.sent ≤ length (asks w m body o).sent
  asks_grow m body None = omega arith
  asks_grow m body (Some x) = omega (arith, length-append w.sent (packet 0 body m ∷ []))

  restarts_grow : (fails : Option Bool) (k m : ℕ) (r : Record) (o : Option Running) → length w.sent ≤ length (restarts w fails k m r o).sent
  restarts_grow fails k m r (Some u) = omega arith
  restarts_grow (Some kept) k m r None = omega arith
  restarts_grow None k m r None = after_grows m r (applies (length w.members) k (quiet (resumed m r)))

  starts_grow : (c : Choice) (m : ℕ) (o : Option Member) → length w.sent ≤ length (starts w c m o).sent
  starts_grow c m None = omega arith
  starts_grow c m (Some x) = restarts_grow c.fails c.applied m x.kept x.running

  -- what was sent stays
  pub happens_grows : (app : Application) (c : Choice) (e : Event) → length w.sent ≤ length (happens app w c e).sent
  happens_grows app c (Deliver k) = delivers_grow app (settles (length w.members) c) (at w.sent k)
  happens_grows app c (Begin m) = acts_grow m (begins_in w c m)
  happens_grows app c (Resend m) = acts_grow m (λ r u. settles (length w.members) c (on_resend (length w.members) m u))
  happens_grows app c (CatchUp m) = acts_grow m (λ r u. settles (length w.members) c (on_catch_up_tick (length w.members) m u))
  happens_grows app c (Keep m) = acts_grow m (λ r u. settles (length w.members) c (on_keep (length w.members) r u))
  happens_grows app c (Submits m q) = asks_grow m (Submit q) (at w.members m)
  happens_grows app c (Asks m q) = asks_grow m (Ask q) (at w.members m)
  happens_grows app c (StopInDeliver k kept) = delivers_grow app (stops_in (keeps_in c.fails kept)) (at w.sent k)
  happens_grows app c (StopInBegin m kept) = acts_grow m (λ r u. stops_in (keeps_in c.fails kept) (on_begin (length w.members) m r u))
  happens_grows app c (StopInKeep m kept) = acts_grow m (λ r u. stops_in (keeps_in c.fails kept) (on_keep (length w.members) r u))
  happens_grows app c (Stop m) = acts_grow m (λ r u. stops_in false (quiet u))
  happens_grows app c (Start m) = starts_grow c m (at w.members m)
