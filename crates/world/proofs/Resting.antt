-- Ticks, stops and starts at which nothing changes, ticks that are steps, and requests of clients.
use Rattle.std.proofs.Common.{◌≡◌, ◌≤◌, ℕ, Bool, true, false, refl, inl, inr, sym, subst, ap, ◌∙◌, Option, Some, None, ⊎_elim, [], ◌∷◌, ◌++◌, length, List}
use Rattle.std.specs.Prelude.{if◌then◌else◌}
use Rattle.ballots.specs.Ballot.{most_members}
use Rattle.ballots.specs.Messages.{Packet, Submit, packet}
use Rattle.ballots.specs.Terms.{Request}
use Rattle.ballots.specs.declared.value.Value.{Value}
use Rattle.member.specs.Steps.{ticked}
use Rattle.node.specs.Nodes.{IsForClients, Node, RunsAs}
use Rattle.node.specs.declared.draft.Draft.{Draft}
use Rattle.paxos.specs.Lists.{at, Has}
use Rattle.paxos.specs.Application.{Application}
use Rattle.paxos.specs.Records.{Record, Write, Nothing, writes}
use Rattle.paxos.specs.Step.{Running, Effect, quiet, may_begin, begins, on_begin, on_keep, on_message, on_resend, on_catch_up_tick}
use Rattle.paxos.specs.World.{World as Whole, Choice, Begin, CatchUp, Keep, Resend, Start, Stop, StopInBegin, StopInDeliver, StopInKeep, Submits, acts, asks, begins_in, delivers, keeps_in, restarts, settles, starts, stops_in}
use Rattle.paxos.proofs.Lists.{has_cases}
use Rattle.paxos.specs.Sound.{Sound}
use Rattle.paxos.proofs.Worlds.{acts-there, quiet-same}
use Rattle.events.specs.Events.{event_of}
use Rattle.world.specs.Reached.{Follows, HappenedIf, MayWrite, Steps, is_cut, reader, stop_in, write_at, write_in, write_upon}
use Rattle.world.specs.Seats.{IsPlanned, MayStep, Skips}
use Rattle.world.specs.Shown.{World, Shows}
use Rattle.events.specs.declared.event.Event.TheVariants as event
use Rattle.member.specs.declared.input.Tick.{Tick}
use Rattle.member.specs.declared.input.Tick.TheVariants as tick
use Rattle.world.specs.declared.seat.Seat.{Seat}
use Rattle.world.proofs.Happening.{begins_step, catches_up, keeps_step, resends}
use Rattle.world.proofs.Clients.{GoesToClients}
use Rattle.world.proofs.Idling.{part_of, stopped_silent, stopped_still}
use Rattle.world.proofs.Lifting.{idle, some_at}

-- a choice where nothing is open
abbrev any : Choice
any = record { fails = None; applied = 0 }

-- a tick is no stop
pub tick_cut : (m : ℕ) (t : Tick) → is_cut (event_of (event.Tick m t)) ≡ false
tick_cut m tick.Begin = refl
tick_cut m tick.Resend = refl
tick_cut m tick.CatchUp = refl
tick_cut m tick.Keep = refl

-- a stop in a tick that may write cuts its write
pub stop_cut : (m : ℕ) (t : Tick) (kept : Bool) → MayWrite t → is_cut (stop_in m t kept) ≡ true
stop_cut m tick.Begin kept may = refl
stop_cut m tick.Keep kept may = refl
stop_cut m tick.Resend kept may = absurd may
stop_cut m tick.CatchUp kept may = absurd may

-- a tick that is a step
pub tick_step : {R A : Type 0} (has_applied : List (List ℕ) → List Value → A → Type 0) (Does : ℕ → Write → Option Bool → Type 0) (app : Application) (n : ℕ) (w : World R A) (m : ℕ) (s : Seat R A) (t : Tick) (d : Draft) → length w.seats ≡ n → ((x : Node R A) → s.node ≡ Some x → x.setup.members ≡ n) → IsPlanned has_applied app s (ticked t) d
    → (v z : Whole) → Steps has_applied w s m (MayStep (Does m) app n m (ticked t)) v z → HappenedIf Does app (event_of (event.Tick m t)) v z
tick_step has_applied Does app n w m s tick.Begin d len seat planned v z step = begins_step has_applied Does app n w s m len planned.node planned.there (seat planned.node planned.there) planned.due v z step
tick_step has_applied Does app n w m s tick.Resend d len seat planned v z step = resends has_applied Does app n w s m len v z step
tick_step has_applied Does app n w m s tick.CatchUp d len seat planned v z step = catches_up has_applied Does app n w s m len v z step
tick_step has_applied Does app n w m s tick.Keep d len seat planned v z step = keeps_step has_applied Does app n w s m len v z step

module _ {R A : Type 0} (stands : R → Record → Record → Type 0) (is_kept : R → Type 0) (has_applied : List (List ℕ) → List Value → A → Type 0) (Does : ℕ → Write → Option Bool → Type 0) (silent : (j : ℕ) (w : Write) → writes w ≡ false → Does j w None)
    (app : Application) (n : ℕ) (few : n ≤ most_members) (w : World R A) (m : ℕ) (s : Seat R A) (there : at w.seats m ≡ Some s) where
  -- a tick of which nothing comes
  pub skipped_tick : (t : Tick) → ((x : Node R A) → s.node ≡ Some x → x.setup.members ≡ n) → Skips has_applied s (ticked t) → Follows stands is_kept has_applied (Sound n) (HappenedIf Does app (event_of (event.Tick m t))) w w
  skipped_tick tick.Begin seat skips = idle (HappenedIf Does app (Begin m)) w (λ before v sound shows. (any, silent m _ (quietly before v sound shows s.node refl), sym (one before v sound shows s.node refl)))
    where
      spent_there : (before : ℕ → Record) (v : Whole) → Sound n v → Shows has_applied w before v → (x : Node R A) → s.node ≡ Some x
          → (r : Record) × (u : Running) × (at v.members m ≡ Some (record { kept = r; running = Some u })) × (may_begin (length v.members) r u ≡ false)
      spent_there before v sound shows x q =
          let y = part_of has_applied n few w m before v sound shows s there in
          let u = y.2.running x q in
          let spent : may_begin x.setup.members x.member.acceptor.kept u.0 ≡ false = ⊎_elim (λ (f : Unit {0} → ⊥). absurd (f tt)) (λ (f : (u : Running) → RunsAs has_applied u x → may_begin x.setup.members x.member.acceptor.kept u ≡ false). f u.0 u.2) (skips x q) in (
            y.0.kept,
            u.0,
            y.1 ∙ ap (λ o. Some (record { kept = y.0.kept; running = o })) u.1,
            subst (λ j. may_begin j y.0.kept u.0 ≡ false) (seat x q ∙ sym sound.size) (subst (λ r. may_begin x.setup.members r u.0 ≡ false) (sym (y.2.kept_is ∙ u.3)) spent),
          )

      quietly : (before : ℕ → Record) (v : Whole) → Sound n v → Shows has_applied w before v → (o : Option (Node R A)) → s.node ≡ o → writes (write_at (on_begin (length v.members) m) (at v.members m)) ≡ false
      quietly before v sound shows None q = stopped_silent has_applied n few w m before v sound shows s there q (on_begin (length v.members) m)
      quietly before v sound shows (Some x) q =
          let t = spent_there before v sound shows x q in
          ap (λ o. writes (write_at (on_begin (length v.members) m) o)) t.2 ∙ ap (λ b. writes (if b then begins (length v.members) m t.0 t.1 else quiet t.1).write) t.3

      one : (before : ℕ → Record) (v : Whole) → Sound n v → Shows has_applied w before v → (o : Option (Node R A)) → s.node ≡ o → acts v m (begins_in v any m) ≡ v
      one before v sound shows None q = stopped_still has_applied n few w m before v sound shows s there q (begins_in v any m)
      one before v sound shows (Some x) q =
          let t = spent_there before v sound shows x q in
          acts-there v m t.0 t.1 (begins_in v any m) t.2
          ∙ ap (λ (e : Effect). Rattle.paxos.specs.World.after v m t.0 e) (ap (λ b. if b then settles (length v.members) any (begins (length v.members) m t.0 t.1) else quiet t.1) t.3)
          ∙ quiet-same v m t.0 t.1 t.2
  skipped_tick tick.Resend seat skips = idle (HappenedIf Does app (Resend m)) w (λ before v sound shows. (any, silent m Nothing refl, sym (one before v sound shows s.node refl)))
    where
      one : (before : ℕ → Record) (v : Whole) → Sound n v → Shows has_applied w before v → (o : Option (Node R A)) → s.node ≡ o → acts v m (λ r u. settles (length v.members) any (on_resend (length v.members) m u)) ≡ v
      one before v sound shows None q = stopped_still has_applied n few w m before v sound shows s there q (λ r u. settles (length v.members) any (on_resend (length v.members) m u))
      one before v sound shows (Some x) q = let y = part_of has_applied n few w m before v sound shows s there in let u = y.2.running x q in
          absurd (⊎_elim (λ (f : Unit {0} → ⊥). f tt) (λ (f : (u : Running) → RunsAs has_applied u x → ⊥). f u.0 u.2) (skips x q))
  skipped_tick tick.CatchUp seat skips = idle (HappenedIf Does app (CatchUp m)) w (λ before v sound shows. (any, silent m Nothing refl, sym (one before v sound shows s.node refl)))
    where
      one : (before : ℕ → Record) (v : Whole) → Sound n v → Shows has_applied w before v → (o : Option (Node R A)) → s.node ≡ o → acts v m (λ r u. settles (length v.members) any (on_catch_up_tick (length v.members) m u)) ≡ v
      one before v sound shows None q = stopped_still has_applied n few w m before v sound shows s there q (λ r u. settles (length v.members) any (on_catch_up_tick (length v.members) m u))
      one before v sound shows (Some x) q = let y = part_of has_applied n few w m before v sound shows s there in let u = y.2.running x q in
          absurd (⊎_elim (λ (f : Unit {0} → ⊥). f tt) (λ (f : (u : Running) → RunsAs has_applied u x → ⊥). f u.0 u.2) (skips x q))
  skipped_tick tick.Keep seat skips = idle (HappenedIf Does app (Keep m)) w (λ before v sound shows. (any, silent m _ (quietly before v sound shows s.node refl), sym (one before v sound shows s.node refl)))
    where
      never : (before : ℕ → Record) (v : Whole) → Sound n v → Shows has_applied w before v → (x : Node R A) → s.node ≡ Some x → ⊥
      never before v sound shows x q = let y = part_of has_applied n few w m before v sound shows s there in let u = y.2.running x q in
          ⊎_elim (λ (f : Unit {0} → ⊥). f tt) (λ (f : (u : Running) → RunsAs has_applied u x → ⊥). f u.0 u.2) (skips x q)

      quietly : (before : ℕ → Record) (v : Whole) → Sound n v → Shows has_applied w before v → (o : Option (Node R A)) → s.node ≡ o → writes (write_at (on_keep (length v.members)) (at v.members m)) ≡ false
      quietly before v sound shows None q = stopped_silent has_applied n few w m before v sound shows s there q (on_keep (length v.members))
      quietly before v sound shows (Some x) q = absurd (never before v sound shows x q)

      one : (before : ℕ → Record) (v : Whole) → Sound n v → Shows has_applied w before v → (o : Option (Node R A)) → s.node ≡ o → acts v m (λ r u. settles (length v.members) any (on_keep (length v.members) r u)) ≡ v
      one before v sound shows None q = stopped_still has_applied n few w m before v sound shows s there q (λ r u. settles (length v.members) any (on_keep (length v.members) r u))
      one before v sound shows (Some x) q = absurd (never before v sound shows x q)

  -- a stop of a member that is stopped
  pub stopped_stop : s.node ≡ None → Follows stands is_kept has_applied (Sound n) (HappenedIf Does app (Stop m)) w w
  stopped_stop none = idle (HappenedIf Does app (Stop m)) w (λ before v sound shows. (any, silent m Nothing refl, sym (stopped_still has_applied n few w m before v sound shows s there none (λ r u. stops_in false (quiet u)))))

  -- and in a Begin
  stopped_begin : (kept : Bool) → s.node ≡ None → Follows stands is_kept has_applied (Sound n) (HappenedIf Does app (StopInBegin m kept)) w w
  stopped_begin kept none = idle (HappenedIf Does app (StopInBegin m kept)) w (λ before v sound shows. (
    any,
    silently kept before v sound shows,
    sym (stopped_still has_applied n few w m before v sound shows s there none
        (λ r u. stops_in (keeps_in None kept) (on_begin (length v.members) m r u))),
  ))
    where
      silently : (kept : Bool) (before : ℕ → Record) (v : Whole) → Sound n v → Shows has_applied w before v → Does m (write_in app v (StopInBegin m kept)) None
      silently true before v sound shows = silent m _ (stopped_silent has_applied n few w m before v sound shows s there none (on_begin (length v.members) m))
      silently false before v sound shows = silent m Nothing refl

  -- and in a Keep
  stopped_keep : (kept : Bool) → s.node ≡ None → Follows stands is_kept has_applied (Sound n) (HappenedIf Does app (StopInKeep m kept)) w w
  stopped_keep kept none = idle (HappenedIf Does app (StopInKeep m kept)) w (λ before v sound shows. (
    any,
    silently kept before v sound shows,
    sym (stopped_still has_applied n few w m before v sound shows s there none
        (λ r u. stops_in (keeps_in None kept) (on_keep (length v.members) r u))),
  ))
    where
      silently : (kept : Bool) (before : ℕ → Record) (v : Whole) → Sound n v → Shows has_applied w before v → Does m (write_in app v (StopInKeep m kept)) None
      silently true before v sound shows = silent m _ (stopped_silent has_applied n few w m before v sound shows s there none (on_keep (length v.members)))
      silently false before v sound shows = silent m Nothing refl

  -- so in each tick that may write
  pub stopped_tick : (t : Tick) → MayWrite t → (kept : Bool) → s.node ≡ None → Follows stands is_kept has_applied (Sound n) (HappenedIf Does app (stop_in m t kept)) w w
  stopped_tick tick.Begin may kept none = stopped_begin kept none
  stopped_tick tick.Keep may kept none = stopped_keep kept none
  stopped_tick tick.Resend may kept none = absurd may
  stopped_tick tick.CatchUp may kept none = absurd may

  -- and in a delivery
  pub stopped_delivery : (k : ℕ) (p : Packet) (kept : Bool) → at w.sent k ≡ Some p → p.target ≡ m → s.node ≡ None → Follows stands is_kept has_applied (Sound n) (HappenedIf Does app (StopInDeliver k kept)) w w
  stopped_delivery k p kept is target none = idle (HappenedIf Does app (StopInDeliver k kept)) w (λ before v sound shows. (
    any,
    silently kept before v sound shows,
    sym
        (ap (delivers app v (stops_in (keeps_in None kept))) (ap (λ xs. at xs k) shows.sent ∙ is)
        ∙ subst (λ j. acts v j (λ r u. stops_in (keeps_in None kept) (on_message app (length v.members) j p r u)) ≡ v) (sym target)
        (stopped_still has_applied n few w m before v sound shows s there none (λ r u. stops_in (keeps_in None kept) (on_message app (length v.members) m p r u)))),
  ))
    where
      silently : (kept : Bool) (before : ℕ → Record) (v : Whole) → Sound n v → Shows has_applied w before v → Does (reader (at v.sent k)) (write_in app v (StopInDeliver k kept)) None
      silently true before v sound shows = silent (reader (at v.sent k)) _
          (ap (λ o. writes (write_upon app v o)) (ap (λ xs. at xs k) shows.sent ∙ is)
          ∙ subst (λ j. writes (write_at (on_message app (length v.members) j p) (at v.members j)) ≡ false) (sym target)
          (stopped_silent has_applied n few w m before v sound shows s there none (on_message app (length v.members) m p)))
      silently false before v sound shows = silent (reader (at v.sent k)) Nothing refl

  -- a start of a member that runs
  pub running_start : (x : Node R A) → s.node ≡ Some x → Follows stands is_kept has_applied (Sound n) (HappenedIf Does app (Start m)) w w
  running_start x q = idle (HappenedIf Does app (Start m)) w (λ before v sound shows.
      let y = part_of has_applied n few w m before v sound shows s there in
      let u = y.2.running x q in
      (any, silent m Nothing refl, sym (ap (starts v any m) y.1 ∙ ap (restarts v None 0 m y.0.kept) u.1)))

  -- a request of a client
  pub submitted : (q : Request) (new : World R A) → new ≡ record { members = w.members; group = w.group; names = w.names; seats = w.seats; sent = w.sent ++ packet 0 (Submit q) m ∷ []; told = w.told }
      → Follows stands is_kept has_applied (Sound n) (HappenedIf Does app (Submits m q)) w new
  submitted q new is = subst (λ z. Follows stands is_kept has_applied (Sound n) (HappenedIf Does app (Submits m q)) w z) (sym is) (record {
    members = refl;
    names = refl;
    kept = λ k. k;
    changes = λ k a b stand. (
      a,
      b,
      stand,
      λ now p. (
        now,
        p,
        λ v sound shows.
            let y = some_at w.seats v.members m s shows.size there in (
              record { members = v.members; sent = v.sent ++ packet 0 (Submit q) m ∷ []; votes = v.votes; told = v.told },
              (any, silent m Nothing refl, sym (ap (asks v m (Submit q)) y.1)),
              record {
                sent = ap (λ xs. xs ++ packet 0 (Submit q) m ∷ []) shows.sent;
                told = shows.told;
                size = shows.size;
                parts = shows.parts;
                for_clients = λ k h. ⊎_elim (λ (o : Has w.sent k). shows.for_clients k o) (λ (o : Has (packet 0 (Submit q) m ∷ []) k). asked k o) (has_cases w.sent (packet 0 (Submit q) m ∷ []) k h);
              },
            ),
      ),
    );
  })
    where
      asked : (k : Packet) → Has (packet 0 (Submit q) m ∷ []) k → GoesToClients k
      asked k (inl e) = λ f. absurd (subst (λ (x : Packet). IsForClients x.body) (sym e) f)
      asked k (inr o) = absurd o
