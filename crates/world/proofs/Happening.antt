-- What each event does in the protocol's world is what a seat does.
use Rattle.std.proofs.Common.{◌≡◌, ◌⊎◌, ℕ, Bool, true, false, refl, inl, inr, sym, subst, ap, ◌∙◌, Option, Some, None, ⊎_elim, [], length, append-nil, List}
use Rattle.std.specs.Prelude.{if◌then◌else◌}
use Rattle.std.proofs.lemmas.Option.{same_Some}
use Rattle.ballots.specs.Messages.{Packet}
use Rattle.ballots.specs.declared.value.Value.{Value}
use Rattle.member.specs.Steps.{Input, Hears, Begins, Resends, CatchesUp, KeepsLearnt, effect_of, ticked}
use Rattle.member.specs.declared.input.Tick.{Tick}
use Rattle.member.specs.declared.input.Tick.TheVariants as tick
use Rattle.node.specs.Nodes.{Node, RunsAs, IsSpent}
use Rattle.paxos.specs.Lists.{at}
use Rattle.paxos.specs.Application.{Application}
use Rattle.paxos.specs.Records.{Record, Write, Nothing, writes}
use Rattle.paxos.specs.Step.{Running, Effect, quiet, may_begin, begins, on_begin, on_keep, on_message, resumed}
use Rattle.paxos.specs.World.{World as Whole, Member as Part, Event as Happens, Choice, Deliver, Begin, Resend, CatchUp, Keep, StopInDeliver, StopInBegin, StopInKeep, Stop, Start, acts, after, applies, delivers, restarts, settles, starts, stops_in, keeps_in}
use Rattle.paxos.proofs.Worlds.{acts-there, put-same}
use Rattle.world.specs.Seats.{Skips, MayStart, MayStay, MayStep, MayStop, MayStopIn}
use Rattle.world.specs.Shown.{World}
use Rattle.world.specs.Reached.{Happened, HappenedIf, MayWrite, Stays, Steps, actor, reader, stop_in, write_at, write_in, write_upon}
use Rattle.world.specs.declared.seat.Seat.{Seat}

-- a step in which nothing happens
stay_same : (v : Whole) (m : ℕ) (y : Part) → at v.members m ≡ Some y → after v m y.kept (record { write = Nothing; running = y.running; sends = []; tells = [] }) ≡ v
stay_same v m y h = rw (put-same v.members m y h) (simp append-nil)

-- nothing happens
pub stayed : {R A : Type 0} (has_applied : List (List ℕ) → List Value → A → Type 0) (old : World R A) (s : Seat R A) (m : ℕ) (v z : Whole) → Steps has_applied old s m MayStay v z → Stays v z
stayed has_applied old s m v z t = t.is ∙ ap (after v m t.part.kept) t.may ∙ stay_same v m t.part t.there

-- what a store does comes to something else: so for an event, for steps, stops in a write, and starts
pub happened_so : (Does Other : ℕ → Write → Option Bool → Type 0) → ((m : ℕ) (w : Write) (f : Option Bool) → Does m w f → Other m w f)
    → (app : Application) (e : Happens) (v z : Whole) → HappenedIf Does app e v z → HappenedIf Other app e v z
happened_so Does Other into app e v z h = (h.0, into (actor v e) (write_in app v e) h.0.fails h.1, h.2)

module _ (Does Other : Write → Option Bool → Type 0) (into : (w : Write) (f : Option Bool) → Does w f → Other w f) where
  pub step_so : (app : Application) (n m : ℕ) (i : Input) (y : Part) (e : Effect) → MayStep Does app n m i y e → MayStep Other app n m i y e
  step_so app n m i y e t = (t.0, t.1, t.2, into (effect_of app n m y.kept t.0 i).write t.2.fails t.3, t.4)

  pub stop_so : (app : Application) (n m : ℕ) (i : Input) (kept : Bool) (y : Part) (e : Effect) → MayStopIn Does app n m i kept y e → MayStopIn Other app n m i kept y e
  stop_so app n m i kept y e t = (t.0, t.1, t.2, into (effect_of app n m y.kept t.0 i).write t.2 t.3, t.4)

  pub start_so : (n m : ℕ) (y : Part) (e : Effect) → MayStart Does n m y e → MayStart Other n m y e
  start_so n m y e t = (
    t.0,
    ⊎_elim (λ (q : (k : ℕ) × Does Nothing None × (e ≡ applies n k (quiet (resumed m y.kept)))). inl (q.0, into Nothing None q.1, q.2)) (λ (q : Does Nothing (Some false) × MayStay y e). inr (into Nothing (Some false) q.0, q.1)) t.1,
  )

-- a step that may be so
pub steps_so : {R A : Type 0} (has_applied : List (List ℕ) → List Value → A → Type 0) (May Other : Part → Effect → Type 0) → ((y : Part) (e : Effect) → May y e → Other y e) → (old : World R A) (s : Seat R A) (m : ℕ) (v z : Whole)
    → Steps has_applied old s m May v z → Steps has_applied old s m Other v z
steps_so has_applied May Other into old s m v z t = record { size = t.size; sent = t.sent; part = t.part; there = t.there; kept = t.kept; is_part = t.is_part; effect = t.effect; may = into t.part t.effect t.may; is = t.is }

-- it has happened, in any case
pub happened : (Does : ℕ → Write → Option Bool → Type 0) (app : Application) (e : Happens) (v z : Whole) → HappenedIf Does app e v z → Happened app e v z
happened Does app e v z h = (h.0, h.2)

module _ {R A : Type 0} (has_applied : List (List ℕ) → List Value → A → Type 0) (Does : ℕ → Write → Option Bool → Type 0) (app : Application) (n : ℕ) (old : World R A) (s : Seat R A) (m : ℕ) (len : length old.seats ≡ n) where
  -- a running member that is there
  there_runs : (v : Whole) (y : Part) (u : Running) → at v.members m ≡ Some y → y.running ≡ Some u → at v.members m ≡ Some (record { kept = y.kept; running = Some u })
  there_runs v y u h r = h ∙ ap (λ o. Some (record { kept = y.kept; running = o })) r

  -- a step of the member that sits there
  acted : (v z : Whole) (y : Part) (u : Running) (e : Effect) (step : Record → Running → Effect) → at v.members m ≡ Some y → y.running ≡ Some u → e ≡ step y.kept u
      → z ≡ after v m y.kept e → z ≡ acts v m step
  acted v z y u e step h r q is = is ∙ ap (after v m y.kept) q ∙ sym (acts-there v m y.kept u step (there_runs v y u h r))

  -- the message of a number is delivered
  delivered : (k : ℕ) (p : Packet) → at old.sent k ≡ Some p → p.target ≡ m → (v : Whole) → v.sent ≡ old.sent → (how : Effect → Effect) (z : Whole)
      → z ≡ acts v m (λ r u. how (effect_of app (length v.members) m r u (Hears p))) → z ≡ delivers app v how (at v.sent k)
  delivered k p is target v sent how z q =
      q ∙ subst (λ j. acts v m (λ r u. how (effect_of app (length v.members) m r u (Hears p))) ≡ acts v j (λ r u. how (effect_of app (length v.members) j r u (Hears p)))) (sym target) refl
      ∙ ap (delivers app v how) (sym (ap (λ xs. at xs k) sent ∙ is))

  -- what it writes there
  wrote : (v : Whole) (y : Part) (u : Running) (step : Record → Running → Effect) → at v.members m ≡ Some y → y.running ≡ Some u → write_at step (at v.members m) ≡ (step y.kept u).write
  wrote v y u step h r = ap (write_at step) (there_runs v y u h r)

  -- who hears the message of a number, and what is written upon it
  hears : (k : ℕ) (p : Packet) → at old.sent k ≡ Some p → p.target ≡ m → (v : Whole) → v.sent ≡ old.sent → reader (at v.sent k) ≡ m
  hears k p is target v sent = ap reader (ap (λ xs. at xs k) sent ∙ is) ∙ target

  wrote_upon : (k : ℕ) (p : Packet) → at old.sent k ≡ Some p → p.target ≡ m → (v : Whole) → v.sent ≡ old.sent
      → write_upon app v (at v.sent k) ≡ write_at (on_message app (length v.members) m p) (at v.members m)
  wrote_upon k p is target v sent = ap (write_upon app v) (ap (λ xs. at xs k) sent ∙ is) ∙ ap (λ j. write_at (on_message app (length v.members) j p) (at v.members j)) target

  -- what its store does with that
  does_so : (j : ℕ) (w x : Write) (f : Option Bool) → j ≡ m → w ≡ x → Does m x f → Does j w f
  does_so j w x f same is d = subst (λ i. Does i w f) (sym same) (subst (λ y. Does m y f) (sym is) d)

  -- a delivery
  pub delivers_step : (k : ℕ) (p : Packet) → at old.sent k ≡ Some p → p.target ≡ m → (v z : Whole) → Steps has_applied old s m (MayStep (Does m) app n m (Hears p)) v z → HappenedIf Does app (Deliver k) v z
  delivers_step k p is target v z t =
      let u = t.may.0 in
      let c = t.may.2 in (
        c,
        does_so (reader (at v.sent k)) _ _ c.fails (hears k p is target v t.sent)
            (wrote_upon k p is target v t.sent ∙ wrote v t.part u (on_message app (length v.members) m p) t.there t.may.1 ∙ ap (λ j. (on_message app j m p t.part.kept u).write) (t.size ∙ len)) t.may.3,
        delivered k p is target v t.sent (settles (length v.members) c) z
            (acted v z t.part u t.effect (λ r w. settles (length v.members) c (effect_of app (length v.members) m r w (Hears p))) t.there t.may.1
            (t.may.4 ∙ rw (sym len) (rw (sym t.size) refl)) t.is),
      )

  -- a stop in a delivery
  pub stops_in_delivery : (k : ℕ) (p : Packet) → at old.sent k ≡ Some p → p.target ≡ m → (v z : Whole) → Steps has_applied old s m (MayStopIn (Does m) app n m (Hears p) true) v z → HappenedIf Does app (StopInDeliver k true) v z
  stops_in_delivery k p is target v z t =
      let u = t.may.0 in
      let c : Choice = record { fails = t.may.2; applied = 0 } in (
        c,
        does_so (reader (at v.sent k)) _ _ c.fails (hears k p is target v t.sent)
            (wrote_upon k p is target v t.sent ∙ wrote v t.part u (on_message app (length v.members) m p) t.there t.may.1 ∙ ap (λ j. (on_message app j m p t.part.kept u).write) (t.size ∙ len)) t.may.3,
        delivered k p is target v t.sent (stops_in (keeps_in c.fails true)) z
            (acted v z t.part u t.effect (λ r w. stops_in (keeps_in c.fails true) (effect_of app (length v.members) m r w (Hears p))) t.there t.may.1
            (t.may.4 ∙ rw (sym len) (rw (sym t.size) refl)) t.is),
      )

  -- the tick Resend
  pub resends : (v z : Whole) → Steps has_applied old s m (MayStep (Does m) app n m Resends) v z → HappenedIf Does app (Resend m) v z
  resends v z t =
      let c = t.may.2 in (
        c,
        t.may.3,
        acted v z t.part t.may.0 t.effect (λ r w. settles (length v.members) c (effect_of app (length v.members) m r w Resends)) t.there t.may.1
            (t.may.4 ∙ rw (sym len) (rw (sym t.size) refl)) t.is,
      )

  -- the tick CatchUp
  pub catches_up : (v z : Whole) → Steps has_applied old s m (MayStep (Does m) app n m CatchesUp) v z → HappenedIf Does app (CatchUp m) v z
  catches_up v z t =
      let c = t.may.2 in (
        c,
        t.may.3,
        acted v z t.part t.may.0 t.effect (λ r w. settles (length v.members) c (effect_of app (length v.members) m r w CatchesUp)) t.there t.may.1
            (t.may.4 ∙ rw (sym len) (rw (sym t.size) refl)) t.is,
      )

  -- the tick Keep
  pub keeps_step : (v z : Whole) → Steps has_applied old s m (MayStep (Does m) app n m KeepsLearnt) v z → HappenedIf Does app (Keep m) v z
  keeps_step v z t =
      let c = t.may.2 in (
        c,
        does_so m _ _ c.fails refl (wrote v t.part t.may.0 (on_keep (length v.members)) t.there t.may.1 ∙ ap (λ j. (on_keep j t.part.kept t.may.0).write) (t.size ∙ len)) t.may.3,
        acted v z t.part t.may.0 t.effect (λ r w. settles (length v.members) c (effect_of app (length v.members) m r w KeepsLearnt)) t.there t.may.1
            (t.may.4 ∙ rw (sym len) (rw (sym t.size) refl)) t.is,
      )

  -- a stop in a Begin
  stops_in_begin : (v z : Whole) → Steps has_applied old s m (MayStopIn (Does m) app n m Begins true) v z → HappenedIf Does app (StopInBegin m true) v z
  stops_in_begin v z t =
      let c : Choice = record { fails = t.may.2; applied = 0 } in (
        c,
        does_so m _ _ c.fails refl (wrote v t.part t.may.0 (on_begin (length v.members) m) t.there t.may.1 ∙ ap (λ j. (on_begin j m t.part.kept t.may.0).write) (t.size ∙ len)) t.may.3,
        acted v z t.part t.may.0 t.effect (λ r w. stops_in (keeps_in c.fails true) (effect_of app (length v.members) m r w Begins)) t.there t.may.1
            (t.may.4 ∙ rw (sym len) (rw (sym t.size) refl)) t.is,
      )

  -- and in a Keep
  stops_in_keep : (v z : Whole) → Steps has_applied old s m (MayStopIn (Does m) app n m KeepsLearnt true) v z → HappenedIf Does app (StopInKeep m true) v z
  stops_in_keep v z t =
      let c : Choice = record { fails = t.may.2; applied = 0 } in (
        c,
        does_so m _ _ c.fails refl (wrote v t.part t.may.0 (on_keep (length v.members)) t.there t.may.1 ∙ ap (λ j. (on_keep j t.part.kept t.may.0).write) (t.size ∙ len)) t.may.3,
        acted v z t.part t.may.0 t.effect (λ r w. stops_in (keeps_in c.fails true) (effect_of app (length v.members) m r w KeepsLearnt)) t.there t.may.1
            (t.may.4 ∙ rw (sym len) (rw (sym t.size) refl)) t.is,
      )

  -- so in each tick that may write
  pub stops_in_tick : (t : Tick) → MayWrite t → (v z : Whole) → Steps has_applied old s m (MayStopIn (Does m) app n m (ticked t) true) v z → HappenedIf Does app (stop_in m t true) v z
  stops_in_tick tick.Begin may v z step = stops_in_begin v z step
  stops_in_tick tick.Keep may v z step = stops_in_keep v z step
  stops_in_tick tick.Resend may v z step = absurd may
  stops_in_tick tick.CatchUp may v z step = absurd may

  -- a ballot that can begin
  pub begins_step : (x : Node R A) → s.node ≡ Some x → x.setup.members ≡ n → ((u : Running) → RunsAs has_applied u x → IsSpent x u Begins → ⊥)
      → (v z : Whole) → Steps has_applied old s m (MayStep (Does m) app n m Begins) v z → HappenedIf Does app (Begin m) v z
  begins_step x there place due v z t =
      let c = t.may.2 in
      let known = t.is_part.running x there in
      let same : known.0 ≡ t.may.0 = same_Some known.0 t.may.0 (sym known.1 ∙ t.may.1) in
      let may : may_begin n t.part.kept t.may.0 ≡ true = ⊎_elim (λ (h : may_begin n t.part.kept t.may.0 ≡ true). h)
      (λ (h : may_begin n t.part.kept t.may.0 ≡ false). absurd (due known.0 known.2
      (subst (λ w. may_begin x.setup.members x.member.acceptor.kept w ≡ false) (sym same) (subst (λ j. may_begin j x.member.acceptor.kept t.may.0 ≡ false) (sym place)
      (subst (λ r. may_begin n r t.may.0 ≡ false) (t.is_part.kept_is ∙ known.3) h)))))
      (bool_cases (may_begin n t.part.kept t.may.0)) in (
        c,
        does_so m _ _ c.fails refl (wrote v t.part t.may.0 (on_begin (length v.members) m) t.there t.may.1 ∙ ap (λ j. (on_begin j m t.part.kept t.may.0).write) (t.size ∙ len)) t.may.3,
        acted v z t.part t.may.0 t.effect (λ r w. if may_begin (length v.members) r w then settles (length v.members) c (begins (length v.members) m r w) else quiet w) t.there t.may.1
            (t.may.4 ∙ ap (λ b. settles n c (if b then begins n m t.part.kept t.may.0 else quiet t.may.0)) may
            ∙ sym (ap (λ b. if b then settles n c (begins n m t.part.kept t.may.0) else quiet t.may.0) may)
            ∙ rw (sym len) (rw (sym t.size) refl)) t.is,
      )
    where
      bool_cases : (b : Bool) → (b ≡ true) ⊎ (b ≡ false)
      bool_cases true = inl refl
      bool_cases false = inr refl

  -- a start, or a store that fails to give the record
  pub starts_step : (v z : Whole) → Steps has_applied old s m (MayStart (Does m) n m) v z → HappenedIf Does app (Start m) v z
  starts_step v z t = ⊎_elim
      (λ (e : (k : ℕ) × Does m Nothing None × (t.effect ≡ applies n k (quiet (resumed m t.part.kept)))).
      let c : Choice = record { fails = None; applied = e.0 } in (
        c,
        e.1,
        t.is ∙ ap (after v m t.part.kept) (e.2 ∙ ap (λ j. applies j e.0 (quiet (resumed m t.part.kept))) (sym (t.size ∙ len)))
            ∙ sym (ap (restarts v None e.0 m t.part.kept) t.may.0) ∙ sym (ap (starts v c m) t.there),
      ))
      (λ (e : Does m Nothing (Some false) × MayStay t.part t.effect). (
        record { fails = Some false; applied = 0 },
        e.0,
        t.is ∙ ap (after v m t.part.kept) e.1 ∙ stay_same v m t.part t.there
            ∙ sym (ap (restarts v (Some false) 0 m t.part.kept) t.may.0) ∙ sym (ap (starts v (record { fails = Some false; applied = 0 }) m) t.there),
      ))
      t.may.1

  -- where nothing is written, a store does nothing
  module _ (none : (j : ℕ) (w : Write) → writes w ≡ false → Does j w None) where
    -- a stop
    pub stops : (v z : Whole) → Steps has_applied old s m MayStop v z → HappenedIf Does app (Stop m) v z
    stops v z t = (record { fails = None; applied = 0 }, none m Nothing refl, acted v z t.part t.may.0 t.effect (λ r w. stops_in false (quiet w)) t.there t.may.1 t.may.2 t.is)

    -- a stop whose write is lost, in a delivery
    pub stops_at_delivery : (k : ℕ) (p : Packet) → at old.sent k ≡ Some p → p.target ≡ m → (v z : Whole) → Steps has_applied old s m MayStop v z → HappenedIf Does app (StopInDeliver k false) v z
    stops_at_delivery k p is target v z t = (
      record { fails = None; applied = 0 },
      none (reader (at v.sent k)) Nothing refl,
      delivered k p is target v t.sent (stops_in false) z
          (acted v z t.part t.may.0 t.effect (λ r w. stops_in false (effect_of app (length v.members) m r w (Hears p))) t.there t.may.1 t.may.2 t.is),
    )

    -- and in a tick
    pub stops_at_tick : (t : Tick) → MayWrite t → (v z : Whole) → Steps has_applied old s m MayStop v z → HappenedIf Does app (stop_in m t false) v z
    stops_at_tick tick.Begin may v z t = (
      record { fails = None; applied = 0 },
      none m Nothing refl,
      acted v z t.part t.may.0 t.effect (λ r w. stops_in false (effect_of app (length v.members) m r w Begins)) t.there t.may.1 t.may.2 t.is,
    )
    stops_at_tick tick.Keep may v z t = (
      record { fails = None; applied = 0 },
      none m Nothing refl,
      acted v z t.part t.may.0 t.effect (λ r w. stops_in false (effect_of app (length v.members) m r w KeepsLearnt)) t.there t.may.1 t.may.2 t.is,
    )
    stops_at_tick tick.Resend may v z t = absurd may
    stops_at_tick tick.CatchUp may v z t = absurd may

    -- a stop in a Begin that writes nothing, since no ballot can begin
    stops_unbegun : Skips has_applied s Begins → (x : Node R A) → s.node ≡ Some x → x.setup.members ≡ n → (v z : Whole) → Steps has_applied old s m MayStop v z → HappenedIf Does app (StopInBegin m true) v z
    stops_unbegun skips x there place v z t =
        let known = t.is_part.running x there in
        let same : known.0 ≡ t.may.0 = same_Some known.0 t.may.0 (sym known.1 ∙ t.may.1) in
        let spent : may_begin x.setup.members x.member.acceptor.kept known.0 ≡ false =
        ⊎_elim (λ (f : Unit {0} → ⊥). absurd (f tt)) (λ (f : (u : Running) → RunsAs has_applied u x → may_begin x.setup.members x.member.acceptor.kept u ≡ false). f known.0 known.2) (skips x there) in
        let may : may_begin (length v.members) t.part.kept t.may.0 ≡ false =
        subst (λ w. may_begin (length v.members) t.part.kept w ≡ false) same (subst (λ j. may_begin j t.part.kept known.0 ≡ false) (place ∙ sym len ∙ sym t.size)
        (subst (λ r. may_begin x.setup.members r known.0 ≡ false) (sym (t.is_part.kept_is ∙ known.3)) spent)) in (
          record { fails = None; applied = 0 },
          none m _ (ap writes (wrote v t.part t.may.0 (on_begin (length v.members) m) t.there t.may.1) ∙ ap (λ b. writes (if b then begins (length v.members) m t.part.kept t.may.0 else quiet t.may.0).write) may),
          acted v z t.part t.may.0 t.effect (λ r w. stops_in true (effect_of app (length v.members) m r w Begins)) t.there t.may.1
              (t.may.2 ∙ ap (λ b. stops_in true (if b then begins (length v.members) m t.part.kept t.may.0 else quiet t.may.0)) (sym may)) t.is,
        )

    -- so in each tick that may write, of which nothing comes
    pub stops_skipped : (t : Tick) → MayWrite t → Skips has_applied s (ticked t) → (x : Node R A) → s.node ≡ Some x → x.setup.members ≡ n → (v z : Whole) → Steps has_applied old s m MayStop v z → HappenedIf Does app (stop_in m t true) v z
    stops_skipped tick.Begin may skips x there place v z t = stops_unbegun skips x there place v z t
    stops_skipped tick.Keep may skips x there place v z t =
        let known = t.is_part.running x there in
        absurd (⊎_elim (λ (f : Unit {0} → ⊥). f tt) (λ (f : (u : Running) → RunsAs has_applied u x → ⊥). f known.0 known.2) (skips x there))
    stops_skipped tick.Resend may skips x there place v z t = absurd may
    stops_skipped tick.CatchUp may skips x there place v z t = absurd may
