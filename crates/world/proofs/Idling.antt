-- Events that change nothing: nobody runs where they come to, or nothing comes of them.
use Rattle.std.proofs.Common.{◌≡◌, ℕ, ◌≤◌, false, refl, sym, subst, ap, ◌∙◌, Option, Some, None, List, ⊎_elim}
use Rattle.std.proofs.lemmas.Option.{none-some}
use Rattle.ballots.specs.Ballot.{most_members}
use Rattle.ballots.specs.Messages.{Packet}
use Rattle.ballots.specs.declared.value.Value.{Value}
use Rattle.member.specs.Steps.{Hears}
use Rattle.node.specs.Nodes.{Node, RunsAs, IsSpent}
use Rattle.paxos.specs.Lists.{at, Has}
use Rattle.paxos.specs.Records.{Record, writes}
use Rattle.paxos.specs.Step.{Running, Effect}
use Rattle.paxos.specs.WellFormed.{IsMessage}
use Rattle.paxos.specs.World.{World as Whole, Member as Part, acts, takes}
use Rattle.paxos.specs.Sound.{Sound}
use Rattle.world.specs.Seats.{IsFit, IsPart, MayBeHeard, Skips}
use Rattle.world.specs.Shown.{World, Shows}
use Rattle.world.specs.Reached.{write_at}
use Rattle.world.specs.declared.seat.Seat.{Seat}
use Rattle.world.proofs.Lifting.{some_at}

module _ {R A : Type 0} (has_applied : List (List ℕ) → List Value → A → Type 0) (n : ℕ) (few : n ≤ most_members) (old : World R A) (m : ℕ) (before : ℕ → Record) (v : Whole) (sound : Sound n v) (shows : Shows has_applied old before v) where
  -- its record is well formed
  pub is_fit : (y : Part) → at v.members m ≡ Some y → IsFit n y
  is_fit y h = sound.kept m y h

  -- the part of a seat
  pub part_of : (s : Seat R A) → at old.seats m ≡ Some s → (y : Part) × (at v.members m ≡ Some y) × IsPart has_applied s (before m) y
  part_of s h = let y = some_at old.seats v.members m s shows.size h in (y.0, y.1, shows.parts m s y.0 h y.1)

  -- a stopped member takes no step, and writes nothing
  stopped_there : (s : Seat R A) (h : at old.seats m ≡ Some s) → s.node ≡ None → at v.members m ≡ Some (record { kept = (part_of s h).0.kept; running = None })
  stopped_there s h none = let y = part_of s h in y.1 ∙ ap (λ o. Some (record { kept = y.0.kept; running = o })) (y.2.stopped none)

  pub stopped_still : (s : Seat R A) → at old.seats m ≡ Some s → s.node ≡ None → (step : Record → Running → Effect) → acts v m step ≡ v
  stopped_still s h none step = ap (takes v m step) (stopped_there s h none)

  pub stopped_silent : (s : Seat R A) → at old.seats m ≡ Some s → s.node ≡ None → (step : Record → Running → Effect) → writes (write_at step (at v.members m)) ≡ false
  stopped_silent s h none step = ap (λ o. writes (write_at step o)) (stopped_there s h none)

  -- nor does one that isn't there
  nobody_there : at old.seats m ≡ None → at v.members m ≡ None
  nobody_there none = no_part (at v.members m) refl
    where
      no_part : (o : Option Part) → at v.members m ≡ o → at v.members m ≡ None
      no_part None q = q
      no_part (Some y) q = let s = some_at v.members old.seats m y (sym shows.size) q in absurd (none-some s.0 (sym none ∙ s.1))

  pub nobody_still : at old.seats m ≡ None → (step : Record → Running → Effect) → acts v m step ≡ v
  nobody_still none step = ap (takes v m step) (nobody_there none)

  pub nobody_silent : at old.seats m ≡ None → (step : Record → Running → Effect) → writes (write_at step (at v.members m)) ≡ false
  nobody_silent none step = ap (λ o. writes (write_at step o)) (nobody_there none)

  -- a running member skips no message that was sent to it
  pub never_skipped : (s : Seat R A) (h : at old.seats m ≡ Some s) (p : Packet) → Has old.sent p → p.target ≡ m → (m ≡ 0 → ⊥) → (x : Node R A) → s.node ≡ Some x → x.setup.members ≡ n → Skips has_applied s (Hears p) → ⊥
  never_skipped s h p sent target least x q many skips =
      let y = part_of s h in
      let u = y.2.running x q in
      let message = sound.sent p (subst (λ xs. Has xs p) (sym shows.sent) sent) in
      ⊎_elim
      (λ (f : MayBeHeard x (Hears p) → ⊥). f (subst (λ j. IsMessage j p) (sym many) message, λ c. least (sym target ∙ shows.for_clients p sent c)))
      (λ (f : (u : Running) → RunsAs has_applied u x → IsSpent x u (Hears p)). f u.0 u.2)
      (skips x q)
