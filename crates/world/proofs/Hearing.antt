-- What comes of bytes that are delivered to a node, and of ticks.
use Rattle.std.proofs.Common.{◌≡◌, ◌⊎◌, ◌==◌, ℕ, Bool, true, false, arith, cond, refl, inl, inr, sym, subst, ap, ◌∙◌, ⊎_elim, Some, Result, Err, IfErr, List, []}
use Rattle.std.proofs.lemmas.Bool.{eqb-true, false≢true}
use Rattle.std.proofs.lemmas.Option.{same_Some}
use Rattle.ballots.specs.Messages.{Packet, packet}
use Rattle.ballots.specs.Terms.{Setup}
use Rattle.ballots.specs.declared.value.Value.{Value}
use Rattle.member.specs.Steps.{Input, Hears}
use Rattle.messages.specs.Reading.{Gives, Fails, datagram_read}
use Rattle.messages.specs.Spelling.{Datagram}
use Rattle.messages.specs.declared.fault.WireFault.{WireFault}
use Rattle.node.specs.Nodes.{IsDrafted, IsForClients, IsFrom, IsStrange, Node, RunsAs, IsSpent}
use Rattle.node.specs.declared.draft.Draft.{Draft}
use Rattle.node.specs.declared.fault.NodeFault.{NodeFault}
use Rattle.node.specs.declared.fault.NodeFault.TheVariants as fault
use Rattle.paxos.specs.Application.{Application}
use Rattle.paxos.specs.Step.{Running}
use Rattle.paxos.specs.WellFormed.{IsMessage}
use Rattle.world.specs.Posts.{packet_in, said, unsaid}
use Rattle.world.specs.Seats.{IsPlanned, Skips}
use Rattle.world.specs.declared.seat.Seat.{Seat}
use Rattle.world.proofs.Posted.{says_so}

-- what nobody says may not be sent
never_said : (n t : ℕ) → IsMessage n (unsaid t) → ⊥
never_said n t h = let least = h.body.0 in omega (arith, least)

module _ {R A : Type 0} (has_applied : List (List ℕ) → List Value → A → Type 0) (t : Setup) (y : Node R A) (s : Seat R A) (there : s.node ≡ Some y) (setup : y.setup ≡ t) where
  -- what was drafted of bytes is planned, of what they say
  pub heard_planned : (meaning : List (List ℕ) → Application) (bytes : List ℕ) (d : Draft) → (k : Packet) × IsFrom y.setup bytes k × IsDrafted has_applied (meaning y.setup.names) (Hears k) y d
      → IsPlanned has_applied (meaning t.names) s (Hears (packet_in t.group (bytes, t.member))) d
  heard_planned meaning bytes d h =
      let from = subst (λ v. IsFrom v bytes h.0) setup h.1 in
      let same : packet_in t.group (bytes, t.member) ≡ h.0 = says_so t.group t.member bytes h.0 from.target from.reads_so in
      record {
        node = y;
        there = there;
        drafted = subst (λ k. IsDrafted has_applied (meaning t.names) (Hears k) y d) (sym same) (subst (λ v. IsDrafted has_applied (meaning v.names) (Hears h.0) y d) setup h.2);
        due = λ u r z. z;
      }

  -- so is what was drafted of a tick
  pub tick_planned : (meaning : List (List ℕ) → Application) (i : Input) (d : Draft) → IsDrafted has_applied (meaning y.setup.names) i y d → ((u : Running) → RunsAs has_applied u y → IsSpent y u i → ⊥)
      → IsPlanned has_applied (meaning t.names) s i d
  tick_planned meaning i d h due = record { node = y; there = there; drafted = subst (λ v. IsDrafted has_applied (meaning v.names) i y d) setup h; due = due }

  -- nothing comes of bytes that may not be heard
  not_heard : (k : Packet) → ((n : ℕ) → n ≡ t.members → IsMessage n k → (IsForClients k.body → ⊥) → ⊥) → Skips has_applied s (Hears k)
  not_heard k off x q = inl (λ may. off x.setup.members (ap (λ (z : Node R A). z.setup.members) (same_Some x y (sym q ∙ there)) ∙ ap (λ (v : Setup). v.members) setup) may.0 may.1)

  -- bytes that are no message
  pub wire_skipped : (bytes : List ℕ) (f : WireFault) → datagram_read bytes ≡ Fails f → Skips has_applied s (Hears (packet_in t.group (bytes, t.member)))
  wire_skipped bytes f reads = not_heard (packet_in t.group (bytes, t.member)) (λ n e may off. never_said n t.member (subst (IsMessage n) (ap (said t.group t.member) reads) may))

  -- a stranger's
  pub stranger_skipped : (bytes : List ℕ) (d : Datagram) → datagram_read bytes ≡ Gives d [] → IsStrange t d → Skips has_applied s (Hears (packet_in t.group (bytes, t.member)))
  stranger_skipped bytes d reads strange = not_heard (packet_in t.group (bytes, t.member)) (λ n e may off. by (d.group == t.group) refl n e
      (subst (IsMessage n) (ap (said t.group t.member) reads) may) (subst (λ (k : Packet). IsForClients k.body → ⊥) (ap (said t.group t.member) reads) off))
    where
      by : (b : Bool) → (d.group == t.group) ≡ b → (n : ℕ) → n ≡ t.members → IsMessage n (cond (d.group == t.group) (packet d.sender d.body t.member) (unsaid t.member))
          → (IsForClients (cond (d.group == t.group) (packet d.sender d.body t.member) (unsaid t.member)).body → ⊥) → ⊥
      by false q n e may off = never_said n t.member (subst (λ b. IsMessage n (cond b (packet d.sender d.body t.member) (unsaid t.member))) q may)
      by true q n e may off =
          let message = subst (λ b. IsMessage n (cond b (packet d.sender d.body t.member) (unsaid t.member))) q may in
          let members = subst (λ b. IsForClients (cond b (packet d.sender d.body t.member) (unsaid t.member)).body → ⊥) q off in
          ⊎_elim
          (λ (f : d.group ≡ t.group → ⊥). f (eqb-true d.group t.group q))
          (⊎_elim (λ (c : IsForClients d.body). members c) (λ (f : IsMessage t.members (packet d.sender d.body t.member) → ⊥). f (subst (λ j. IsMessage j (packet d.sender d.body t.member)) e message)))
          strange

  -- and what is spent
  pub spent_skipped : (i : Input) → ((u : Running) → RunsAs has_applied u y → IsSpent y u i) → Skips has_applied s i
  spent_skipped i spent x q = inr (subst (λ (z : Node R A). (u : Running) → RunsAs has_applied u z → IsSpent z u i) (same_Some y x (sym there ∙ q)) spent)

  -- so is all that a node refuses of bytes
  pub heard_skipped : {T : Type 0} (bytes : List ℕ) (r : Result T NodeFault) (f : NodeFault) → r ≡ Err f → (f ≡ fault.Memory → ⊥)
      → ((w : WireFault) → r ≡ Err (fault.Wire w) → datagram_read bytes ≡ Fails w) → (r ≡ Err fault.Stranger → (d : Datagram) × (datagram_read bytes ≡ Gives d []) × IsStrange t d)
      → (r ≡ Err fault.Store → ⊥) → (r ≡ Err fault.Stopped → true ≡ false) → ((u : Running) → RunsAs has_applied u y → r ≡ Err fault.Spent → ⊥)
      → Skips has_applied s (Hears (packet_in t.group (bytes, t.member)))
  heard_skipped bytes r (fault.Wire w) is other wire stranger store stopped spent = wire_skipped bytes w (wire w is)
  heard_skipped bytes r fault.Stranger is other wire stranger store stopped spent = let d = stranger is in stranger_skipped bytes d.0 d.1 d.2
  heard_skipped bytes r fault.Memory is other wire stranger store stopped spent = absurd (other refl)
  heard_skipped bytes r fault.Store is other wire stranger store stopped spent = absurd (store is)
  heard_skipped bytes r fault.Stopped is other wire stranger store stopped spent = absurd (false≢true (sym (stopped is)))
  heard_skipped bytes r fault.Spent is other wire stranger store stopped spent = spent_skipped (Hears (packet_in t.group (bytes, t.member))) (λ u h. absurd (spent u h is))

  -- and of a tick
  pub tick_skipped : {T : Type 0} (i : Input) (r : Result T NodeFault) (f : NodeFault) → r ≡ Err f → (f ≡ fault.Memory → ⊥)
      → IfErr r (λ e. (e ≡ fault.Stopped) ⊎ (e ≡ fault.Memory) ⊎ (e ≡ fault.Spent)) → (r ≡ Err fault.Stopped → true ≡ false) → ((u : Running) → RunsAs has_applied u y → r ≡ Err fault.Spent → IsSpent y u i)
      → Skips has_applied s i
  tick_skipped i r f is other faults stopped spent =
      let one : (f ≡ fault.Stopped) ⊎ (f ≡ fault.Memory) ⊎ (f ≡ fault.Spent) = rw is at faults in
      ⊎_elim
      (λ (q : f ≡ fault.Stopped). absurd (false≢true (sym (stopped (is ∙ ap Err q)))))
      (⊎_elim (λ (q : f ≡ fault.Memory). absurd (other q)) (λ (q : f ≡ fault.Spent). spent_skipped i (λ u h. spent u h (is ∙ ap Err q))))
      one
