-- What a node's answer to a datagram comes to at its seat.
use Rattle.std.proofs.Common.{◌≡◌, ℕ, Bool, true, false, List, [], refl, sym, ap, subst, inl, inr, Some}
use Rattle.std.specs.Prelude.{slice_get}
use Rattle.ballots.specs.Messages.{Packet}
use Rattle.ballots.specs.Terms.{Setup}
use Rattle.ballots.specs.declared.value.Value.{Value}
use Rattle.member.specs.Steps.{Input}
use Rattle.member.specs.declared.input.Tick.{Tick}
use Rattle.member.specs.declared.input.Tick.TheVariants as tick
use Rattle.messages.specs.Reading.{Fails, Gives, datagram_read}
use Rattle.messages.specs.Spelling.{Datagram, spelling}
use Rattle.messages.specs.declared.fault.WireFault.{WireFault}
use Rattle.acceptor.specs.Steps.{FlushFailed}
use Rattle.node.specs.Nodes.{HasFailed, IsFrom, IsStrange, IsUnchanged, Node, RunsAs}
use Rattle.node.specs.declared.fault.NodeFault.{NodeFault}
use Rattle.node.specs.declared.fault.NodeFault.TheVariants.{Memory, Spent, Stopped, Store, Stranger, Wire}
use Rattle.paxos.specs.Application.{Application}
use Rattle.paxos.specs.Records.{Record}
use Rattle.paxos.specs.Step.{Running, may_begin}
use Rattle.server_steps.specs.Refusals.{IsHalted, IsRefused, IsRefusedTick}
use Rattle.server_steps.specs.Moves.{Halts, Place, Stays, Takes, Ticks, fails, had_stopped, flush_fails, lost, missed, no_message, spent}
use Rattle.server_steps.specs.declared.seat.Seat.{Seat}
use Rattle.wires.specs.Wires.{Carried}

-- the ninth byte of a message is its sender
pub sender_byte : (s : Setup) (bytes : List ℕ) (k : Packet) → IsFrom s bytes k → slice_get bytes 8 ≡ Some k.sender
sender_byte s bytes k from = ap (λ bs. slice_get bs 8) from.spelt_so

module _ {R A : Type 0} (has_applied : List (List ℕ) → List Value → A → Type 0) (app : List (List ℕ) → Application) (failed : R → ℕ) where
  -- nothing has changed where nothing was done
  pub stays_node : (x : Node R A) → IsUnchanged has_applied failed x x
  stays_node x = record { setup = refl; acceptor = record { kept = refl; failures = refl }; runs_as = λ u r. r }

  pub stays : (x : Seat R A) → Stays has_applied app failed x x
  stays x = record { node = stays_node x.node; lost = refl }

  module _ {D : Type 0} (eq : D → D → Bool) (p : Place D) (d : Carried D) (x y : Seat R A) (n : Node R A) (is_left : y.node ≡ n) where
    -- what the node was left as is what sits there
    here : IsUnchanged has_applied failed x.node n → IsUnchanged has_applied failed x.node y.node
    here h = subst (λ m. IsUnchanged has_applied failed x.node m) (sym is_left) h

    -- the node has refused it, and serves on
    pub refuses : (fault : NodeFault) → IsRefused fault x.has_lost y.has_lost
        → ((f : WireFault) → fault ≡ Wire f → datagram_read d.bytes ≡ Fails f)
        → (fault ≡ Stranger → (it : Datagram) × (d.bytes ≡ spelling it) × (datagram_read d.bytes ≡ Gives it []) × IsStrange x.node.setup it)
        → ((fault ≡ Store → ⊥) → IsUnchanged has_applied failed x.node n) → Takes has_applied app failed eq p d x y []
    refuses (Wire f) is wire stranger same = no_message (inl (f, wire f refl)) (record { node = here (same (λ e. cc)); lost = is }) refl
    refuses Stranger is wire stranger same = no_message (inr (stranger refl)) (record { node = here (same (λ e. cc)); lost = is }) refl
    refuses Memory is wire stranger same = lost (record { node = here (same (λ e. cc)); lost = is }) refl
    refuses Spent is wire stranger same = lost (record { node = here (same (λ e. cc)); lost = is }) refl
    refuses Store is wire stranger same = absurd is
    refuses Stopped is wire stranger same = absurd is

module _ {R A : Type 0} (has_applied : List (List ℕ) → List Value → A → Type 0) (app : List (List ℕ) → Application) (failed : R → ℕ) (x y : Seat R A) (n : Node R A) (is_left : y.node ≡ n) where
  -- what the node was left as is what sits there
  sits : IsUnchanged has_applied failed x.node n → IsUnchanged has_applied failed x.node y.node
  sits h = subst (λ m. IsUnchanged has_applied failed x.node m) (sym is_left) h

  -- the node has refused a tick, and serves on
  pub refuses_tick : {D : Type 0} (p : Place D) (t : Tick) (fault : NodeFault) → IsRefusedTick fault x.has_lost y.has_lost
      → ((u : Running) → RunsAs has_applied u x.node → fault ≡ Spent → (t ≡ tick.Begin) × (may_begin x.node.setup.members x.node.member.acceptor.kept u ≡ false))
      → ((fault ≡ Store → ⊥) → IsUnchanged has_applied failed x.node n) → Ticks has_applied app failed p t x y []
  refuses_tick p t Spent is why same = spent (λ u r. why u r refl) (record { node = sits (same (λ e. cc)); lost = is }) refl
  refuses_tick p t Memory is why same = missed (record { node = sits (same (λ e. cc)); lost = is }) refl
  refuses_tick p t (Wire f) is why same = absurd is
  refuses_tick p t Stranger is why same = absurd is
  refuses_tick p t Store is why same = absurd is
  refuses_tick p t Stopped is why same = absurd is

  -- the node has stopped
  pub halts : (stands : R → Record → Record → Type 0) (is_kept : R → Type 0) (base : R → Record → Type 0) (leaves : R → Record → Record → Type 0) (fault : NodeFault) → IsHalted fault
      → (fault ≡ Store → (i : Input) × HasFailed stands is_kept failed has_applied (app x.node.setup.names) i x.node n)
      → (fault ≡ Stopped → x.node.member.acceptor.is_stopped ≡ true)
      → ((fault ≡ Store → ⊥) → IsUnchanged has_applied failed x.node n) → Halts has_applied app failed stands is_kept base leaves x y
  halts stands is_kept base leaves Store is store stopped same =
      let h = store refl in fails h.0 (subst (λ m. HasFailed stands is_kept failed has_applied (app x.node.setup.names) h.0 x.node m) (sym is_left) h.1)
  halts stands is_kept base leaves Stopped is store stopped same = had_stopped (stopped refl) (sits (same (λ e. cc)))
  halts stands is_kept base leaves (Wire f) is store stopped same = absurd is
  halts stands is_kept base leaves Stranger is store stopped same = absurd is
  halts stands is_kept base leaves Memory is store stopped same = absurd is
  halts stands is_kept base leaves Spent is store stopped same = absurd is

module _ {R A : Type 0} (has_applied : List (List ℕ) → List Value → A → Type 0) (app : List (List ℕ) → Application) (failed : R → ℕ) where
  -- where its records were not written, the node has stopped
  pub write_halts : (stands : R → Record → Record → Type 0) (is_kept : R → Type 0) (base : R → Record → Type 0) (leaves : R → Record → Record → Type 0) (x y : Seat R A) (fault : NodeFault) → IsHalted fault
      → (fault ≡ Store → FlushFailed base leaves is_kept failed x.node.member.acceptor y.node.member.acceptor) → (fault ≡ Stopped → x.node.member.acceptor.is_stopped ≡ true) → (fault ≡ Stopped → y.node ≡ x.node) → Halts has_applied app failed stands is_kept base leaves x y
  write_halts stands is_kept base leaves x y Store is store stopped still = flush_fails (store refl)
  write_halts stands is_kept base leaves x y Stopped is store stopped still =
      had_stopped (stopped refl) (subst (λ n. IsUnchanged has_applied failed x.node n) (sym (still refl)) (record { setup = refl; acceptor = record { kept = refl; failures = refl }; runs_as = λ u r. r }))
  write_halts stands is_kept base leaves x y (Wire f) is store stopped still = absurd is
  write_halts stands is_kept base leaves x y Stranger is store stopped still = absurd is
  write_halts stands is_kept base leaves x y Memory is store stopped still = absurd is
  write_halts stands is_kept base leaves x y Spent is store stopped still = absurd is
