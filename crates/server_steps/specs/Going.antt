-- What a server does, step by step: it goes on by moves of its node, and is as good as what takes what they send.
use Rattle.std.specs.Prelude.{◌≡◌, ℕ, Bool, false, List, [], ◌++◌, Result, Ok, Err}
use Rattle.ballots.specs.declared.value.Value.{Value}
use Rattle.node.specs.Nodes.{Node}
use Rattle.paxos.specs.Application.{Application}
use Rattle.paxos.specs.Lists.{Has}
use Rattle.paxos.specs.Records.{Record}
use Rattle.server_steps.specs.Held.{held_in}
use Rattle.server_steps.specs.Hold.{held_by}
use Rattle.server_steps.specs.Leading.{is_told}
use Rattle.server_steps.specs.Moves.{AreDone, BeginsIfTold, Deed, Halts, Move, Place, came_by, deeds_of, given_in, seat_after}
use Rattle.server_steps.specs.declared.fault.ServeFault.{ServeFault}
use Rattle.server_steps.specs.declared.leading.Word.{Word}
use Rattle.server_steps.specs.declared.leading.Word.TheVariants.{Said, Unsaid}
use Rattle.server_steps.specs.declared.seat.Seat.{Seat}
use Rattle.server_steps.specs.declared.state.State.{State}
use Rattle.wires.specs.Wires.{Carried}

-- its node, where it stands, the datagrams that it holds for the wire, those that wait for a reply, and how far the word to lead has come
pub record Server (R A D : Type 0) : Type 0 where
  pub seat : Seat R A
  pub place : Place D
  pub held : List (Carried D)
  pub waiting : List (Carried D)
  pub word : Word

-- the server of a state
abbrev pub shown : {R A D : Type 0} → State R A D → Server R A D
shown x = record { seat = x.seat; place = x.hold.place; held = held_by x.hold.place x.hold.outboxes.items; waiting = held_in x.waiting.requests.entries; word = x.word }

-- a server over a node, at its place, that has done nothing yet
abbrev pub started : {R A D : Type 0} → Node R A → Place D → Server R A D
started node place = record { seat = record { node = node; has_lost = false }; place = place; held = []; waiting = []; word = Unsaid }

-- it is told to lead
abbrev pub told_to_lead : {R A D : Type 0} → Server R A D → Server R A D
told_to_lead x = record x { word = Said }

-- each of these datagrams is one of those that came before
abbrev pub HaveCome : {D : Type 0} → (before : List (Carried D)) → List (Carried D) → Type 0
HaveCome {D} before ds = (d : Carried D) → Has ds d → Has before d

module _ {R A D W : Type 0} (has_applied : List (List ℕ) → List Value → A → Type 0) (app : List (List ℕ) → Application) (failed : R → ℕ) (eq : D → D → Bool) (was_given has_brought : W → List (Carried D) → Type 0) where
  -- The server and its wire went on by these deeds, in this order, where these datagrams had come before: the wire brought these, and it was given
  -- just what the server's moves send, in their order. What waits then has come.
  pub record Turned (before : List (Carried D)) (x y : Server R A D) (v w : W) (deeds : List (Deed D)) (brought : List (Carried D)) : Type 0 where
    pub moves : List (Move R A D)
    pub done : AreDone has_applied app failed eq x.place before x.seat moves
    pub are : deeds_of moves ≡ deeds
    pub seat : seat_after x.seat moves ≡ y.seat
    pub place : y.place ≡ x.place
    pub told : is_told y.word ≡ is_told x.word
    pub waits : HaveCome (before ++ came_by deeds) y.waiting
    pub gives : (ds : List (Carried D)) → was_given v ds → was_given w (ds ++ given_in moves)
    pub brings : (ds : List (Carried D)) → has_brought v ds → has_brought w (ds ++ brought)

  -- The same, whatever had come before, where what waits is of that.
  abbrev pub Goes : (x y : Server R A D) (v w : W) (deeds : List (Deed D)) (brought : List (Carried D)) → Type 0
  Goes x y v w deeds brought = (before : List (Carried D)) → HaveCome before x.waiting → Turned before x y v w deeds brought

  -- It went on by these deeds first, whatever else it did; these datagrams came to it, and the wire brought these. It began a ballot only if it was told
  -- to lead.
  abbrev pub GoesOn : (first : List (Deed D)) (came brought : List (Carried D)) (x y : Server R A D) (v w : W) → Type 0
  GoesOn first came brought x y v w = (rest : List (Deed D)) × (came_by (first ++ rest) ≡ came) × BeginsIfTold (is_told x.word) (first ++ rest) × Goes x y v w (first ++ rest) brought

  module _ (stands : R → Record → Record → Type 0) (is_kept : R → Type 0) (base : R → Record → Type 0) (leaves : R → Record → Record → Type 0) where
    -- The server went on until its node stopped, since its store failed, and the wire brought these; nothing was given or brought since.
    pub record Halted (brought : List (Carried D)) (x z : Server R A D) (v w : W) : Type 0 where
      pub last : Server R A D
      pub wire : W
      pub deeds : List (Deed D)
      pub begins : BeginsIfTold (is_told x.word) deeds
      pub goes : Goes x last v wire deeds brought
      pub halts : Halts has_applied app failed stands is_kept base leaves last.seat z.seat
      pub silent : (ds : List (Carried D)) → was_given wire ds → was_given w ds
      pub idle : (ds : List (Carried D)) → has_brought wire ds → has_brought w ds

    -- the server went on, by these deeds first, or until its node stopped
    abbrev pub Went : {T : Type 0} → Result T ServeFault → (first : List (Deed D)) (came brought : List (Carried D)) (x y : Server R A D) (v w : W) → Type 0
    Went (Ok done) first came brought x y v w = GoesOn first came brought x y v w
    Went (Err fault) first came brought x y v w = Halted brought x y v w

    -- the server went on by just these deeds, or until its node stopped
    abbrev pub WentBy : {T : Type 0} → Result T ServeFault → (deeds : List (Deed D)) → (x y : Server R A D) (v w : W) → Type 0
    WentBy (Ok done) deeds x y v w = Goes x y v w deeds []
    WentBy (Err fault) deeds x y v w = Halted [] x y v w

    -- It went on by deeds of which this holds, and just what the wire brought came to it; or until its node stopped. It began a ballot only if it was
    -- told to lead.
    abbrev pub Passed : {T : Type 0} → (AreSo : T → List (Deed D) → Type 0) → Result T ServeFault → (x y : Server R A D) (v w : W) → Type 0
    Passed AreSo (Ok done) x y v w = (deeds : List (Deed D)) × AreSo done deeds × BeginsIfTold (is_told x.word) deeds × Goes x y v w deeds (came_by deeds)
    Passed AreSo (Err fault) x y v w = (brought : List (Carried D)) × Halted brought x y v w

-- What a server holds is to its steps a wire that was given just that, and that brings nothing of which anything is said.
abbrev pub AreHeld : {D : Type 0} → (held ds : List (Carried D)) → Type 0
AreHeld held ds = held ≡ ds

abbrev pub AreAny : {D : Type 0} → (held ds : List (Carried D)) → Type 0
AreAny held ds = Unit {0}

-- What a server holds, and its wire: these datagrams, in this order, of which the first were given to the wire, and the rest is held.
abbrev pub was_given_or_held : {D W : Type 0} → (was_given : W → List (Carried D) → Type 0) → List (Carried D) × W → List (Carried D) → Type 0
was_given_or_held {D} was_given s ds = (given : List (Carried D)) × was_given s.1 given × (ds ≡ given ++ s.0)

-- the wire has brought these
abbrev pub has_brought_beside : {D W : Type 0} → (has_brought : W → List (Carried D) → Type 0) → List (Carried D) × W → List (Carried D) → Type 0
has_brought_beside has_brought s ds = has_brought s.1 ds

-- the wire was given nothing
abbrev pub IsGivenNothing : {D W : Type 0} → (was_given : W → List (Carried D) → Type 0) → (v w : W) → Type 0
IsGivenNothing {D} was_given v w = (ds : List (Carried D)) → was_given v ds → was_given w ds

-- Its node's record is written: a crash leaves it, with all that the steps of the node made of it.
abbrev pub IsWritten : {R A D : Type 0} → (is_kept : R → Type 0) → (leaves : R → Record → Record → Type 0) → Server R A D → Type 0
IsWritten is_kept leaves x = is_kept x.seat.node.member.acceptor.records → leaves x.seat.node.member.acceptor.records x.seat.node.member.acceptor.kept x.seat.node.member.acceptor.kept

module _ {R A D : Type 0} (has_applied : List (List ℕ) → List Value → A → Type 0) (app : List (List ℕ) → Application) (failed : R → ℕ) (eq : D → D → Bool) (stands : R → Record → Record → Type 0) (is_kept : R → Type 0) (base : R → Record → Type 0) (leaves : R → Record → Record → Type 0) where
  -- The server went on, by these deeds first, or until its node stopped; all that its moves send is held, behind what was held before.
  abbrev pub WentHolding : {T : Type 0} → Result T ServeFault → (first : List (Deed D)) (came : List (Carried D)) (x y : Server R A D) → Type 0
  WentHolding r first came x y = Went has_applied app failed eq AreHeld AreAny stands is_kept base leaves r first came [] x y x.held y.held

  -- the same, by just these deeds
  abbrev pub WentByHolding : {T : Type 0} → Result T ServeFault → (deeds : List (Deed D)) → (x y : Server R A D) → Type 0
  WentByHolding r deeds x y = WentBy has_applied app failed eq AreHeld AreAny stands is_kept base leaves r deeds x y x.held y.held
