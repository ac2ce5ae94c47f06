-- The numbers that messages, records and members may have. Members send nothing else, and none of it is checked twice.
use Rattle.std.specs.Prelude.{◌≡◌, ◌≤◌, ℕ, suc, false, List, [], ◌∷◌, length, Some, ◌⊎◌}
use Rattle.std.specs.List.{All}
use Rattle.paxos.specs.Lists.{at, Has}
use Rattle.ballots.specs.Ballot.{IsBallotOf, below, no_ballot}
use Rattle.ballots.specs.declared.ballot.Ballot.{Ballot}
use Rattle.ballots.specs.Values.{IsPosition, positions, most_entries}
use Rattle.ballots.specs.declared.value.Entry.{Entry}
use Rattle.ballots.specs.declared.value.Pair.{Pair}
use Rattle.ballots.specs.Messages.{Window, Body, Prepare, Promise, Accept, Accepted, Chosen, CatchUp, Submit, Ask, Elsewhere, Packet}
use Rattle.paxos.specs.Records.{Record, written}
use Rattle.paxos.specs.Step.{Leader, Running, Effect}
use Rattle.paxos.specs.World.{Member, World}

-- votes that rise from `least` to `most`, of ballots of n members that are not above b
abbrev pub AreVotes : (members : ℕ) → Ballot → (least : ℕ) → (most : ℕ) → List Entry → Type 0
AreVotes n b least most [] = Unit {0}
AreVotes n b least most (e ∷ es) =
    (least ≤ e.position) × (e.position ≤ most) × IsBallotOf n e.vote.ballot × (below b e.vote.ballot ≡ false) × AreVotes n b (suc e.position) most es

-- values at positions that rise from `least` on
abbrev pub ArePairs : (least : ℕ) → List Pair → Type 0
ArePairs least [] = Unit {0}
ArePairs least (e ∷ es) = (least ≤ e.position) × (e.position ≤ positions) × ArePairs (suc e.position) es

-- the position of the last vote; p where there is none
abbrev pub last_position : (p : ℕ) → List Entry → ℕ
last_position p [] = p
last_position p (e ∷ es) = last_position e.position es

-- a window that one of n members may promise: at most 8 votes, and where it ends before the last position, just 8 up to its end
pub record IsWindow (members : ℕ) (w : Window) : Type 0 where
  pub ballot : IsBallotOf members w.ballot
  pub least : 1 ≤ w.from
  pub most : w.covered ≤ positions
  pub covers : w.from ≤ w.covered
  pub votes : AreVotes members w.ballot w.from w.covered w.entries
  pub many : length w.entries ≤ most_entries
  pub end : (w.covered ≡ positions) ⊎ ((length w.entries ≡ most_entries) × (last_position 0 w.entries ≡ w.covered))

-- what a message may say among n members
abbrev pub IsBody : (members : ℕ) → Body → Type 0
IsBody n (Prepare b from) = IsBallotOf n b × IsPosition from
IsBody n (Promise w) = IsWindow n w
IsBody n (Accept p vote) = IsPosition p × IsBallotOf n vote.ballot
IsBody n (Accepted p vote) = IsPosition p × IsBallotOf n vote.ballot
IsBody n (Chosen pairs) = ArePairs 1 pairs × (1 ≤ length pairs) × (length pairs ≤ most_entries)
IsBody n (CatchUp from) = IsPosition from
IsBody n (Elsewhere client number member) = member ≤ n
IsBody n body = Unit {0}

-- who may say it: a ballot is asked for and proposed under by its own member alone; 0 stands for the clients
abbrev pub IsSender : (members : ℕ) → (sender : ℕ) → Body → Type 0
IsSender n m (Prepare b from) = m ≡ b.member
IsSender n m (Accept p vote) = m ≡ vote.ballot.member
IsSender n m (Submit q) = m ≡ 0
IsSender n m (Ask q) = m ≡ 0
IsSender n m body = (1 ≤ m) × (m ≤ n)

-- a message that may be sent among n members and their clients
pub record IsMessage (members : ℕ) (k : Packet) : Type 0 where
  pub sender : IsSender members k.sender k.body
  pub target : k.target ≤ members
  pub body : IsBody members k.body

-- a record that one of n members may keep: its votes are not above its promise, and it keeps values at positions that there are
pub record IsRecord (members : ℕ) (r : Record) : Type 0 where
  pub promise : (r.promise ≡ no_ballot) ⊎ IsBallotOf members r.promise
  pub votes : AreVotes members r.promise 1 positions r.votes
  pub learnt : length r.learnt ≤ positions

-- what one of n members may lead, where it keeps r: a ballot of its own, not above its promise
pub record IsLeader (members : ℕ) (self : ℕ) (r : Record) (l : Leader) : Type 0 where
  pub ballot : IsBallotOf members l.ballot
  pub own : l.ballot.member ≡ self
  pub kept : below r.promise l.ballot ≡ false
  pub least : 1 ≤ l.next
  pub most : l.next ≤ suc positions
  pub proposals : All (λ (e : Pair). IsPosition e.position) l.proposals

-- a member that keeps r hears of no promise of a ballot above its own promise
abbrev pub IsCalledFor : Record → Body → Type 0
IsCalledFor r (Promise w) = below r.promise w.ballot ≡ false
IsCalledFor r body = Unit {0}

-- what one of n members may keep and have while it runs
pub record IsState (members : ℕ) (self : ℕ) (r : Record) (u : Running) : Type 0 where
  pub kept : IsRecord members r
  pub leads : (l : Leader) → u.leader ≡ Some l → IsLeader members self r l
  pub heard : (k : Packet) → Has u.heard k → IsCalledFor r k.body

-- a step of a member that keeps r: what it leaves, sends and is told may be so
pub record IsStep (members : ℕ) (self : ℕ) (r : Record) (e : Effect) : Type 0 where
  pub kept : IsRecord members (written e.write r)
  pub runs : (u : Running) → e.running ≡ Some u → IsState members self (written e.write r) u
  pub sends : (k : Packet) → Has e.sends k → IsMessage members k
  pub tells : ArePairs 1 e.tells

-- all members and all messages ever sent may be so, and no promise is on its way to a member that has not promised as much
pub record IsWellFormed (w : World) : Type 0 where
  pub sent : (k : Packet) → Has w.sent k → IsMessage (length w.members) k
  pub kept : (m : ℕ) (x : Member) → at w.members m ≡ Some x → IsRecord (length w.members) x.kept
  pub runs : (m : ℕ) (x : Member) (u : Running) → at w.members m ≡ Some x → x.running ≡ Some u → IsState (length w.members) m x.kept u
  pub called_for : (k : Packet) (x : Member) → Has w.sent k → at w.members k.target ≡ Some x → IsCalledFor x.kept k.body
