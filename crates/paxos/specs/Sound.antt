-- What every list of events keeps of all members and messages.
use Rattle.std.specs.Prelude.{◌≡◌, ℕ, ◌≤◌, false, Some, length}
use Rattle.ballots.specs.Ballot.{most_members, below}
use Rattle.ballots.specs.declared.ballot.Ballot.{Ballot}
use Rattle.ballots.specs.Messages.{Packet, Prepare}
use Rattle.paxos.specs.Lists.{at, Has}
use Rattle.paxos.specs.Step.{Running}
use Rattle.paxos.specs.WellFormed.{IsMessage, IsRecord, IsCalledFor, IsState}
use Rattle.paxos.specs.World.{Member, World}

-- a Prepare of the ballot has been sent
pub record IsAskedFor (w : World) (b : Ballot) : Type 0 where
  pub packet : Packet
  pub from : ℕ
  pub sent : Has w.sent packet
  pub body : packet.body ≡ Prepare b from

-- What holds of n members after every list of events: as the law has it, and each Prepare that was ever sent is of a ballot that
-- its member has promised, or a higher one.
pub record Sound (n : ℕ) (w : World) : Type 0 where
  pub size : length w.members ≡ n
  pub few : n ≤ most_members
  pub sent : (k : Packet) → Has w.sent k → IsMessage n k
  pub kept : (m : ℕ) (x : Member) → at w.members m ≡ Some x → IsRecord n x.kept
  pub runs : (m : ℕ) (x : Member) (u : Running) → at w.members m ≡ Some x → x.running ≡ Some u → IsState n m x.kept u
  pub called_for : (k : Packet) (x : Member) → Has w.sent k → at w.members k.target ≡ Some x → IsCalledFor x.kept k.body
  pub asked : (b : Ballot) (x : Member) → IsAskedFor w b → at w.members b.member ≡ Some x → below x.kept.promise b ≡ false
