-- Several writes in one transaction.
use Rattle.std.proofs.Common.{◌≡◌, List, [], ◌∷◌, subst, Option, Some, None, IfSome}
use Rattle.sqlite.specs.State.{State}
use Rattle.ballots.specs.Terms.{Setup}
use Rattle.ballots.specs.declared.ballot.Ballot.{Ballot}
use Rattle.paxos.specs.Records.{Record, written}
use Rattle.records.specs.Group.{AreWrites, IsDue, MayBeWritten, after, write_of}
use Rattle.records.specs.declared.group.Write.{Write}
use Rattle.records.proofs.Groups.{Left, left_all, left_next, left_none}
use Rattle.record_writes.specs.Holds.{Sees, Under}
use Rattle.record_writes.specs.Members.{HasMember, HasMembers}

-- So far as a loop over writes in a transaction has come, which began at the first record: it sees a record over which the rest may be written, and
-- whose promise is this one, if that is known.
pub record IsWriting (s : State) (o : Setup) (last first : Record) (writes rest : List Write) (promised : Option Ballot) : Type 0 where
  pub under : Under s o last
  pub now : Record
  pub sees : Sees s o now
  pub members : HasMembers o.members rest
  pub left : Left writes rest first now
  pub known : IfSome promised (λ b. now.promise ≡ b)

pub begins : (s : State) (o : Setup) (last first : Record) (ws : List Write) → AreWrites ws → HasMembers o.members ws → MayBeWritten ws first → Under s o last → Sees s o first → IsWriting s o last first ws ws None
begins s o last first ws are members due u see = record { under = u; now = first; sees = see; members = members; left = left_all ws first are due; known = tt }

-- the next one is of a member, and may be written
pub next_due : (s : State) (o : Setup) (last first : Record) (ws rest : List Write) (w : Write) (more : List Write) (p : Option Ballot) → rest ≡ w ∷ more → (it : IsWriting s o last first ws rest p) → HasMember o.members w × IsDue w it.now
next_due s o last first ws rest w more p e it = ((subst (HasMembers o.members) e it.members).0, (left_next ws rest w more first it.now e it.left).1)

-- once it is written, the rest of them are left
pub goes_on : (s t : State) (o : Setup) (last first : Record) (ws rest : List Write) (w : Write) (more : List Write) (p : Option Ballot) → rest ≡ w ∷ more → (it : IsWriting s o last first ws rest p) → (q : Option Ballot) → IfSome q (λ b. (now : Record) → IfSome p (λ before. now.promise ≡ before) → (written (write_of w) now).promise ≡ b) → Under t o last → Sees t o (written (write_of w) it.now) → IsWriting t o last first ws more q
goes_on s t o last first ws rest w more p e it q told u see = record {
  under = u;
  now = written (write_of w) it.now;
  sees = see;
  members = (subst (HasMembers o.members) e it.members).1;
  left = (left_next ws rest w more first it.now e it.left).2;
  known = told_of q told;
}
  where
    told_of : (q : Option Ballot) → IfSome q (λ b. (now : Record) → IfSome p (λ before. now.promise ≡ before) → (written (write_of w) now).promise ≡ b) → IfSome q (λ b. (written (write_of w) it.now).promise ≡ b)
    told_of None h = tt
    told_of (Some b) h = h it.now it.known

-- at the end it sees the record after all of them
pub ends : (s : State) (o : Setup) (last first : Record) (ws rest : List Write) → (p : Option Ballot) → rest ≡ [] → (it : IsWriting s o last first ws rest p) → Sees s o (after ws first)
ends s o last first ws rest p e it = subst (Sees s o) (left_none ws rest first it.now e it.left) it.sees
