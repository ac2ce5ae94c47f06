-- What code holds, and what that shows.
use Rattle.std.specs.Prelude.{◌≡◌, ◌<◌, ◌≤◌, ℕ, Some, length}
use Rattle.paxos.specs.Lists.{at}
use Rattle.ballots.specs.Ballot.{most_members}
use Rattle.world.specs.Posts.{IsWhole, packet_of, sent_in}
use Rattle.world.specs.declared.mail.Delivery.{Delivery}
use Rattle.world.specs.declared.mail.Mail.{Mail}
use Rattle.world.specs.Tellings.{told_in}
use Rattle.world.specs.Shown.{World, AreSeats}
use Rattle.world.specs.declared.state.State.{State}

-- the world that is held
abbrev pub shown : {R A : Type 0} → State R A → World R A
shown x = record { members = x.members; group = x.group; names = x.names; seats = x.seats.items; sent = sent_in x.group x.mail; told = told_in x.told.items }

-- There are 1 to 63 members, each at its place, and each message is there.
pub record IsHeld {R A : Type 0} (x : State R A) : Type 0 where
  pub least : 1 ≤ x.members
  pub most : x.members ≤ most_members
  pub size : length x.seats.items ≡ x.members
  pub seats : AreSeats (shown x)
  pub whole : IsWhole x.mail

-- the delivery of a number goes to a member that there is, and its message is there
abbrev pub IsDeliveryOf : {R A : Type 0} → World R A → (number : ℕ) → Mail → Delivery → Type 0
IsDeliveryOf w k mail d = (1 ≤ d.target) × (d.target ≤ w.members) × (d.message < length mail.messages.items) × (at (sent_in w.group mail) k ≡ Some (packet_of w.group mail.messages.items d))
