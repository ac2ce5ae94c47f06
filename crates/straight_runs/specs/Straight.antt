-- The straight run of n members: one of them begins, and all is delivered; a request is submitted to it, and all is delivered.
-- Messages are delivered in the order of their numbers, no store fails, and each member applies all that it has learnt without a gap.
use Rattle.std.specs.Prelude.{ℕ, zero, suc, ◌+◌, ◌*◌, min, List, ◌∷◌, ◌++◌}
use Rattle.ballots.specs.Terms.{Request}
use Rattle.paxos.specs.Examples.{deliveries}
use Rattle.paxos.specs.World.{Event, Begin, Submits}

-- a member begins, and the first j messages are delivered
abbrev pub opening : (member : ℕ) → (j : ℕ) → List Event
opening m j = Begin m ∷ deliveries 1 j

-- how many messages were sent then: a Prepare to each of n members, and a Promise for each Prepare delivered
abbrev pub opening_sent : (members : ℕ) → (j : ℕ) → ℕ
opening_sent n j = n + min j n

-- after all these messages the request is submitted to the member, and j more are delivered
abbrev pub closing : (members member : ℕ) → Request → (j : ℕ) → List Event
closing n m q j = opening m (2 * n) ++ Submits m q ∷ deliveries (2 * n + 1) j

-- How many messages were sent then: the 2n before and the request; once that is delivered an Accept to each member; and for each
-- Accept delivered an Accepted to each member.
abbrev pub closing_sent : (members : ℕ) → (j : ℕ) → ℕ
closing_sent n zero = 2 * n + 1
closing_sent n (suc j) = 3 * n + 1 + n * min j n
