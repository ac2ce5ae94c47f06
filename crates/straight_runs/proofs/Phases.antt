-- The worlds of the straight run: what each member has, what was sent, recorded and told, in each of its phases.
use Rattle.std.proofs.Common.{ℕ, zero, suc, ◌*◌, Bool, cond, eqb, ltb, Option, Some, None, List, [], ◌∷◌, ◌++◌, map}
use Rattle.ballots.specs.Ballot.{no_ballot}
use Rattle.ballots.specs.Messages.{Packet, packet, Prepare, Promise, Accept, Accepted, Submit, up_to}
use Rattle.ballots.specs.Terms.{Request}
use Rattle.ballots.specs.declared.ballot.Ballot.{Ballot}
use Rattle.ballots.specs.declared.value.Entry.{Entry}
use Rattle.ballots.specs.declared.value.Pair.{Pair}
use Rattle.ballots.specs.declared.value.Value.TheVariants.{Request as Of}
use Rattle.ballots.specs.declared.value.Vote.{Vote}
use Rattle.paxos.specs.Knowledge.{pair_of}
use Rattle.paxos.specs.Records.{window}
use Rattle.paxos.specs.Step.{Leader}
use Rattle.paxos.specs.World.{Member, World, cast_by, told_to}
use Rattle.straight_runs.proofs.Lists.{moved, beside, rows}
use Rattle.straight_runs.proofs.Smooth.{runs_with}

-- n members, of which m leads
module _ (n m : ℕ) where
  -- its ballot
  abbrev pub own : Ballot
  own = record { round = 1; member = m }

  -- what it leads
  abbrev pub lead : (next : ℕ) → List Pair → Leader
  lead next proposals = record { ballot = own; base = 0; next = next; proposals = proposals }

  -- what member i leads, where the leader leads that
  abbrev pub led : Leader → (i : ℕ) → Option Leader
  led l i = cond (eqb i m) (Some l) None

  -- its Prepare to member k, and the Promise of member k
  abbrev pub prepare : (k : ℕ) → Packet
  prepare k = packet m (Prepare own 1) k

  abbrev pub promise : (k : ℕ) → Packet
  promise k = packet k (Promise (window own 1 [])) m

  -- the Promises of members 1 to j, the newest first
  abbrev pub promises : (j : ℕ) → List Packet
  promises zero = []
  promises (suc j) = promise (suc j) ∷ promises j

  -- member i before it hears the Prepare, and after
  abbrev pub called : (i : ℕ) → Member
  called i = record { kept = record { promise = cond (eqb i m) own no_ballot; votes = []; learnt = [] }; running = Some (runs_with n [] (led (lead 1 []) i)) }

  abbrev pub promised : (i : ℕ) → Member
  promised i = record { kept = record { promise = own; votes = []; learnt = [] }; running = Some (runs_with n (prepare i ∷ []) (led (lead 1 []) i)) }

  -- the first j Prepares are delivered
  abbrev pub preparing : (j : ℕ) → World
  preparing j = record { members = moved n j called promised; sent = map prepare (up_to n) ++ map promise (up_to j); votes = []; told = [] }

  -- another member then, and the leader once it has heard the Promises of members 1 to j
  abbrev pub follower : (i : ℕ) → Member
  follower i = record { kept = record { promise = own; votes = []; learnt = [] }; running = Some (runs_with n (prepare i ∷ []) None) }

  abbrev pub leader : (j : ℕ) → Member
  leader j = record { kept = record { promise = own; votes = []; learnt = [] }; running = Some (runs_with n (promises j ++ prepare m ∷ []) (Some (lead 1 []))) }

  -- the first j Promises are delivered
  abbrev pub promising : (j : ℕ) → World
  promising j = record { members = beside n m (leader j) follower; sent = map prepare (up_to n) ++ map promise (up_to n); votes = []; told = [] }

  -- the request
  module _ (q : Request) where
    -- the request as it is submitted, as a value at its position, and as a vote
    abbrev pub submission : Packet
    submission = packet 0 (Submit q) m

    abbrev pub pair : Pair
    pair = pair_of 1 (Of q)

    abbrev pub vote : Vote
    vote = record { ballot = own; value = Of q }

    abbrev pub entry : Entry
    entry = record { position = 1; vote = vote }

    -- it is submitted
    abbrev pub submitting : World
    submitting = record {
      members = beside n m (leader n) follower;
      sent = map prepare (up_to n) ++ map promise (up_to n) ++ submission ∷ [];
      votes = [];
      told = [];
    }

    -- the Accept to member k, and the Accepted of member a to member k
    abbrev pub accept : (k : ℕ) → Packet
    accept k = packet m (Accept 1 vote) k

    abbrev pub accepted : (a k : ℕ) → Packet
    accepted a k = packet a (Accepted 1 vote) k

    -- what member i has heard before the Accept
    abbrev pub before : (i : ℕ) → List Packet
    before i = cond (eqb i m) (submission ∷ promises n ++ prepare m ∷ []) (prepare i ∷ [])

    -- member i before it hears the Accept, and after
    abbrev pub asked : (i : ℕ) → Member
    asked i = record { kept = record { promise = own; votes = []; learnt = [] }; running = Some (runs_with n (before i) (led (lead 2 (pair ∷ [])) i)) }

    abbrev pub voted : (i : ℕ) → Member
    voted i = record { kept = record { promise = own; votes = entry ∷ []; learnt = [] }; running = Some (runs_with n (accept i ∷ before i) (led (lead 2 (pair ∷ [])) i)) }

    -- all that was sent up to the Accepts, and the Accepted of the first j members
    abbrev pub sent_by : (j : ℕ) → List Packet
    sent_by j = map prepare (up_to n) ++ map promise (up_to n) ++ submission ∷ [] ++ map accept (up_to n) ++ rows n j accepted

    -- the first j Accepts are delivered
    abbrev pub accepting : (j : ℕ) → World
    accepting j = record { members = moved n j asked voted; sent = sent_by j; votes = map (λ i. cast_by i entry) (up_to j); told = [] }

    -- the Accepted of members 1 to a to member i, the newest first
    abbrev pub heard_of : (a i : ℕ) → List Packet
    heard_of zero i = []
    heard_of (suc a) i = accepted (suc a) i ∷ heard_of a i

    -- the members 1 to a are a majority
    abbrev pub enough : (a : ℕ) → Bool
    enough a = ltb n (2 * a)

    -- member i, which has heard that members 1 to a accepted
    abbrev pub learner : (a i : ℕ) → Member
    learner a i = record {
      kept = record { promise = own; votes = entry ∷ []; learnt = [] };
      running = Some (runs_with n (heard_of a i ++ accept i ∷ before i) (led (lead 2 (cond (enough a) [] (pair ∷ []))) i));
    }

    -- how many members were told the value, where each heard of a members, and the first k of one more
    abbrev pub told_by : (a k : ℕ) → ℕ
    told_by a k = cond (enough a) n (cond (enough (suc a)) k 0)

    -- the Accepted of the first a members are delivered, and those of the next one to the first k members
    abbrev pub learning : (a k : ℕ) → World
    learning a k = record {
      members = moved n k (learner a) (learner (suc a));
      sent = sent_by n;
      votes = map (λ i. cast_by i entry) (up_to n);
      told = map (λ i. told_to i pair) (up_to (told_by a k));
    }
