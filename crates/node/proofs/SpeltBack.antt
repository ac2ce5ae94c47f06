-- What is sent reads as the messages that were to be sent.
use Rattle.std.proofs.Common.{◌<◌, ◌≤◌, ◌^◌, ℕ, arith, subst, List, [], ◌∷◌, map, inl, inr}
use Rattle.std.specs.Prelude.{filter, not, ◌==◌}
use Rattle.ballots.specs.Ballot.{IsBallotOf, most_members}
use Rattle.ballots.specs.Messages.{Body, Prepare, Promise, Accept, Accepted, Chosen, CatchUp, Submit, Ask, Elsewhere, Packet, body_of, packet, up_to, to_all}
use Rattle.ballots.specs.declared.ballot.Ballot.{Ballot}
use Rattle.ballots.specs.declared.value.Entry.{Entry}
use Rattle.member.specs.Steps.{Input, Hears, Begins, Resends, CatchesUp, KeepsLearnt, MayCome, all_packets, effect_of, packets_of}
use Rattle.member.specs.declared.outcome.Send.{Send}
use Rattle.member.specs.declared.outcome.Target.{Target}
use Rattle.member.specs.declared.outcome.Target.TheVariants as target
use Rattle.messages.proofs.RoundTripBodies.{datagram-back}
use Rattle.messages.specs.Spelling.{AreInRange, HasFields}
use Rattle.paxos.proofs.Lists.{has_flat, has_map}
use Rattle.paxos.proofs.Steps.{message_is_step, begin_is_step, resend_is_step, catch_up_is_step, keep_is_step}
use Rattle.paxos.specs.Application.{Application}
use Rattle.paxos.specs.Lists.{Has}
use Rattle.paxos.specs.Records.{Record}
use Rattle.paxos.specs.Step.{Running}
use Rattle.paxos.specs.WellFormed.{AreVotes, IsBody, IsMessage, IsSender, IsState, IsStep}
use Rattle.node.specs.Nodes.{AreAll, HasFieldsInRange, ReadsBack}

-- what may be among n members may be among more
wider_ballot : (n k : ℕ) → n ≤ k → (b : Ballot) → IsBallotOf n b → IsBallotOf k b
wider_ballot n k more b h = let few = h.1 in (h.0, omega (arith, more, few))

wider_votes : (n k : ℕ) → n ≤ k → (b : Ballot) (least most : ℕ) (es : List Entry) → AreVotes n b least most es → AreVotes k b least most es
wider_votes n k more b least most [] h = tt
wider_votes n k more b least most (e ∷ es) h = (h.0, h.1, wider_ballot n k more e.vote.ballot h.2, h.3, wider_votes n k more b _ most es h.4)

wider_body : (n k : ℕ) → n ≤ k → (b : Body) → IsBody n b → IsBody k b
wider_body n k more (Prepare b from) h = (wider_ballot n k more b h.0, h.1)
wider_body n k more (Promise w) h = record {
  ballot = wider_ballot n k more w.ballot h.ballot;
  least = h.least;
  most = h.most;
  covers = h.covers;
  votes = wider_votes n k more w.ballot w.from w.covered w.entries h.votes;
  many = h.many;
  end = h.end;
}
wider_body n k more (Accept p vote) h = (h.0, wider_ballot n k more vote.ballot h.1)
wider_body n k more (Accepted p vote) h = (h.0, wider_ballot n k more vote.ballot h.1)
wider_body n k more (Chosen pairs) h = h
wider_body n k more (CatchUp from) h = h
wider_body n k more (Elsewhere client number member) h = omega (arith, more, h)
wider_body n k more b h = tt

wider_sender : (n k : ℕ) → n ≤ k → (m : ℕ) (b : Body) → IsSender n m b → IsSender k m b
wider_sender n k more m (Prepare b from) h = h
wider_sender n k more m (Accept p vote) h = h
wider_sender n k more m (Submit q) h = h
wider_sender n k more m (Ask q) h = h
wider_sender n k more m b h = let few = h.1 in (h.0, omega (arith, more, few))

-- a message that may be sent, and has its fields, reads as itself
pub reads_back : (g n : ℕ) → g < 2 ^ 32 → n ≤ most_members → (k : Packet) → IsMessage n k → HasFields k.body → ReadsBack g k
reads_back g n group few k is fields = datagram-back (record { group = g; sender = k.sender; body = k.body })
    (record { group = group; sender = wider_sender n most_members few k.sender k.body is.sender; body = wider_body n most_members few k.body is.body; fields = fields })

-- what the packets of messages say is what these say
said_by : (P : Body → Type 0) (n m : ℕ) (s : Send) → P (body_of s.message) → (k : Packet) → Has (packets_of n m s) k → P k.body
said_by P n m s h k o = by s.to o
  where
    mapped : (xs : List ℕ) → Has (map (packet m (body_of s.message)) xs) k → P k.body
    mapped xs p = let q = has_map (packet m (body_of s.message)) xs k p in subst (λ (x : Packet). P x.body) q.1 h

    by : (t : Target) → Has (elim t as (λ t. List Packet) [
      | target.One j ↦ packet m (body_of s.message) j ∷ []
      | target.All ↦ to_all n m (body_of s.message)
      | target.Others ↦ map (packet m (body_of s.message)) (filter (λ j. not (j == m)) (up_to n))
      | target.Client ↦ packet m (body_of s.message) 0 ∷ []
    ]) k → P k.body
    by (target.One j) p = mapped (j ∷ []) p
    by target.All p = mapped (up_to n) p
    by target.Others p = mapped (filter (λ j. not (j == m)) (up_to n)) p
    by target.Client p = mapped (0 ∷ []) p

pub all_said : (P : Body → Type 0) (n m : ℕ) (sends : List Send) → AreAll P sends → (k : Packet) → Has (all_packets n m sends) k → P k.body
all_said P n m sends all k h = let o = has_flat (packets_of n m) sends k h in said_by P n m o.0 (each sends all o.0 o.1) k o.2
  where
    each : (xs : List Send) → AreAll P xs → (x : Send) → Has xs x → P (body_of x.message)
    each [] a x o = absurd o
    each (y ∷ ys) a x (inl e) = subst (λ (z : Send). P (body_of z.message)) e a.0
    each (y ∷ ys) a x (inr o) = each ys a.1 x o

-- what has its fields in range has them
pub with_fields : (sends : List Send) → AreAll HasFieldsInRange sends → AreAll AreInRange sends → AreAll HasFields sends
with_fields [] f r = tt
with_fields (s ∷ ss) f r = (f.0 r.0, with_fields ss f.1 r.1)

-- So each message of a draft reads as itself.
pub draft_reads : (g n m : ℕ) → g < 2 ^ 32 → n ≤ most_members → (sends : List Send) → AreAll HasFieldsInRange sends → AreAll AreInRange sends → (k : Packet) → Has (all_packets n m sends) k → IsMessage n k → ReadsBack g k
draft_reads g n m group few sends fields ranges k h is = reads_back g n group few k is (all_said HasFields n m sends (with_fields sends fields ranges) k h)

-- A step upon what may come is well formed.
pub step_is : (app : Application) (n m : ℕ) (i : Input) (r : Record) (u : Running) → 1 ≤ m → m ≤ n → n ≤ most_members → MayCome n i → IsState n m r u → IsStep n m r (effect_of app n m r u i)
step_is app n m (Hears p) r u least most few may state = message_is_step app n m p r u least most few may state
step_is app n m Begins r u least most few may state = begin_is_step n m r u least most few state
step_is app n m Resends r u least most few may state = resend_is_step n m r u least most few state
step_is app n m CatchesUp r u least most few may state = catch_up_is_step n m r u least most few state
step_is app n m KeepsLearnt r u least most few may state = keep_is_step n m r u least most few state
