-- What a leader says, as packets.
use Rattle.std.proofs.Common.{◌≡◌, ℕ, refl, ap, ap₂, ◌∙◌, List, [], ◌∷◌, ◌++◌, map, Some}
use Rattle.std.proofs.lemmas.Grind.{flat_map-append}
use Rattle.ballots.specs.Messages.{Accept, to_all}
use Rattle.ballots.specs.declared.ballot.Ballot.{Ballot}
use Rattle.ballots.specs.declared.value.Pair.{Pair}
use Rattle.paxos.specs.Step.{accepts}
use Rattle.proposer.specs.declared.sends.Asked.{Asked}
use Rattle.proposer.specs.declared.sends.Sends.{Sends}
use Rattle.proposer.specs.Knowing.{accepts_first, prepare_of, prepares_first}
use Rattle.member.specs.Drafts.{accept_send, prepare_send}
use Rattle.member.specs.Steps.{all_packets, packets_of}

all_prepares : (n m : ℕ) (b : Ballot) (asked : List Asked) → all_packets n m (map (prepare_send b) asked) ≡ map (prepare_of m b) asked
all_prepares n m b [] = refl
all_prepares n m b (a ∷ asked) = ap (λ ks. prepare_of m b a ∷ ks) (all_prepares n m b asked)

all_accepts : (n m : ℕ) (b : Ballot) (es : List Pair) → all_packets n m (map (accept_send b) es) ≡ accepts n m b es
all_accepts n m b [] = refl
all_accepts n m b (e ∷ es) = ap (λ ks. to_all n m (Accept e.position (record { ballot = b; value = e.value })) ++ ks) (all_accepts n m b es)

pub prepares_then : (n m : ℕ) (s : Sends) → all_packets n m (map (prepare_send s.ballot) s.prepares.items ++ map (accept_send s.ballot) s.accepts.items) ≡ prepares_first n m (Some s)
prepares_then n m s = flat_map-append (packets_of n m) (map (prepare_send s.ballot) s.prepares.items) (map (accept_send s.ballot) s.accepts.items)
    ∙ ap₂ (λ xs ys. xs ++ ys) (all_prepares n m s.ballot s.prepares.items) (all_accepts n m s.ballot s.accepts.items)

pub accepts_then : (n m : ℕ) (s : Sends) → all_packets n m (map (accept_send s.ballot) s.accepts.items ++ map (prepare_send s.ballot) s.prepares.items) ≡ accepts_first n m (Some s)
accepts_then n m s = flat_map-append (packets_of n m) (map (accept_send s.ballot) s.accepts.items) (map (prepare_send s.ballot) s.prepares.items)
    ∙ ap₂ (λ xs ys. xs ++ ys) (all_accepts n m s.ballot s.accepts.items) (all_prepares n m s.ballot s.prepares.items)
