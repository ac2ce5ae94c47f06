-- What a proposer is to its callers.
use Rattle.std.specs.Prelude.{ℕ, suc, Bool, false, if◌then◌else◌, List, [], ◌∷◌, ◌++◌, Option, Some, None, is_some, refl}
use Rattle.std.specs.Coded.{Coded, code_by, coded×, coded_ℕ, coded_list, coded_option}
use base.Stored.{coded_unit}
use Rattle.std.specs.Option.{unwrap_or}
use Rattle.ballots.specs.Ballot.{below}
use Rattle.ballots.specs.Terms.{Request}
use Rattle.ballots.specs.declared.ballot.Ballot.{Ballot}
use Rattle.ballots.specs.declared.value.Value.{Value}
use Rattle.ballots.specs.declared.value.Vote.{Vote}
use Rattle.ballots.specs.declared.value.Pair.{Pair}
use Rattle.ballots.specs.contracts.ballot.Ballot as ballot
use Rattle.ballots.specs.contracts.value.Vote as vote
use Rattle.ballots.specs.contracts.value.Pair as pair
use Rattle.position_map.specs.Slots.{Slot, filled, value_at}
use Rattle.paxos.specs.Knowledge.{pair_of}
use Rattle.paxos.specs.Lists.{at}
use Rattle.paxos.specs.Proposing.{Turn, has_open}

-- What a leader has: its ballot; the positions up to the base were learnt when it began; the next position to propose at; the open
-- proposals; how far each member's windows cover, member 1's first; the highest votes reported, and the positions learnt, by position
-- (or room for one). It knows nothing of the votes and the learnt positions below the next position, and needs nothing of them.
pub record Leading : Type 0 where
  pub ballot : Ballot
  pub base : ℕ
  pub next : ℕ
  pub proposals : List Pair
  pub covers : List ℕ
  pub reports : List (Slot Vote)
  pub learnt : List (Slot (Unit {0}))

-- how many members there are; which one it is; what it has while it leads
pub record Proposer : Type 0 where
  pub members : ℕ
  pub member : ℕ
  pub lead : Option Leading

-- how a proof tells them apart
abbrev pub leading_code : Coded Leading
leading_code =
    code_by (Ballot × (ℕ × (ℕ × (List Pair × (List ℕ × (List (Slot Vote) × List (Slot (Unit {0}))))))))
    (coded× ballot.the_row.coded (coded× coded_ℕ (coded× coded_ℕ (coded× (coded_list pair.the_row.coded) (coded× (coded_list coded_ℕ)
    (coded× (coded_list (coded× coded_ℕ (coded_option vote.the_row.coded))) (coded_list (coded× coded_ℕ (coded_option coded_unit)))))))))
    (λ l. (l.ballot, (l.base, (l.next, (l.proposals, (l.covers, (l.reports, l.learnt)))))))
    (λ p. record { ballot = p.0; base = p.1.0; next = p.1.1.0; proposals = p.1.1.1.0; covers = p.1.1.1.1.0; reports = p.1.1.1.1.1.0; learnt = p.1.1.1.1.1.1 })
    (λ _. refl)

abbrev pub proposer_code : Coded Proposer
proposer_code =
    code_by (ℕ × (ℕ × Option Leading)) (coded× coded_ℕ (coded× coded_ℕ (coded_option leading_code))) (λ x. (x.members, (x.member, x.lead))) (λ p. record { members = p.0; member = p.1.0; lead = p.1.1 }) (λ _. refl)

-- how far the member's windows cover
abbrev pub cover_of : Leading → (member : ℕ) → ℕ
cover_of l m = unwrap_or (at l.covers m) l.base

-- the highest vote reported at a position
abbrev pub report_of : Leading → (position : ℕ) → Option Vote
report_of l p = value_at p (filled l.reports)

-- the position is learnt
abbrev pub is_learnt_of : Leading → (position : ℕ) → Bool
is_learnt_of l p = is_some (value_at p (filled l.learnt))

-- where proposing begins
abbrev pub turn_of : Leading → Turn
turn_of l = record { next = l.next; proposals = l.proposals; made = [] }

-- a request of its client and number is among the open proposals
abbrev pub is_open : Request → Proposer → Bool
is_open q x = elim x.lead [ None ↦ false | Some l ↦ has_open q l.proposals ]

-- a leader of a lower ballot leads no more
abbrev pub yielded_lead : Ballot → Option Leading → Option Leading
yielded_lead b None = None
yielded_lead b (Some l) = if below l.ballot b then None else Some l

abbrev pub yielded : Ballot → Proposer → Proposer
yielded b x = record { members = x.members; member = x.member; lead = yielded_lead b x.lead }

-- the value is proposed at the next position
abbrev pub proposing : Value → Leading → Leading
proposing value l = record {
  ballot = l.ballot;
  base = l.base;
  next = suc l.next;
  proposals = l.proposals ++ pair_of l.next value ∷ [];
  covers = l.covers;
  reports = l.reports;
  learnt = l.learnt;
}
