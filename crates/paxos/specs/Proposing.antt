-- What a leader proposes: section 3 of "Paxos Made Simple", with at most 16 proposals open at once (our own choice).
-- It knows how far each member's windows cover, the highest vote reported at each position, and which positions are learnt.
use Rattle.std.specs.Prelude.{◌≡◌, ◌<◌, ◌≤◌, ◌⊎◌, true, ℕ, zero, suc, ◌+◌, ◌-◌, Bool, false, not, ◌&&◌, ◌||◌, nat_lt, nat_le, if◌then◌else◌, List, [], ◌∷◌, ◌++◌, length, filter, Option, Some, None, is_none, is_some, IsSome}
use Rattle.std.specs.List.{list_any}
use Rattle.paxos.specs.Lists.{Has}
use Rattle.ballots.specs.Terms.{Request}
use Rattle.ballots.specs.Ballot.{IsMajority, is_majority}
use Rattle.ballots.specs.Values.{is_numbered, positions, most_open}
use Rattle.ballots.specs.declared.value.Value.{Value}
use Rattle.ballots.specs.declared.value.Value.TheVariants.{NoOp}
use Rattle.ballots.specs.declared.value.Vote.{Vote}
use Rattle.ballots.specs.declared.value.Pair.{Pair}

-- the next position to propose at, the open proposals, and those made in this step, both by rising position
pub record Turn : Type 0 where
  pub next : ℕ
  pub proposals : List Pair
  pub made : List Pair

-- past a position that is learnt
abbrev pub passes : Turn → Turn
passes t = record { next = suc t.next; proposals = t.proposals; made = t.made }

-- a proposal at the next position
abbrev pub proposes : Value → Turn → Turn
proposes value t = record {
  next = suc t.next;
  proposals = t.proposals ++ record { position = t.next; value = value } ∷ [];
  made = t.made ++ record { position = t.next; value = value } ∷ [];
}

-- a proposal is closed once its position is learnt
abbrev pub still_open : (is_learnt : ℕ → Bool) → List Pair → List Pair
still_open is_learnt proposals = filter (λ (e : Pair). not (is_learnt e.position)) proposals

-- a request of the same client and number is open
abbrev pub has_open : Request → List Pair → Bool
has_open q proposals = list_any (λ (e : Pair). is_numbered q e.value) proposals

-- a majority's windows cover the position
abbrev pub is_covered : (members : ℕ) → (cover : ℕ → ℕ) → (position : ℕ) → Bool
is_covered n cover p = is_majority n (λ m. nat_le p (cover m))

-- fewer than 16 proposals are open, and a majority covers the next position
abbrev pub has_place : (members : ℕ) → (cover : ℕ → ℕ) → Turn → Bool
has_place n cover t = nat_lt (length t.proposals) most_open && (nat_le t.next positions && is_covered n cover t.next)

-- a vote is reported, or a value learnt, at one of the k positions after p
abbrev pub lies_after : (report : ℕ → Option Vote) → (is_learnt : ℕ → Bool) → (p : ℕ) → (k : ℕ) → Bool
lies_after report is_learnt p zero = false
lies_after report is_learnt p (suc k) = is_learnt (p + suc k) || (is_some (report (p + suc k)) || lies_after report is_learnt p k)

-- a vote is reported, or a value learnt, at a position above this one
unfoldable pub lies_above : (report : ℕ → Option Vote) → (is_learnt : ℕ → Bool) → (position : ℕ) → Bool
lies_above report is_learnt p = lies_after report is_learnt p (positions - p)

-- at a position with a report, its value; below a report or a learnt position, the no-op; otherwise none
abbrev pub proposal : (report : ℕ → Option Vote) → (is_learnt : ℕ → Bool) → Turn → Option Vote → Option Turn
proposal report is_learnt t (Some vote) = Some (proposes vote.value t)
proposal report is_learnt t None = if lies_above report is_learnt t.next then Some (proposes NoOp t) else None

-- proposing goes on by one position, or stops
abbrev pub turn : (members : ℕ) → (cover : ℕ → ℕ) → (report : ℕ → Option Vote) → (is_learnt : ℕ → Bool) → Turn → Option Turn
turn n cover report is_learnt t =
    if has_place n cover t
    then (if is_learnt t.next then Some (passes t) else proposal report is_learnt t (report t.next))
    else None

-- proposing goes on until it stops, by at most k positions (by cases, so that no more of them are tried)
abbrev pub turns : (members : ℕ) → (cover : ℕ → ℕ) → (report : ℕ → Option Vote) → (is_learnt : ℕ → Bool) → (k : ℕ) → Turn → Turn
turns n cover report is_learnt zero t = t
turns n cover report is_learnt (suc k) t = elim (turn n cover report is_learnt t) as (λ o. Turn) [ None ↦ t | Some t' ↦ turns n cover report is_learnt k t' ]

-- a place for a request: proposing has stopped, at a position where there is place
abbrev pub has_free_place : (members : ℕ) → (cover : ℕ → ℕ) → (report : ℕ → Option Vote) → (is_learnt : ℕ → Bool) → Turn → Bool
has_free_place n cover report is_learnt t = has_place n cover t && is_none (turn n cover report is_learnt t)

-- a vote is reported, or a value learnt, above the position
pub record LiesAbove (report : ℕ → Option Vote) (is_learnt : ℕ → Bool) (position : ℕ) : Type 0 where
  pub at : ℕ
  pub above : position < at
  pub known : IsSome (report at) ⊎ (is_learnt at ≡ true)

-- Why a value is proposed: a majority covers its position, where nothing is learnt; it is the reported value, or the no-op below
-- a report or a learnt position.
pub record IsProposed (members : ℕ) (cover : ℕ → ℕ) (report : ℕ → Option Vote) (is_learnt : ℕ → Bool) (pair : Pair) : Type 0 where
  pub majority : IsMajority members (λ m. nat_le pair.position (cover m))
  pub unlearnt : is_learnt pair.position ≡ false
  pub reported : (vote : Vote) → report pair.position ≡ Some vote → pair.value ≡ vote.value
  pub unreported : report pair.position ≡ None → (pair.value ≡ NoOp) × LiesAbove report is_learnt pair.position

-- Why proposing stops: 16 proposals are open, positions are spent, no majority covers the next one, or nothing is reported or
-- learnt there or above.
pub data HasStopped (members : ℕ) (cover : ℕ → ℕ) (report : ℕ → Option Vote) (is_learnt : ℕ → Bool) (t : Turn) : Type 0 where
  Full : (most_open ≤ length t.proposals) → HasStopped members cover report is_learnt t
  Spent : (positions < t.next) → HasStopped members cover report is_learnt t
  Uncovered : (¬ IsMajority members (λ m. nat_le t.next (cover m))) → HasStopped members cover report is_learnt t
  NothingAbove : ((p : ℕ) → t.next ≤ p → p ≤ positions → (report p ≡ None) × (is_learnt p ≡ false)) → HasStopped members cover report is_learnt t

-- Proposing went on from one turn to another, and stopped: each value proposed has its reason and is open, at most 16 are, and the
-- next position passed others only by a proposal there or where they are learnt.
pub record WentOn (members : ℕ) (cover : ℕ → ℕ) (report : ℕ → Option Vote) (is_learnt : ℕ → Bool) (before end : Turn) : Type 0 where
  pub reasons : (pair : Pair) → Has end.made pair → IsProposed members cover report is_learnt pair
  pub opens : end.proposals ≡ before.proposals ++ end.made
  pub most : length before.proposals ≤ most_open → length end.proposals ≤ most_open
  pub on : before.next ≤ end.next
  pub passes : (p : ℕ) → before.next ≤ p → p < end.next → (is_learnt p ≡ true) ⊎ ((value : Value) × Has end.made (record { position = p; value = value }))
  pub stopped : HasStopped members cover report is_learnt end
