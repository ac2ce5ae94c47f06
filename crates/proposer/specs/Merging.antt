-- What a promise and learnt positions change in what a leader knows.
use Rattle.std.specs.Prelude.{◌≡◌, ℕ, ◌||◌, is_some, ◌≤◌, ◌==◌, if◌then◌else◌, List, [], ◌∷◌, ◌++◌, length}
use Rattle.ballots.specs.declared.value.Entry.{Entry}
use Rattle.ballots.specs.declared.value.Pair.{Pair}
use Rattle.ballots.specs.declared.value.Vote.{Vote}
use Rattle.paxos.specs.Knowledge.{higher}
use Rattle.paxos.specs.Records.{vote_at}
use Rattle.position_map.specs.Slots.{Slot, filled, value_at, HasSlot}
use Rattle.proposer.specs.Beginning.{is_in}
use Rattle.proposer.specs.Inside.{IsWithin}
use Rattle.proposer.specs.Terms.{Leading, cover_of}

-- there is room for each entry
abbrev pub HaveRoom : List Entry → List (Slot Vote) → Type 0
HaveRoom [] ss = Unit {0}
HaveRoom (e ∷ es) ss = HasSlot e.position ss × HaveRoom es ss

-- there is room at each position
abbrev pub HavePlaces : List ℕ → List (Slot (Unit {0})) → Type 0
HavePlaces [] ss = Unit {0}
HavePlaces (p ∷ ps) ss = HasSlot p ss × HavePlaces ps ss

-- the leader with other reports
abbrev pub with_reports : List (Slot Vote) → Leading → Leading
with_reports ss l = record { ballot = l.ballot; base = l.base; next = l.next; proposals = l.proposals; covers = l.covers; reports = ss; learnt = l.learnt }

-- the leader with other learnt positions
abbrev pub with_learnt : List (Slot (Unit {0})) → Leading → Leading
with_learnt ss l = record { ballot = l.ballot; base = l.base; next = l.next; proposals = l.proposals; covers = l.covers; reports = l.reports; learnt = ss }

-- the entries' votes were taken in
pub record IsMerged (es : List Entry) (old new : List (Slot Vote)) : Type 0 where
  pub reports : (p : ℕ) → value_at p (filled new) ≡ higher (value_at p (filled old)) (vote_at p es)
  pub room : (p : ℕ) → HasSlot p old → HasSlot p new
  pub within : IsWithin old → IsWithin new

-- the positions were learnt
pub record IsLearning (ps : List ℕ) (old new : List (Slot (Unit {0}))) : Type 0 where
  pub learnt : (p : ℕ) → is_some (value_at p (filled new)) ≡ (is_some (value_at p (filled old)) || is_in p ps)
  pub room : (p : ℕ) → HasSlot p old → HasSlot p new
  pub within : IsWithin old → IsWithin new

-- the leader with other open proposals
abbrev pub with_proposals : List Pair → Leading → Leading
with_proposals ps l = record { ballot = l.ballot; base = l.base; next = l.next; proposals = ps; covers = l.covers; reports = l.reports; learnt = l.learnt }

-- the leader with another next position, and these proposals more
abbrev pub advanced : (next : ℕ) → List Pair → Leading → Leading
advanced next made l = record { ballot = l.ballot; base = l.base; next = next; proposals = l.proposals ++ made; covers = l.covers; reports = l.reports; learnt = l.learnt }

-- the leader with other covers
abbrev pub with_covers : List ℕ → Leading → Leading
with_covers cs l = record { ballot = l.ballot; base = l.base; next = l.next; proposals = l.proposals; covers = cs; reports = l.reports; learnt = l.learnt }

-- the member's windows cover this far, and nothing else changed
pub record IsCovering (member covered : ℕ) (old new : Leading) : Type 0 where
  pub same : new ≡ with_covers new.covers old
  pub covers : (m : ℕ) → 1 ≤ m → cover_of new m ≡ (if m == member then covered else cover_of old m)
  pub many : length new.covers ≡ length old.covers
