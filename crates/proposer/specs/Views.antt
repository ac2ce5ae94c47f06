-- What a leader knows once it takes in one more message.
use Rattle.std.specs.Prelude.{◌≡◌, ◌<◌, ◌≤◌, ◌+◌, ◌⊎◌, ℕ, Bool, true, false, ◌||◌, ◌==◌, if◌then◌else◌, List, [], ◌∷◌, Option, None, IsSome}
use Rattle.ballots.specs.Values.{positions, IsRising}
use Rattle.ballots.specs.declared.value.Entry.{Entry}
use Rattle.ballots.specs.declared.value.Vote.{Vote}
use Rattle.paxos.specs.Knowledge.{higher}
use Rattle.paxos.specs.Records.{vote_at}
use Rattle.proposer.specs.Beginning.{is_in}
use Rattle.proposer.specs.Terms.{Leading, cover_of, report_of, is_learnt_of}

-- what was known; the member that promises (0 where none does), how far it covers then, and what it reports; what is newly learnt
pub record View : Type 0 where
  pub lead : Leading
  pub member : ℕ
  pub covered : ℕ
  pub entries : List Entry
  pub learnt : List ℕ

-- entries rise from a position on, and are at most at the last that there is
abbrev pub AreRising : (least : ℕ) → List Entry → Type 0
AreRising least [] = Unit {0}
AreRising least (e ∷ es) = (least ≤ e.position) × (e.position ≤ positions) × AreRising (e.position + 1) es

-- the message's positions are as they must be
abbrev pub IsView : List Entry → List ℕ → Type 0
IsView entries learnt = AreRising 1 entries × IsRising 1 learnt

-- how far a member covers
abbrev pub cover_in : View → (member : ℕ) → ℕ
cover_in v m = if m == v.member then v.covered else cover_of v.lead m

-- the highest vote reported at a position
abbrev pub report_in_view : View → (position : ℕ) → Option Vote
report_in_view v p = higher (report_of v.lead p) (vote_at p v.entries)

-- a position is learnt
abbrev pub is_learnt_in : View → (position : ℕ) → Bool
is_learnt_in v p = is_learnt_of v.lead p || is_in p v.learnt

-- the last position that has a report or is learnt, 0 where there is none
pub record IsLastIn (v : View) (last : ℕ) : Type 0 where
  pub above : (p : ℕ) → last < p → (report_in_view v p ≡ None) × (is_learnt_in v p ≡ false)
  pub there : 0 < last → IsSome (report_in_view v last) ⊎ (is_learnt_in v last ≡ true)
  pub most : last ≤ positions
