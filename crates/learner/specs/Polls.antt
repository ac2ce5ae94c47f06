-- The votes heard at each position that is not learnt, with the members that were heard to have accepted each.
use Rattle.std.specs.Prelude.{◌≡◌, ◌≢◌, ℕ, ◌-◌, ◌^◌, ◌≤◌, ◌⊎◌, Bool, true, false, not, ◌&&◌, ◌||◌, ◌==◌, if◌then◌else◌, List, [], ◌∷◌, ◌++◌, map, length}
use Rattle.std.specs.List.{filter, list_any}
use Rattle.std.specs.Int.RustNames.{bit_or}
use Rattle.ballots.specs.Ballot.{has_member}
use Rattle.ballots.specs.Values.{same_vote}
use Rattle.ballots.specs.declared.value.Vote.{Vote}
use Rattle.learner.specs.declared.poll.Voters.{Voters}
use Rattle.paxos.specs.Lists.{Has}
use Rattle.learner.specs.Terms.{Tally, open_in}
use Rattle.learner.specs.Hearing.{AreDistinct, is_of, is_tallied}
use Rattle.learner.specs.Slots.{Rise}

-- the mask with a member's bit
abbrev pub mask_with : (mask : ℕ) → (member : ℕ) → ℕ
mask_with mask m = bit_or mask (2 ^ (m - 1))

-- the mask of those that accepted the vote
abbrev pub mask_in : Vote → List Voters → ℕ
mask_in vote [] = 0
mask_in vote (x ∷ xs) = if same_vote vote x.vote then x.mask else mask_in vote xs

-- the votes with one more acceptance
abbrev pub with_voter : (member : ℕ) → Vote → List Voters → List Voters
with_voter m vote [] = record { vote = vote; mask = mask_with 0 m } ∷ []
with_voter m vote (x ∷ xs) =
    if same_vote vote x.vote then record { vote = x.vote; mask = mask_with x.mask m } ∷ xs else x ∷ with_voter m vote xs

-- the member accepted the vote
abbrev pub is_voter : Vote → (member : ℕ) → Voters → Bool
is_voter vote m x = same_vote vote x.vote && has_member x.mask m

-- no vote is there twice
abbrev pub AreDifferent : List Voters → Type 0
AreDifferent [] = Unit {0}
AreDifferent (x ∷ xs) = (list_any (λ (y : Voters). same_vote x.vote y.vote) xs ≡ false) × AreDifferent xs

-- positions, each with its votes
abbrev pub Polls : Type 0
Polls = List (ℕ × List Voters)

-- the votes at a position
abbrev pub poll_at : (position : ℕ) → Polls → List Voters
poll_at p [] = []
poll_at p (e ∷ es) = if p == e.0 then e.1 else poll_at p es

-- a vote's tally
abbrev pub tally_of : (position : ℕ) → Voters → Tally
tally_of p x = record { position = p; vote = x.vote; mask = x.mask }

-- all tallies
abbrev pub tallies_of : Polls → List Tally
tallies_of [] = []
tallies_of (e ∷ es) = map (tally_of e.0) e.1 ++ tallies_of es

-- somebody accepted the vote
abbrev pub is_heard : Voters → Bool
is_heard x = not (x.mask == 0)

-- how many votes somebody accepted
abbrev pub heard_in : List Voters → ℕ
heard_in xs = length (filter is_heard xs)

-- the vote is there, perhaps as room
abbrev pub has_vote : Vote → List Voters → Bool
has_vote vote xs = list_any (λ (x : Voters). same_vote vote x.vote) xs

-- the votes with room for one, if it was not there
abbrev pub with_room : Vote → List Voters → List Voters
with_room vote xs = if has_vote vote xs then xs else xs ++ record { vote = vote; mask = 0 } ∷ []

-- the entries' keys rise, no vote is twice at a position; there are so many in all, and so many that somebody accepted
pub record IsCounted (votes heard : ℕ) (es : Polls) : Type 0 where
  pub rise : Rise 0 es
  pub different : (p : ℕ) → AreDifferent (poll_at p es)
  pub count : votes ≡ length (tallies_of es)
  pub open_count : heard ≡ length (open_in (tallies_of es))

-- a tally of the vote stands at the position, perhaps as room
abbrev pub HasTally : (position : ℕ) → Vote → List Tally → Type 0
HasTally p vote ts = list_any (is_of p vote) ts ≡ true

-- a member's acceptance was added, and nothing else
pub record IsAdded (k p : ℕ) (vote : Vote) (ts us : List Tally) : Type 0 where
  pub tallied : (q : ℕ) (v : Vote) (m : ℕ) → 1 ≤ m → is_tallied us q v m ≡ ((k == m && (q == p && same_vote v vote)) || is_tallied ts q v m)
  pub from : (t : Tally) → Has us t → Has ts t ⊎ ((t.position ≡ p) × (t.mask ≢ 0))
  pub distinct : AreDistinct us

-- a position's tallies were taken away, and nothing else
pub record IsForgotten (p : ℕ) (ts us : List Tally) : Type 0 where
  pub tallied : (q : ℕ) (v : Vote) (m : ℕ) → q ≢ p → is_tallied us q v m ≡ is_tallied ts q v m
  pub from : (t : Tally) → Has us t → Has ts t × (t.position ≢ p)
  pub distinct : AreDistinct us
