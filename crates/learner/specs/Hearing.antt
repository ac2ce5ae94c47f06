-- When a learner is one that has heard some messages ("Paxos Made Simple", section 2.3); lists of what was heard have the newest first.
use Rattle.std.specs.Prelude.{◌≡◌, ◌≢◌, ◌<◌, ◌≤◌, ℕ, Bool, false, ◌&&◌, ◌==◌, List, [], ◌∷◌, map, None, IsSome}
use Rattle.std.specs.List.{list_any}
use Rattle.ballots.specs.Ballot.{has_member, most_members}
use Rattle.ballots.specs.Values.{same_vote}
use Rattle.ballots.specs.declared.value.Vote.{Vote}
use Rattle.ballots.specs.declared.value.Pair.{Pair}
use Rattle.paxos.specs.Lists.{Has}
use Rattle.paxos.specs.Knowledge.{Heard, accepted_by, value_at, learnt as learnt_at, newly}
use Rattle.learner.specs.Terms.{Learner, Tally, learnt_of, open_of}

-- a tally of that vote at that position
abbrev pub is_of : (position : ℕ) → Vote → Tally → Bool
is_of p vote t = p == t.position && same_vote vote t.vote

-- the member is in the tally
abbrev pub is_tallied_in : (position : ℕ) → Vote → (member : ℕ) → Tally → Bool
is_tallied_in p vote m t = is_of p vote t && has_member t.mask m

-- the member is tallied for the vote at the position
abbrev pub is_tallied : List Tally → (position : ℕ) → Vote → (member : ℕ) → Bool
is_tallied ts p vote m = list_any (is_tallied_in p vote m) ts

-- no vote has two tallies at a position
abbrev pub AreDistinct : List Tally → Type 0
AreDistinct [] = Unit {0}
AreDistinct (t ∷ ts) = (list_any (is_of t.position t.vote) ts ≡ false) × AreDistinct ts

-- all positions are above p, and rise
abbrev pub AreAbove : ℕ → List Pair → Type 0
AreAbove p [] = Unit {0}
AreAbove p (e ∷ es) = (p < e.position) × AreAbove e.position es

-- what a learner that heard this knows: the values learnt; of the other positions a tally for each vote heard there, and no others
pub record HasHeard (heard : List Heard) (l : Learner) : Type 0 where
  pub learnt : (p : ℕ) → value_at p (learnt_of l) ≡ learnt_at l.members p heard
  pub tallied : (p : ℕ) (vote : Vote) (m : ℕ) → 1 ≤ m → m ≤ most_members → learnt_at l.members p heard ≡ None → is_tallied (open_of l) p vote m ≡ accepted_by p vote heard m
  pub unlearnt : (t : Tally) → Has (open_of l) t → (learnt_at l.members t.position heard ≡ None) × (t.mask ≢ 0)
  pub distinct : AreDistinct (open_of l)

-- the positions of what the newest tells, and that was not learnt before
abbrev pub news_at : (members : ℕ) → (newest : Heard) → (older : List Heard) → List ℕ
news_at n h older = map (λ (e : Pair). e.position) (newly n h older)

-- the lowest position at or above p that has a value
pub record IsLowest (p : ℕ) (lowest : ℕ) (es : List Pair) : Type 0 where
  pub least : p ≤ lowest
  pub there : IsSome (value_at lowest es)
  pub none_before : (q : ℕ) → p ≤ q → q < lowest → value_at q es ≡ None
