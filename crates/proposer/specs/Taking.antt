-- What a leader has once it took in what a message told.
use Rattle.std.specs.Prelude.{◌≡◌, ◌≤◌, ◌+◌, ◌&&◌, ℕ, suc, nat_lt, if◌then◌else◌, List, [], ◌∷◌, ◌++◌, length}
use Rattle.ballots.specs.declared.value.Pair.{Pair}
use Rattle.ballots.specs.declared.value.Entry.{Entry}
use Rattle.ballots.specs.Values.{positions, IsRising, most_open}
use Rattle.position_map.specs.Slots.{filled}
use Rattle.paxos.specs.Proposing.{still_open}
use Rattle.proposer.specs.declared.draft.News.{News}
use Rattle.proposer.specs.declared.sends.Asked.{Asked}
use Rattle.proposer.specs.declared.sends.Sends.{Sends}
use Rattle.proposer.specs.Beginning.{is_in}
use Rattle.proposer.specs.Merging.{HaveRoom, HavePlaces, with_learnt, with_reports}
use Rattle.proposer.specs.Terms.{Leading, cover_of, report_of, is_learnt_of}
use Rattle.proposer.specs.Views.{View, AreRising, cover_in, report_in_view, is_learnt_in}

-- what it knows then
abbrev pub view_of : Leading → News → View
view_of l news = record { lead = l; member = news.member; covered = news.covered; entries = news.entries.items; learnt = news.learnt.items }

-- the proposals that are still open then
abbrev pub left_open : Leading → News → List Pair
left_open l news = still_open (λ p. is_in p news.learnt.items) l.proposals

-- There is room for it, and its numbers are as they must be.
pub record CanTake (l : Leading) (news : News) : Type 0 where
  pub entries : AreRising 1 news.entries.items
  pub learnt : IsRising 1 news.learnt.items
  pub room : HaveRoom news.entries.items l.reports
  pub places : HavePlaces news.learnt.items l.learnt
  pub member : news.member ≤ length l.covers
  pub next : 1 ≤ news.made.next
  pub most : length (left_open l news) + length news.made.proposals.items ≤ most_open

-- it took it in, closed proposals and went on to what proposing came to
pub record HasTaken (old : Leading) (news : News) (new : Leading) : Type 0 where
  pub ballot_is : new.ballot ≡ old.ballot
  pub base_is : new.base ≡ old.base
  pub next_is : new.next ≡ news.made.next
  pub proposals_are : new.proposals ≡ left_open old news ++ news.made.proposals.items
  pub many : length new.covers ≡ length old.covers
  pub covers_are : (m : ℕ) → 1 ≤ m → cover_of new m ≡ cover_in (view_of old news) m
  pub reports_are : (p : ℕ) → report_of new p ≡ report_in_view (view_of old news) p
  pub learnt_are : (p : ℕ) → is_learnt_of new p ≡ is_learnt_in (view_of old news) p

-- this is what the message told
pub record Tells (member covered : ℕ) (entries : List Entry) (learnt : List ℕ) (news : News) : Type 0 where
  pub member_is : news.member ≡ member
  pub covered_is : news.covered ≡ covered
  pub entries_are : news.entries.items ≡ entries
  pub learnt_are : news.learnt.items ≡ learnt

-- nothing but room changed
pub record IsAsWas (old new : Leading) : Type 0 where
  pub same : new ≡ with_learnt new.learnt (with_reports new.reports old)
  pub reports : filled new.reports ≡ filled old.reports
  pub learnt : filled new.learnt ≡ filled old.learnt

-- a member that promised is asked for the next position on, if it isn't covered to the end
abbrev pub asked_on : News → List Asked
asked_on news = if nat_lt 0 news.member && nat_lt news.covered positions then record { member = news.member; from = suc news.covered } ∷ [] else []

-- what it sends then
pub record IsSaid (l : Leading) (news : News) (s : Sends) : Type 0 where
  pub ballot_is : s.ballot ≡ l.ballot
  pub prepares_are : s.prepares.items ≡ asked_on news
  pub accepts_are : s.accepts.items ≡ news.made.proposals.items
