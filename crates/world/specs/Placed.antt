-- Nodes that never did anything, at their seats.
use Rattle.std.specs.Prelude.{◌≡◌, ℕ, List, [], ◌∷◌, Some}
use Rattle.acceptor.specs.Drafts.{IsRefused}
use Rattle.records.specs.Law.{Fate}
use Rattle.ballots.specs.Terms.{Setup}
use Rattle.ballots.specs.declared.value.Value.{Value}
use Rattle.node.specs.Nodes.{Node, RunsAs}
use Rattle.records.specs.declared.records.RecordsFault.TheVariants.{Store}
use Rattle.paxos.specs.Lists.{at, Has}
use Rattle.paxos.specs.Records.{Record}
use Rattle.paxos.specs.World.{fresh, started}
use Rattle.world.specs.Seats.{IsSeat, fates_of, store_in}
use Rattle.world.specs.declared.seat.Seat.{Seat}

-- the node that was set up so is at this seat, and has started from records that nobody had written
pub record IsPlaced {R A : Type 0} (is_kept : R → Type 0) (has_applied : List (List ℕ) → List Value → A → Type 0) (t : Setup) (s : Seat R A) : Type 0 where
  pub seat : IsSeat t s
  pub node : Node R A
  pub there : s.node ≡ Some node
  pub unwritten : is_kept node.member.acceptor.records → node.member.acceptor.kept ≡ fresh.kept
  pub starts : is_kept node.member.acceptor.records → RunsAs has_applied started node

-- so each of them is at its own
abbrev pub ArePlaced : {R A : Type 0} → (is_kept : R → Type 0) → (has_applied : List (List ℕ) → List Value → A → Type 0) → (group members : ℕ) → (names : List (List ℕ)) → List (Seat R A) → Type 0
ArePlaced {R} {A} is_kept has_applied g n names seats = (m : ℕ) (s : Seat R A) → at seats m ≡ Some s → IsPlaced is_kept has_applied (record { group = g; member = m; members = n; names = names }) s

-- of the store at a seat the same is known as of the one that was given for it
abbrev pub IsOf : {R A : Type 0} → (fates : R → ℕ → Fate) → Seat R A → R → Type 0
IsOf fates s r = (k : ℕ) → fates_of fates (store_in s) k ≡ fates r k

-- so of each
abbrev pub AreOf : {R A : Type 0} → (fates : R → ℕ → Fate) → List (Seat R A) → List R → Type 0
AreOf fates [] [] = Unit {0}
AreOf fates (s ∷ ss) (r ∷ rs) = IsOf fates s r × AreOf fates ss rs
AreOf fates ss rs = ⊥

-- one of these stores has failed to give its record
abbrev pub OneRefused : {R : Type 0} → (stands : R → Record → Record → Type 0) → (is_kept : R → Type 0) → (failed : R → ℕ) → (fates : R → ℕ → Fate) → List R → Type 0
OneRefused {R} stands is_kept failed fates stores = (r : R) × (left : R) × Has stores r × IsRefused stands is_kept failed fates r left Store
