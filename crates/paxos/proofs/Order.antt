-- The order of ballots.
use Rattle.std.proofs.Common.{◌≡◌, ℕ, zero, suc, ◌<◌, ◌≤◌, true, false, arith, refl, eqb-true, ap₂, sym, ap}
use Rattle.std.proofs.lemmas.Grind.{common_steps}
use Rattle.std.proofs.lemmas.Bool.{or_cases, and_parts, or_parts, and_cases, false≢true}
use Rattle.std.specs.Cmp.Lexicographic.{same_text}
use Rattle.ballots.specs.Terms.{Request, same_request}
use Rattle.ballots.specs.Ballot.{below, same_ballot}
use Rattle.ballots.specs.declared.ballot.Ballot.{Ballot}
use Rattle.ballots.specs.Values.{same_value, same_vote}
use Rattle.ballots.specs.declared.value.Value.{Value}
use Rattle.ballots.specs.declared.value.Value.TheVariants.{NoOp, Request as Of}
use Rattle.ballots.specs.declared.value.Vote.{Vote}

-- the order as statements on numbers
pub record Under (a b : Ballot) : Type 0 where
  pub rounds : a.round ≤ b.round
  pub members : a.round ≡ b.round → a.member < b.member

-- not below, on numbers
pub record Over (a b : Ballot) : Type 0 where
  pub rounds : b.round ≤ a.round
  pub members : a.round ≡ b.round → b.member ≤ a.member

-- below, on numbers
pub under : (a b : Ballot) → below a b ≡ true → Under a b
under a b h = grind (arith, common_steps, or_cases, and_parts)

-- below, from numbers
pub from_under : (a b : Ballot) → Under a b → below a b ≡ true
from_under a b h = grind (arith, common_steps, or_cases, and_parts)

-- not below, on numbers
pub over : (a b : Ballot) → below a b ≡ false → Over a b
over a b h = grind (arith, common_steps, or_parts, and_cases)

-- not below, from numbers
pub from_over : (a b : Ballot) → Over a b → below a b ≡ false
from_over a b h = grind (arith, common_steps, or_parts, and_cases)

-- no ballot is below itself
pub below_self : (a : Ballot) → below a a ≡ false
below_self a = from_over a a (omega arith)

-- of two ballots only one is below the other
pub below_not : (a b : Ballot) → below a b ≡ true → below b a ≡ false
below_not a b h = let u = under a b h in from_over b a (omega arith)

-- a ≤ b ≤ c
pub most_trans : (a b c : Ballot) → below b a ≡ false → below c b ≡ false → below c a ≡ false
most_trans a b c h k = let u = over b a h in let v = over c b k in from_over c a (omega arith)

-- a < b ≤ c
pub below_most : (a b c : Ballot) → below a b ≡ true → below c b ≡ false → below a c ≡ true
below_most a b c h k = let u = under a b h in let v = over c b k in from_under a c (omega arith)

-- a ≤ b < c
pub most_below : (a b c : Ballot) → below b a ≡ false → below b c ≡ true → below a c ≡ true
most_below a b c h k = let u = over b a h in let v = under b c k in from_under a c (omega arith)

-- ballots of equal parts are equal
pub ballots_equal : (a b : Ballot) → a.round ≡ b.round → a.member ≡ b.member → a ≡ b
ballots_equal a b h k = ap₂ (λ (x y : ℕ). record { round = x; member = y }) h k

-- ballots neither of which is below the other are equal
pub most_antisym : (a b : Ballot) → below a b ≡ false → below b a ≡ false → a ≡ b
most_antisym a b h k = let u = over a b h in let v = over b a k in ballots_equal a b (omega arith) (omega arith)

-- the test of ballots tells
pub same_ballot_equal : (a b : Ballot) → same_ballot a b ≡ true → a ≡ b
same_ballot_equal a b h = let p = and_parts _ _ h in ballots_equal a b (eqb-true _ _ p.0) (eqb-true _ _ p.1)

-- requests of equal parts are equal
requests_equal : (a b : Request) → a.client ≡ b.client → a.number ≡ b.number → a.level ≡ b.level → a.text ≡ b.text → a ≡ b
requests_equal a b h k l q = λ i. record { client = h i; number = k i; level = l i; text = q i }

-- the test of requests tells
pub same_request_equal : (a b : Request) → same_request a b ≡ true → a ≡ b
same_request_equal a b h =
    let p = and_parts _ _ h in
    let q = and_parts _ _ p.0 in
    let r = and_parts _ _ p.1 in
    requests_equal a b (eqb-true _ _ q.0) (eqb-true _ _ q.1) (eqb-true _ _ r.0) (same_text a.text b.text (sym r.1))

-- the test of values tells
pub same_value_equal : (a b : Value) → same_value a b ≡ true → a ≡ b
same_value_equal NoOp NoOp h = refl
same_value_equal (Of a) (Of b) h = ap Of (same_request_equal a b h)
same_value_equal NoOp (Of b) h = absurd (false≢true h)
same_value_equal (Of a) NoOp h = absurd (false≢true h)

-- votes of equal parts are equal
votes_equal : (a b : Vote) → a.ballot ≡ b.ballot → a.value ≡ b.value → a ≡ b
votes_equal a b h k = ap₂ (λ (x : Ballot) (y : Value). record { ballot = x; value = y }) h k

-- the test of votes tells
pub same_vote_equal : (a b : Vote) → same_vote a b ≡ true → a ≡ b
same_vote_equal a b h = let p = and_parts _ _ h in votes_equal a b (same_ballot_equal _ _ p.0) (same_value_equal _ _ p.1)

-- what holds of a ballot if it holds of all below it holds of each
Upto : (Ballot → Type 0) → ℕ → ℕ → Type 0
Upto P r m = (b : Ballot) → (b.round ≤ r) → (b.round ≡ r → b.member < m) → P b

-- a round at most r that has no member below 0 is lower
lower_round : (x r y : ℕ) → x ≤ r → (x ≡ r → y < 0) → x < r
lower_round x r y h k = grind arith

-- one round, member by member
down : (P : Ballot → Type 0) → ((b : Ballot) → ((a : Ballot) → below a b ≡ true → P a) → P b) → (r m : ℕ) → ((b : Ballot) → b.round < r → P b) → Upto P r m
unfolding Upto
down P step r zero lower b h k = lower b (lower_round b.round r b.member h k)
down P step r (suc m) lower b h k = step b (λ a l. let u = under a b l in down P step r m lower a (omega arith) (λ e. omega arith))

-- all rounds, one after the other
rounds : (P : Ballot → Type 0) → ((b : Ballot) → ((a : Ballot) → below a b ≡ true → P a) → P b) → (r : ℕ) (b : Ballot) → b.round < r → P b
unfolding Upto
rounds P step zero b h = absurd (omega arith)
rounds P step (suc r) b h = down P step r (suc b.member) (rounds P step r) b (omega arith) (λ e. omega arith)

-- induction over ballots
pub by_ballot : (P : Ballot → Type 0) → ((b : Ballot) → ((a : Ballot) → below a b ≡ true → P a) → P b) → (b : Ballot) → P b
by_ballot P step b = rounds P step (suc b.round) b (omega arith)
