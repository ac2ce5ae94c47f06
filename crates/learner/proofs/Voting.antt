-- The votes at one position.
use Rattle.std.proofs.Common.{◌≡◌, ℕ, zero, suc, ◌<◌, ◌≤◌, true, false, arith, refl, sym, ap, ◌∙◌, List, [], ◌∷◌, length, get_or, set}
use Rattle.std.specs.Prelude.{nat_eq}
use Rattle.std.specs.Cmp.Lexicographic.{pointwise}
use Rattle.std.proofs.lemmas.Bool.{eq-eqb}
use Rattle.ballots.specs.Values.{same_value, same_vote}
use Rattle.ballots.specs.declared.value.Value.{Value}
use Rattle.ballots.specs.declared.value.Value.TheVariants.{NoOp, Request as Of}
use Rattle.ballots.specs.declared.value.Vote.{Vote}
use Rattle.learner.specs.declared.poll.Voters.{Voters}
use Rattle.learner.specs.Polls.{has_vote, mask_in, mask_with, with_voter}

-- none of the first i is this vote
abbrev pub IsNotAmong : Vote → List Voters → (i : ℕ) → Type 0
IsNotAmong vote xs i = (k : ℕ) (d : Voters) → k < i → same_vote vote (get_or xs k d).vote ≡ false

-- what holds of the first i + 1 of a list holds of the first i of the rest
pub rest_not_among : (vote : Vote) (x : Voters) (xs : List Voters) (i : ℕ) → IsNotAmong vote (x ∷ xs) (suc i) → IsNotAmong vote xs i
rest_not_among vote x xs i h = λ k d l. h (suc k) d (omega arith)

-- the mask of the first with this vote
pub mask_found : (vote : Vote) (xs : List Voters) (i : ℕ) (x : Voters) → IsNotAmong vote xs i → i < length xs → x ≡ get_or xs i x → same_vote vote x.vote ≡ true → x.mask ≡ mask_in vote xs
mask_found vote [] i x h l e s = absurd (omega arith)
mask_found vote (y ∷ xs) zero x h l e s =
    let f : same_vote vote y.vote ≡ true = ap (λ (z : Voters). same_vote vote z.vote) (sym e) ∙ s in
    rw f (ap (λ (z : Voters). z.mask) e)
mask_found vote (y ∷ xs) (suc i) x h l e s = rw (h 0 y (omega arith)) (mask_found vote xs i x (rest_not_among vote y xs i h) (omega arith) e s)

-- without the vote there is none
pub mask_absent : (vote : Vote) (xs : List Voters) (i : ℕ) → IsNotAmong vote xs i → length xs ≤ i → 0 ≡ mask_in vote xs
mask_absent vote [] i h l = refl
mask_absent vote (x ∷ xs) zero h l = absurd (omega arith)
mask_absent vote (x ∷ xs) (suc i) h l = rw (h 0 x (omega arith)) (mask_absent vote xs i (rest_not_among vote x xs i h) (omega arith))

-- the member is added to the first with this vote
pub voter_found : (m k : ℕ) (vote : Vote) (xs : List Voters) (i : ℕ) (d : Voters) → IsNotAmong vote xs i → i < length xs → same_vote vote (get_or xs i d).vote ≡ true → k ≡ mask_with (get_or xs i d).mask m → set xs i (record { vote = (get_or xs i d).vote; mask = k }) ≡ with_voter m vote xs
voter_found m k vote [] i d h l s q = absurd (omega arith)
voter_found m k vote (y ∷ xs) zero d h l s q = rw s (ap (λ (n : ℕ). record { vote = y.vote; mask = n } ∷ xs) q)
voter_found m k vote (y ∷ xs) (suc i) d h l s q = rw (h 0 y (omega arith)) (ap (λ (ys : List Voters). y ∷ ys) (voter_found m k vote xs i d (rest_not_among vote y xs i h) (omega arith) s q))

-- the first with this vote is there
pub has_found : (vote : Vote) (xs : List Voters) (i : ℕ) (x : Voters) → IsNotAmong vote xs i → i < length xs → x ≡ get_or xs i x → same_vote vote x.vote ≡ true → true ≡ has_vote vote xs
has_found vote [] i x h l e s = absurd (omega arith)
has_found vote (y ∷ xs) zero x h l e s =
    let f : same_vote vote y.vote ≡ true = ap (λ (z : Voters). same_vote vote z.vote) (sym e) ∙ s in
    rw f refl
has_found vote (y ∷ xs) (suc i) x h l e s = rw (h 0 y (omega arith)) (has_found vote xs i x (rest_not_among vote y xs i h) (omega arith) e s)

-- and otherwise it isn't
pub has_absent : (vote : Vote) (xs : List Voters) (i : ℕ) → IsNotAmong vote xs i → length xs ≤ i → false ≡ has_vote vote xs
has_absent vote [] i h l = refl
has_absent vote (x ∷ xs) zero h l = absurd (omega arith)
has_absent vote (x ∷ xs) (suc i) h l = rw (h 0 x (omega arith)) (has_absent vote xs i (rest_not_among vote x xs i h) (omega arith))

-- a text is the same as itself
text_same : (xs : List ℕ) → pointwise nat_eq xs xs ≡ true
text_same [] = refl
text_same (x ∷ xs) = rw (eq-eqb x x refl) (text_same xs)

-- a value is the same as itself
value_same : (v : Value) → same_value v v ≡ true
value_same NoOp = refl
value_same (Of q) = rw (eq-eqb q.client q.client refl, eq-eqb q.number q.number refl, eq-eqb q.level q.level refl) (text_same q.text)

-- a vote is the same as itself
pub vote_same : (v : Vote) → same_vote v v ≡ true
vote_same v = rw (eq-eqb v.ballot.round v.ballot.round refl, eq-eqb v.ballot.member v.ballot.member refl) (value_same v.value)
