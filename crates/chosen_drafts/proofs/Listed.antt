-- Lists of identities, and what is summed over them.
use Rattle.std.proofs.Common.{◌≡◌, ℕ, ◌+◌, ◌<◌, true, cond, eqb, List, [], ◌∷◌, length, refl, arith, ⊎_elim}
use Rattle.std.proofs.lemmas.Bool.Decides.{eqb_tells}
use Rattle.std.proofs.lemmas.List.Sums.{sum_by-cons}
use Rattle.std.specs.List.{sum_by}
use Rattle.pending.specs.Compatible.{is_among}

-- how often the number i stands in the list
abbrev pub times : ℕ → List ℕ → ℕ
times i is = sum_by (λ j. cond (eqb i j) 1 0) is

-- whether the numbers are one, as a number
abbrev one_if : ℕ → ℕ → ℕ
one_if i j = cond (eqb i j) 1 0

times-more : (i j : ℕ) (is : List ℕ) → times i (j ∷ is) ≡ one_if i j + times i is
times-more i j is = sum_by-cons (λ k. cond (eqb i k) 1 0) j is

pub listed : (is : List ℕ) (i : ℕ) → 0 < times i is → is_among is i ≡ true
listed [] i h = absurd (omega arith)
listed (j ∷ is) i h =
    ⊎_elim (λ t. rw t.0 refl)
    (λ t. (let none : one_if i j ≡ 0 = rw t.0 refl in
    let more = listed is i (omega (arith, times-more i j is, none, h)) in
    rw t.0 more)) (eqb_tells i j)

pub listed-counts : (is : List ℕ) (i : ℕ) → is_among is i ≡ true → 0 < times i is
listed-counts [] i h = cc
listed-counts (j ∷ is) i h =
    ⊎_elim (λ t. (let one : one_if i j ≡ 1 = rw t.0 refl in omega (arith, times-more i j is, one)))
    (λ t. (let there : is_among is i ≡ true = rw t.0 at h in
    let more = listed-counts is i there in
    omega (arith, times-more i j is, more))) (eqb_tells i j)

pub listed-length : (is : List ℕ) → sum_by (λ (j : ℕ). 1) is ≡ length is
listed-length [] = refl
listed-length (j ∷ is) = omega (arith, sum_by-cons (λ (k : ℕ). 1) j is, listed-length is)
