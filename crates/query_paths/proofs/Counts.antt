-- How many of the nodes of a listing are in a list.
use Rattle.std.proofs.Common.{◌≡◌, ℕ, ◌+◌, ◌≤◌, eqb, cond, Bool, true, false, ◌||◌, List, [], ◌∷◌, length, filter, refl, arith}
use Rattle.data_model.specs.Axes.{is_in}
use Rattle.data_model.specs.Walks.{held}
use Rattle.data_model.proofs.Firsts.{eqb-swap}

either_filter : (a b : ℕ → Bool) (xs : List ℕ) → length (filter (λ i. a i || b i) xs) ≤ length (filter a xs) + length (filter b xs)
either_filter a b [] = omega arith
either_filter a b (x ∷ xs) = step (a x) (b x) (filter (λ i. a i || b i) xs) (filter a xs) (filter b xs) (either_filter a b xs)
  where
    step : (p q : Bool) (us vs ws : List ℕ) → length us ≤ length vs + length ws → length (cond (p || q) (x ∷ us) us) ≤ length (cond p (x ∷ vs) vs) + length (cond q (x ∷ ws) ws)
    step true true us vs ws h = omega (arith, h)
    step true false us vs ws h = omega (arith, h)
    step false true us vs ws h = omega (arith, h)
    step false false us vs ws h = h

none_pass : (xs : List ℕ) → length (filter (λ i. false) xs) ≤ 0
none_pass [] = omega arith
none_pass (x ∷ xs) = none_pass xs

same_pass : (j : ℕ) (xs : List ℕ) → length (filter (λ i. eqb i j) xs) ≤ held j xs
same_pass j [] = omega arith
same_pass j (x ∷ xs) = step (eqb x j) (eqb j x) (filter (λ i. eqb i j) xs) (held j xs) (eqb-swap x j (eqb x j) refl) (same_pass j xs)
  where
    step : (p q : Bool) (us : List ℕ) (n : ℕ) → q ≡ p → length us ≤ n → length (cond p (x ∷ us) us) ≤ cond q 1 0 + n
    step true true us n e h = omega (arith, h)
    step true false us n e h = absurd (let f : ⊥ = cc in f)
    step false true us n e h = absurd (let f : ⊥ = cc in f)
    step false false us n e h = omega (arith, h)

-- of distinct ones no more are in a list than it has
pub members : (is xs : List ℕ) → ((i : ℕ) → held i xs ≤ 1) → length (filter (λ i. is_in i is) xs) ≤ length is
members [] xs once = none_pass xs
members (j ∷ js) xs once =
    let first = either_filter (λ i. eqb i j) (λ i. is_in i js) xs in let one = same_pass j xs in let all = once j in let more = members js xs once in
    omega (arith, first, one, all, more)
