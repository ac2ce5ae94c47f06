-- The number that digits spell, read digit by digit.
use Rattle.std.proofs.Common.{◌≡◌, ℕ, suc, ◌+◌, ◌*◌, ◌-◌, ◌/◌, ◌≤◌, ◌<◌, List, [], ◌∷◌, length, drop, get_or, fold, sym, ap, ◌∙◌, arith}
use Rattle.std.proofs.Math.Seq.{drop-cons}

-- further digits make it no smaller
pub fold_at_least : (n : ℕ) (ds : List ℕ) → n ≤ fold (λ n d. 10 * n + (d - 48)) n ds
fold_at_least n [] = omega arith
fold_at_least n (d ∷ ds) = omega (arith, fold_at_least (10 * n + (d - 48)) ds)

-- one digit more passes the limit, and so does the whole number
pub too_large : (n i : ℕ) (ds : List ℕ) (d total : ℕ) → i < length ds → d ≡ get_or ds i d → (9223372036854775807 - (d - 48)) / 10 < n → fold (λ n d. 10 * n + (d - 48)) n (drop i ds) ≡ total → 9223372036854775807 < total
too_large n i ds d total below here large e =
    let split : drop i ds ≡ d ∷ drop (suc i) ds = drop-cons ds i d below ∙ ap (λ x. x ∷ drop (suc i) ds) (sym here) in
    let f : ℕ → ℕ → ℕ = λ n d. 10 * n + (d - 48) in
    let g : fold f (10 * n + (d - 48)) (drop (suc i) ds) ≡ total = ap (fold f n) (sym split) ∙ e in
    omega (arith, g, fold_at_least (10 * n + (d - 48)) (drop (suc i) ds))
