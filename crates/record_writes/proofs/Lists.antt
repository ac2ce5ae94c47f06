-- What a list has.
use Rattle.std.proofs.Common.{◌≡◌, inl, inr, ℕ, ◌<◌, suc, zero, List, [], ◌∷◌, length, sym, arith}
use Rattle.std.specs.Prelude.{slice_index_or}
use Rattle.std.specs.List.{Contains}
use Rattle.std.specs.List.Sorted.{IsPermutation}
use Rattle.std.proofs.lemmas.List.Sorted.{Contains-permutation}
use Rattle.sqlite_rules.specs.Lists.{Has}

has_contains : {X : Type 0} (xs : List X) (x : X) → Has xs x → Contains xs x
has_contains [] x none = absurd none
has_contains (y ∷ ys) x (inl is) = (0, omega arith, sym is)
has_contains (y ∷ ys) x (inr h) = let it = has_contains ys x h in let low = it.1 in (suc it.0, omega arith, it.2)

contains_has : {X : Type 0} (xs : List X) (x : X) (k : ℕ) → k < length xs → slice_index_or xs k x ≡ x → Has xs x
contains_has [] x k low is = absurd (omega (arith, low))
contains_has (y ∷ ys) x zero low is = inl (sym is)
contains_has (y ∷ ys) x (suc k) low is = inr (contains_has ys x k (omega (arith, low)) is)

pub has_moved : {X : Type 0} (xs ys : List X) (x : X) → IsPermutation xs ys → Has xs x → Has ys x
has_moved xs ys x h has = let it = Contains-permutation xs ys x h (has_contains xs x has) in contains_has ys x it.0 it.1 it.2
