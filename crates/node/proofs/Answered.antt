-- Which answers are kept.
use Rattle.std.proofs.Common.{◌≡◌, ◌<◌, ◌⊎◌, ℕ, zero, suc, Bool, true, false, arith, sym, subst, List, [], ◌∷◌, ◌++◌, length, inl, inr, ⊎_elim, slice_index_or, if◌then◌else◌}
use Rattle.paxos.proofs.Lists.{has_cases}
use Rattle.paxos.specs.Lists.{Has}

-- what a list has that something was put behind, or was not
pub pushed_has : {A : Type 0} (b : Bool) (xs ys : List A) (x k : A) → ys ≡ (if b then xs ++ x ∷ [] else xs) → Has ys k → Has xs k ⊎ (k ≡ x)
pushed_has b xs ys x k is has = by_case b (subst (λ zs. Has zs k) is has)
  where
    last : Has (x ∷ []) k → k ≡ x
    last h = ⊎_elim (λ (e : x ≡ k). sym e) (λ (f : ⊥). absurd f) h

    by_case : (b : Bool) → Has (if b then xs ++ x ∷ [] else xs) k → Has xs k ⊎ (k ≡ x)
    by_case true h = ⊎_elim (λ (l : Has xs k). inl l) (λ (r : Has (x ∷ []) k). inr (last r)) (has_cases xs (x ∷ []) k h)
    by_case false h = inl h

-- the element at an index is one of the list
pub has_index : {A : Type 0} (xs : List A) (i : ℕ) (x : A) → i < length xs → x ≡ slice_index_or xs i x → Has xs x
has_index [] i x h is = absurd (omega (arith, h))
has_index (y ∷ ys) zero x h is = inl (sym is)
has_index (y ∷ ys) (suc i) x h is = inr (has_index ys i x (omega (arith, h)) is)
