-- The steps that keep the rule.
use Rattle.std.proofs.Common.{◌≡◌, ◌≢◌, ℕ, List, [], ◌∷◌, ◌++◌, refl, sym, subst, ⊎_elim}
use mathlib.Core.List.{IsPrefix}
use mathlib.Core.Option.{some}
use lib.ListN.{get_elem?}
use Rattle.crossbeam_utils.specs.Register.{Admits, TurnsAt}
use Rattle.atomic_table.proofs.Lists.{at_set, at_snoc}
use Rattle.sight.proofs.Beginnings.{begins_itself, begins_through}
use Rattle.published.specs.Begun.{AllBegin}

module _ {V C : Type 0} (state : C → List V) where
  abbrev pub Rule : C → List (List V) → Type 0
  Rule x = AllBegin (state x)

  none : (all v : List V) → [] ≡ v → IsPrefix v all
  none all v e = subst (λ (z : List V). IsPrefix z all) e (all, refl)

  pub opens : (x : C) → Rule x ([] ∷ [])
  opens x seat v at = ⊎_elim (λ nobody. absurd (let e = nobody in cc)) (none (state x) v) (at_snoc [] [] v seat at)

  pub admits : Admits Rule []
  admits x views h seat v at = ⊎_elim (h seat v) (none (state x) v) (at_snoc views [] v seat at)

  -- a place looks at a list that goes on
  goes_on : (seat : ℕ) (v : List V) (x y : C) → IsPrefix (state x) (state y) → TurnsAt Rule seat v x y (λ v x y w. IsPrefix v (state y) × (w ≡ state y))
  goes_on seat v x y on views h at = (
    state y,
    (λ j u e. ⊎_elim (λ (t : (j ≡ seat) × (state y ≡ u)). subst (λ (z : List V). IsPrefix z (state y)) t.1 (begins_itself (state y))) (λ (t : (j ≢ seat) × (get_elem? views j ≡ some u)). begins_through u (state x) (state y) (h j u t.1) on)
        (at_set views seat j (state y) u e)),
    (begins_through v (state x) (state y) (h seat v at) on, refl),
  )

  pub looks : (seat : ℕ) (v : List V) (x : C) → TurnsAt Rule seat v x x (λ v x y w. IsPrefix v (state y) × (w ≡ state y))
  looks seat v x = goes_on seat v x x (begins_itself (state x))

  pub shows : (seat : ℕ) (v : List V) (x y : C) (es : List V) → state y ≡ state x ++ es → TurnsAt Rule seat v x y (λ v x y w. IsPrefix v (state y) × (w ≡ state y))
  shows seat v x y es is = goes_on seat v x y (es, sym is)
