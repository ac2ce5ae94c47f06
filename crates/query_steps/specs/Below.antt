-- Nodes below others, as a walk down the levels of the trees finds them.
use Rattle.std.specs.Prelude.{ℕ, ◌+◌, Bool, true, false, List, [], ◌∷◌, ◌++◌, cond, length, sum_by}
use Prim.Native.Nat.{zero, suc}
use Rattle.data_model.specs.Trees.{Trees, children_of, attributes_of}

-- the nodes of a list, if they are listed, each with what `below` finds below it
abbrev pub each_with : (listed : Bool) → (below : ℕ → List ℕ) → List ℕ → List ℕ
each_with l below [] = []
each_with l below (i ∷ is) = cond l (i ∷ []) [] ++ below i ++ each_with l below is

-- the nodes of a list, if they are listed, and what stands below them but attributes, down to so many levels
abbrev pub levels_below : ℕ → Trees → (listed : Bool) → List ℕ → List ℕ
levels_below zero ts l is = []
levels_below (suc n) ts l is = each_with l (λ i. levels_below n ts false (attributes_of i ts) ++ levels_below n ts true (children_of i ts)) is

-- how many nodes these are and stand below them, attributes counted, down to so many levels
abbrev pub counted_below : ℕ → Trees → List ℕ → ℕ
counted_below zero ts is = 0
counted_below (suc n) ts is = length is + sum_by (λ i. counted_below n ts (attributes_of i ts) + counted_below n ts (children_of i ts)) is
