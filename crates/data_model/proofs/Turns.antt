-- Lists of trees, turn by turn.
use Prim.Native.Nat.{zero, suc}
use Rattle.std.proofs.Common.{◌≡◌, ℕ, ◌+◌, ◌≤◌, ◌<◌, List, [], ◌∷◌, ◌++◌, length, take, drop, get_or, refl, ap, ◌∙◌, arith, add-one}
use Rattle.std.proofs.Math.Seq.{take-suc}
use Rattle.data_model.specs.Trees.{tree, append, weigh}
use Rattle.data_model.specs.Tree.{TreeTerm, all_of, trees_of_tree}
use Rattle.data_model.proofs.Lists.{drop-turn}
use Rattle.data_model.proofs.Weights.{weigh-append}

pub all_of-push : (ts : List TreeTerm) (t : TreeTerm) → all_of (ts ++ t ∷ []) ≡ append (all_of ts) (trees_of_tree t)
all_of-push [] t = refl
all_of-push (u ∷ ts) t = ap (λ x. tree u.content u.attributes u.children x) (all_of-push ts t)

pub drop-tree : (ts : List TreeTerm) (i : ℕ) (t : TreeTerm) → i < length ts → t ≡ get_or ts i t → all_of (drop i ts) ≡ tree t.content t.attributes t.children (all_of (drop (i + 1) ts))
drop-tree ts i t k e = ap all_of (drop-turn ts i t k e)

pub take-tree : (ts : List TreeTerm) (i : ℕ) (t : TreeTerm) → i < length ts → t ≡ get_or ts i t → all_of (take (i + 1) ts) ≡ append (all_of (take i ts)) (trees_of_tree t)
take-tree ts i t k e = rw (add-one, take-suc ts i t k, ← e) (all_of-push (take i ts) t)

pub weigh-take : (w : ℕ → ℕ) (n : ℕ) (ts : List TreeTerm) → weigh w (all_of (take n ts)) ≤ weigh w (all_of ts)
weigh-take w zero [] = omega arith
weigh-take w zero (t ∷ ts) = omega arith
weigh-take w (suc n) [] = omega arith
weigh-take w (suc n) (t ∷ ts) = omega (arith, weigh-take w n ts)

-- the first trees and the next one weigh no more than all
pub weigh-turn : (w : ℕ → ℕ) (ts : List TreeTerm) (i : ℕ) (t : TreeTerm) → i < length ts → t ≡ get_or ts i t → weigh w (all_of (take i ts)) + (w t.content.identity + weigh w t.attributes + weigh w t.children) ≤ weigh w (all_of ts)
weigh-turn w ts i t k e =
    let all = weigh-take w (i + 1) ts in
    let sum : weigh w (all_of (take (i + 1) ts)) ≡ weigh w (all_of (take i ts)) + weigh w (trees_of_tree t) = ap (weigh w) (take-tree ts i t k e) ∙ weigh-append w (all_of (take i ts)) (trees_of_tree t) in
    omega arith
