-- Sums of depths, and of work.
use Rattle.std.proofs.Common.{◌≡◌, ℕ, ◌+◌, refl, arith}
use Rattle.data_model.specs.Trees.{Trees, no_trees, tree, append, size}
use Rattle.data_model.proofs.Weights.{weigh-append}
use Rattle.printed_meaning.specs.Made.{depths, work_of}

pub depths_append : (n : ℕ) (ts us : Trees) → depths n (append ts us) ≡ depths n ts + depths n us
depths_append n no_trees us = omega arith
depths_append n (tree c bs cs rest) us = let r = depths_append n rest us in omega (arith, r)

-- one deeper, each node adds one
pub depths_deeper : (n : ℕ) (ts : Trees) → depths (n + 1) ts ≡ depths n ts + size ts
depths_deeper n no_trees = refl
depths_deeper n (tree c bs cs rest) =
    let b = depths_deeper (n + 1) bs in let s = depths_deeper (n + 1) cs in let r = depths_deeper n rest in omega (arith, b, s, r)

-- a node's parts are made, then the node and a copy of each node below it
pub depths_parts : (bs cs : Trees) → depths 1 (append bs cs) + 1 + size (append bs cs) ≡ 1 + depths 2 bs + depths 2 cs + 0
depths_parts bs cs =
    let a = depths_append 1 bs cs in let s = weigh-append (λ _. 1) bs cs in let b = depths_deeper 1 bs in let d = depths_deeper 1 cs in omega (arith, a, s, b, d)

pub work_append : (ts us : Trees) → work_of (append ts us) ≡ work_of ts + work_of us
work_append no_trees us = omega arith
work_append (tree c bs cs rest) us = let r = work_append rest us in omega (arith, r)
