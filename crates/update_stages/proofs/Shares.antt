-- Trees that come to be a share of a list of a node.
use Rattle.std.proofs.Common.{◌≡◌, ℕ, ◌≤◌, cond, eqb, refl, ap, sym, ◌∙◌, arith, None, length}
use Rattle.data_model.specs.Trees.{Trees, no_trees, tree, append, roots, count}
use Rattle.data_model.specs.Changes.{with_part, part_of}
use Rattle.data_model.specs.declared.node.Part.{Part}
use Rattle.data_model.proofs.Weights.{weigh-append, append-none}
use Rattle.node_plans.specs.Splices.{first_of, rest_of, spliced}
use Rattle.update_stages.specs.Places.{shared, from_of, to_of}
use Rattle.update_stages.specs.declared.lists.Share.{Share}
use Rattle.update_stages.specs.declared.lists.Share.TheVariants.{Front, Back, Whole}
use Rattle.update_stages.proofs.Places.{agree, first-zero, rest-zero}
use Rattle.update_stages.proofs.LookUps.{part_of-at}

first-all : (ts : Trees) → first_of (length (roots ts)) ts ≡ ts
first-all no_trees = refl
first-all (tree c bs cs rest) = ap (λ x. tree c bs cs x) (first-all rest)

rest-all : (ts : Trees) → rest_of (length (roots ts)) ts ≡ no_trees
rest-all no_trees = refl
rest-all (tree c bs cs rest) = rest-all rest

list-shared : (share : Share) (us ts : Trees) → spliced (from_of share (length (roots ts))) (to_of share (length (roots ts))) us ts ≡ shared share us ts
list-shared Front us ts = rw (first-zero ts, rest-zero ts) refl
list-shared Back us ts = rw (first-all ts, rest-all ts, append-none us) refl
list-shared Whole us ts = rw (first-zero ts, rest-all ts, append-none us) refl

pub within-share : (share : Share) (n : ℕ) → to_of share n ≤ n
within-share Front n = omega arith
within-share Back n = omega arith
within-share Whole n = omega arith

pub ordered-share : (share : Share) (n : ℕ) → from_of share n ≤ to_of share n
ordered-share Front n = omega arith
ordered-share Back n = omega arith
ordered-share Whole n = omega arith

pub part-shared : (share : Share) (part : Part) (i n : ℕ) (us ts : Trees)
    → ((j : ℕ) → count j (append ts us) ≤ 1) → n ≡ length (part_of part i ts)
    → with_part part i (spliced (from_of share n) (to_of share n) us) ts ≡ with_part part i (shared share us) ts
part-shared share part i n us ts d e =
    agree i (spliced (from_of share n) (to_of share n) us) (shared share us) part None ts (omega (arith, d i, weigh-append (λ k. cond (eqb i k) 1 0) ts us))
    (λ xs h. (let m : n ≡ length (roots xs) = e ∙ ap length (part_of-at part i ts) ∙ ap length (sym h) in rw m (list-shared share us xs)))
