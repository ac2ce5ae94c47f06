-- What is rewritten at a node that stands nowhere.
use Rattle.std.proofs.Common.{◌≡◌, ℕ, refl, arith, ⊎_elim}
use Rattle.std.proofs.lemmas.Bool.Decides.{eqb_tells}
use Rattle.data_model.specs.Trees.{Trees, no_trees, tree, Content, count}
use Rattle.data_model.specs.Changes.{with_content}
use Rattle.update_meaning.specs.Effects.{with_tree, with_tree_below}

pub with_tree-absent : (i : ℕ) (g : Trees → Trees) (ts : Trees) → count i ts ≡ 0 → with_tree i g ts ≡ ts
with_tree-absent i g no_trees h = refl
with_tree-absent i g (tree c bs cs rest) h =
    ⊎_elim (λ t. (let z = rw t.0 at h in absurd (omega arith)))
    (λ t. (let z = rw t.0 at h in rw (t.0, with_tree-absent i g bs (omega arith), with_tree-absent i g cs (omega arith), with_tree-absent i g rest (omega arith)) refl)) (eqb_tells i c.identity)

pub below-absent : (i : ℕ) (g : Trees → Trees) (ts : Trees) → count i ts ≡ 0 → with_tree_below i g ts ≡ ts
below-absent i g no_trees h = refl
below-absent i g (tree c bs cs rest) h = rw (with_tree-absent i g bs (omega arith), with_tree-absent i g cs (omega arith), below-absent i g rest (omega arith)) refl

pub with_content-absent : (i : ℕ) (g : Content → Content) (ts : Trees) → count i ts ≡ 0 → with_content i g ts ≡ ts
with_content-absent i g no_trees h = refl
with_content-absent i g (tree c bs cs rest) h =
    ⊎_elim (λ t. (let z = rw t.0 at h in absurd (omega arith)))
    (λ t. (let z = rw t.0 at h in rw (t.0, with_content-absent i g bs (omega arith), with_content-absent i g cs (omega arith), with_content-absent i g rest (omega arith)) refl)) (eqb_tells i c.identity)
