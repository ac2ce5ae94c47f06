-- How many nodes of an identity there are after a primitive.
use Rattle.std.proofs.Common.{◌≡◌, ℕ, ◌+◌, ◌*◌, ◌≤◌, refl, ap, arith, ⊎_elim}
use Rattle.std.proofs.lemmas.Bool.Decides.{eqb_tells}
use Rattle.data_model.specs.Trees.{Trees, no_trees, tree, Content, append, weigh, count}
use Rattle.data_model.specs.Changes.{with_part, with_content}
use Rattle.data_model.specs.declared.node.Part.{Part}
use Rattle.data_model.specs.declared.node.Part.TheVariants.{Attributes, Children}
use Rattle.data_model.proofs.Weights.{weigh-append}
use Rattle.pending.specs.Primitives.{PrimitiveTerm, insert_before, insert_after, insert_into, insert_into_as_first, insert_into_as_last, insert_attributes, delete, replace_node, replace_value, replace_element_content, rename}
use Rattle.update_meaning.specs.Effects.{with_tree, with_tree_below, effect, target_of}
use Rattle.update_meaning.specs.Brought.{trees_of}

-- what is rewritten grows by m at most
module _ (w : ℕ → ℕ) (g : Trees → Trees) (m : ℕ) (grows : (ts : Trees) → weigh w (g ts) ≤ weigh w ts + m) where
  weigh-tree : (i : ℕ) (ts : Trees) → weigh w (with_tree i g ts) ≤ weigh w ts + count i ts * m
  weigh-tree i no_trees = omega arith
  weigh-tree i (tree c bs cs rest) =
      let b = weigh-tree i bs in
      let d = weigh-tree i cs in
      let r = weigh-tree i rest in
      let one = grows (tree c bs cs no_trees) in
      ⊎_elim (λ t. rw t.0 (omega (arith, weigh-append w (g (tree c bs cs no_trees)) (with_tree i g rest)))) (λ t. rw t.0 (omega arith)) (eqb_tells i c.identity)

  weigh-below : (i : ℕ) (ts : Trees) → weigh w (with_tree_below i g ts) ≤ weigh w ts + count i ts * m
  weigh-below i no_trees = omega arith
  weigh-below i (tree c bs cs rest) =
      let b = weigh-tree i bs in
      let d = weigh-tree i cs in
      let r = weigh-below i rest in
      ⊎_elim (λ t. rw t.0 (omega arith)) (λ t. rw t.0 (omega arith)) (eqb_tells i c.identity)

  weigh-part : (part : Part) (p : ℕ) (ts : Trees) → weigh w (with_part part p g ts) ≤ weigh w ts + count p ts * m
  weigh-part part p no_trees = omega arith
  weigh-part Attributes p (tree c bs cs rest) =
      let b = weigh-part Attributes p bs in
      let d = weigh-part Attributes p cs in
      let r = weigh-part Attributes p rest in
      let one = grows (with_part Attributes p g bs) in
      ⊎_elim (λ t. rw t.0 (omega arith)) (λ t. rw t.0 (omega arith)) (eqb_tells p c.identity)
  weigh-part Children p (tree c bs cs rest) =
      let b = weigh-part Children p bs in
      let d = weigh-part Children p cs in
      let r = weigh-part Children p rest in
      let one = grows (with_part Children p g cs) in
      ⊎_elim (λ t. rw t.0 (omega arith)) (λ t. rw t.0 (omega arith)) (eqb_tells p c.identity)

-- what a node says has its identity still
weigh-content : (w : ℕ → ℕ) (g : Content → Content) → ((c : Content) → (g c).identity ≡ c.identity) → (i : ℕ) (ts : Trees) → weigh w (with_content i g ts) ≡ weigh w ts
weigh-content w g same i no_trees = refl
weigh-content w g same i (tree c bs cs rest) =
    let b = weigh-content w g same i bs in
    let d = weigh-content w g same i cs in
    let r = weigh-content w g same i rest in
    let one = ap w (same c) in
    ⊎_elim (λ t. rw t.0 (omega arith)) (λ t. rw t.0 (omega arith)) (eqb_tells i c.identity)

pub weigh-effect : (w : ℕ → ℕ) (p : PrimitiveTerm) (ts : Trees) → weigh w (effect p ts) ≤ weigh w ts + count (target_of p) ts * weigh w (trees_of p)
weigh-effect w (insert_before i us) ts = weigh-below w (λ t. append us t) (weigh w us) (λ t. omega (arith, weigh-append w us t)) i ts
weigh-effect w (insert_after i us) ts = weigh-below w (λ t. append t us) (weigh w us) (λ t. omega (arith, weigh-append w t us)) i ts
weigh-effect w (insert_into i us) ts = weigh-part w (λ t. append t us) (weigh w us) (λ t. omega (arith, weigh-append w t us)) Children i ts
weigh-effect w (insert_into_as_first i us) ts = weigh-part w (λ t. append us t) (weigh w us) (λ t. omega (arith, weigh-append w us t)) Children i ts
weigh-effect w (insert_into_as_last i us) ts = weigh-part w (λ t. append t us) (weigh w us) (λ t. omega (arith, weigh-append w t us)) Children i ts
weigh-effect w (insert_attributes i us) ts = weigh-part w (λ t. append t us) (weigh w us) (λ t. omega (arith, weigh-append w t us)) Attributes i ts
weigh-effect w (delete i) ts = weigh-below w (λ t. no_trees) 0 (λ t. omega arith) i ts
weigh-effect w (replace_node i us) ts = weigh-below w (λ t. us) (weigh w us) (λ t. omega arith) i ts
weigh-effect w (replace_value i text) ts = omega (arith, weigh-content w (λ c. record c { text = text }) (λ c. refl) i ts)
weigh-effect w (replace_element_content i us) ts = weigh-part w (λ t. us) (weigh w us) (λ t. omega arith) Children i ts
weigh-effect w (rename i name) ts = omega (arith, weigh-content w (λ c. record c { name = name }) (λ c. refl) i ts)
