-- A primitive whose target stands nowhere changes nothing.
use Rattle.std.proofs.Common.{◌≡◌, ℕ, Bool, true, false, cond, ◌==◌, List, [], ◌∷◌, refl, arith, ⊎_elim}
use Rattle.std.proofs.lemmas.Bool.Decides.{eqb_tells}
use Rattle.data_model.specs.Trees.{Trees, no_trees, tree, Content, append, count}
use Rattle.data_model.specs.Changes.{with_part, with_content}
use Rattle.data_model.specs.declared.node.Part.TheVariants.{Attributes, Children}
use Rattle.data_model.specs.declared.node.Part.{Part}
use Rattle.pending.specs.Primitives.{PrimitiveTerm, insert_before, insert_after, insert_into, insert_into_as_first, insert_into_as_last, insert_attributes, delete, replace_node, replace_value, replace_element_content, rename}
use Rattle.update_meaning.specs.Effects.{with_tree, with_tree_below, effect, effects, stage_of, of_stage, staged, target_of, StandNowhere}

with_tree-absent : (i : ℕ) (g : Trees → Trees) (ts : Trees) → count i ts ≡ 0 → with_tree i g ts ≡ ts
with_tree-absent i g no_trees h = refl
with_tree-absent i g (tree c bs cs rest) h =
    ⊎_elim (λ t. (let z = rw t.0 at h in absurd (omega arith)))
    (λ t. (let z = rw t.0 at h in rw (t.0, with_tree-absent i g bs (omega arith), with_tree-absent i g cs (omega arith), with_tree-absent i g rest (omega arith)) refl)) (eqb_tells i c.identity)

below-absent : (i : ℕ) (g : Trees → Trees) (ts : Trees) → count i ts ≡ 0 → with_tree_below i g ts ≡ ts
below-absent i g no_trees h = refl
below-absent i g (tree c bs cs rest) h = rw (with_tree-absent i g bs (omega arith), with_tree-absent i g cs (omega arith), below-absent i g rest (omega arith)) refl

with_part-absent : (part : Part) (i : ℕ) (g : Trees → Trees) (ts : Trees) → count i ts ≡ 0 → with_part part i g ts ≡ ts
with_part-absent part i g no_trees h = refl
with_part-absent Attributes i g (tree c bs cs rest) h =
    ⊎_elim (λ t. (let z = rw t.0 at h in absurd (omega arith)))
    (λ t. (let z = rw t.0 at h in rw (t.0, with_part-absent Attributes i g bs (omega arith), with_part-absent Attributes i g cs (omega arith), with_part-absent Attributes i g rest (omega arith)) refl)) (eqb_tells i c.identity)
with_part-absent Children i g (tree c bs cs rest) h =
    ⊎_elim (λ t. (let z = rw t.0 at h in absurd (omega arith)))
    (λ t. (let z = rw t.0 at h in rw (t.0, with_part-absent Children i g bs (omega arith), with_part-absent Children i g cs (omega arith), with_part-absent Children i g rest (omega arith)) refl)) (eqb_tells i c.identity)

with_content-absent : (i : ℕ) (g : Content → Content) (ts : Trees) → count i ts ≡ 0 → with_content i g ts ≡ ts
with_content-absent i g no_trees h = refl
with_content-absent i g (tree c bs cs rest) h =
    ⊎_elim (λ t. (let z = rw t.0 at h in absurd (omega arith)))
    (λ t. (let z = rw t.0 at h in rw (t.0, with_content-absent i g bs (omega arith), with_content-absent i g cs (omega arith), with_content-absent i g rest (omega arith)) refl)) (eqb_tells i c.identity)

effect-absent : (p : PrimitiveTerm) (ts : Trees) → count (target_of p) ts ≡ 0 → effect p ts ≡ ts
effect-absent (insert_before i us) ts h = below-absent i (λ t. append us t) ts h
effect-absent (insert_after i us) ts h = below-absent i (λ t. append t us) ts h
effect-absent (insert_into i us) ts h = with_part-absent Children i (λ cs. append cs us) ts h
effect-absent (insert_into_as_first i us) ts h = with_part-absent Children i (λ cs. append us cs) ts h
effect-absent (insert_into_as_last i us) ts h = with_part-absent Children i (λ cs. append cs us) ts h
effect-absent (insert_attributes i us) ts h = with_part-absent Attributes i (λ bs. append bs us) ts h
effect-absent (delete i) ts h = below-absent i (λ t. no_trees) ts h
effect-absent (replace_node i us) ts h = below-absent i (λ t. us) ts h
effect-absent (replace_value i text) ts h = with_content-absent i (λ c. record c { text = text }) ts h
effect-absent (replace_element_content i us) ts h = with_part-absent Children i (λ cs. us) ts h
effect-absent (rename i name) ts h = with_content-absent i (λ c. record c { name = name }) ts h

effects-absent : (ps : List PrimitiveTerm) (ts : Trees) → StandNowhere ps ts → effects ps ts ≡ ts
effects-absent [] ts h = refl
effects-absent (p ∷ ps) ts h = rw (effect-absent p ts h.0) (effects-absent ps ts h.1)

kept : (b : Bool) (p : PrimitiveTerm) (ps : List PrimitiveTerm) (ts : Trees) → count (target_of p) ts ≡ 0 → StandNowhere ps ts → StandNowhere (cond b (p ∷ ps) ps) ts
kept true p ps ts h k = (h, k)
kept false p ps ts h k = k

of_stage-absent : (n : ℕ) (ps : List PrimitiveTerm) (ts : Trees) → StandNowhere ps ts → StandNowhere (of_stage n ps) ts
of_stage-absent n [] ts h = h
of_stage-absent n (p ∷ ps) ts h = kept (n == stage_of p) p (of_stage n ps) ts h.0 (of_stage-absent n ps ts h.1)

stage-absent : (n : ℕ) (ps : List PrimitiveTerm) (ts : Trees) → StandNowhere ps ts → effects (of_stage n ps) ts ≡ ts
stage-absent n ps ts h = effects-absent (of_stage n ps) ts (of_stage-absent n ps ts h)

pub unchanged : (ps : List PrimitiveTerm) (ts : Trees) → StandNowhere ps ts → staged ps ts ≡ ts
unchanged ps ts h = rw (stage-absent 1 ps ts h) (rw (stage-absent 2 ps ts h) (rw (stage-absent 3 ps ts h) (rw (stage-absent 4 ps ts h) (stage-absent 5 ps ts h))))
