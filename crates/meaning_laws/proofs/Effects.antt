-- Which nodes there are after a list of primitives: those that there were, and those that are brought.
use Rattle.std.proofs.Common.{◌≡◌, ℕ, ◌+◌, ◌*◌, ◌≤◌, ◌==◌, cond, eqb, Bool, true, false, if◌then◌else◌, List, [], ◌∷◌, refl, ap, arith, ⊎_elim}
use Rattle.std.proofs.lemmas.Bool.Decides.{eqb_tells}
use Rattle.data_model.specs.Trees.{Trees, no_trees, tree, Content, append, weigh, count}
use Rattle.data_model.specs.Changes.{with_part, with_content}
use Rattle.data_model.specs.declared.node.Part.{Part}
use Rattle.data_model.specs.declared.node.Part.TheVariants.{Attributes, Children}
use Rattle.data_model.proofs.Climbs.{any-tells}
use Rattle.data_model.proofs.Weights.{weigh-append}
use Rattle.pending.specs.Primitives.{PrimitiveTerm, insert_before, insert_after, insert_into, insert_into_as_first, insert_into_as_last, insert_attributes}
use Rattle.pending.specs.Primitives.{delete, replace_node, replace_value, replace_element_content, rename}
use Rattle.pending.specs.Texts.{is_empty_text}
use Rattle.update_meaning.specs.Effects.{with_tree, with_tree_below, effect, effects, stage_of, of_stage, staged, target_of}
use Rattle.update_meaning.specs.Brought.{trees_of, new_trees}
use Rattle.update_meaning.specs.Results.{all_merged, all_filled}
use Rattle.update_meaning.specs.Changed.{tidied_below, changed}
use Rattle.meaning_laws.proofs.Nodes.{both_counted, before_merged_few}

-- what is rewritten grows by m at most
module _ (w : ℕ → ℕ) (g : Trees → Trees) (m : ℕ) (grows : (ts : Trees) → weigh w (g ts) ≤ weigh w ts + m) where
  weigh_tree : (i : ℕ) (ts : Trees) → weigh w (with_tree i g ts) ≤ weigh w ts + count i ts * m
  weigh_tree i no_trees = omega arith
  weigh_tree i (tree c bs cs rest) =
      let b = weigh_tree i bs in
      let d = weigh_tree i cs in
      let r = weigh_tree i rest in
      let one = grows (tree c bs cs no_trees) in
      ⊎_elim (λ t. rw t.0 (omega (arith, weigh-append w (g (tree c bs cs no_trees)) (with_tree i g rest)))) (λ t. rw t.0 (omega arith)) (eqb_tells i c.identity)

  weigh_below : (i : ℕ) (ts : Trees) → weigh w (with_tree_below i g ts) ≤ weigh w ts + count i ts * m
  weigh_below i no_trees = omega arith
  weigh_below i (tree c bs cs rest) =
      let b = weigh_tree i bs in
      let d = weigh_tree i cs in
      let r = weigh_below i rest in
      ⊎_elim (λ t. rw t.0 (omega arith)) (λ t. rw t.0 (omega arith)) (eqb_tells i c.identity)

  weigh_part : (part : Part) (p : ℕ) (ts : Trees) → weigh w (with_part part p g ts) ≤ weigh w ts + count p ts * m
  weigh_part part p no_trees = omega arith
  weigh_part Attributes p (tree c bs cs rest) =
      let b = weigh_part Attributes p bs in
      let d = weigh_part Attributes p cs in
      let r = weigh_part Attributes p rest in
      let one = grows (with_part Attributes p g bs) in
      ⊎_elim (λ t. rw t.0 (omega arith)) (λ t. rw t.0 (omega arith)) (eqb_tells p c.identity)
  weigh_part Children p (tree c bs cs rest) =
      let b = weigh_part Children p bs in
      let d = weigh_part Children p cs in
      let r = weigh_part Children p rest in
      let one = grows (with_part Children p g cs) in
      ⊎_elim (λ t. rw t.0 (omega arith)) (λ t. rw t.0 (omega arith)) (eqb_tells p c.identity)

-- what a node says has its identity still
weigh_content : (w : ℕ → ℕ) (g : Content → Content) → ((c : Content) → (g c).identity ≡ c.identity) → (i : ℕ) (ts : Trees) → weigh w (with_content i g ts) ≡ weigh w ts
weigh_content w g same i no_trees = refl
weigh_content w g same i (tree c bs cs rest) =
    let b = weigh_content w g same i bs in
    let d = weigh_content w g same i cs in
    let r = weigh_content w g same i rest in
    let one = ap w (same c) in
    ⊎_elim (λ t. rw t.0 (omega arith)) (λ t. rw t.0 (omega arith)) (eqb_tells i c.identity)

-- a primitive brings its trees as often as its target stands
weigh_effect : (w : ℕ → ℕ) (p : PrimitiveTerm) (ts : Trees) → weigh w (effect p ts) ≤ weigh w ts + count (target_of p) ts * weigh w (trees_of p)
weigh_effect w (insert_before i us) ts = weigh_below w (λ t. append us t) (weigh w us) (λ t. omega (arith, weigh-append w us t)) i ts
weigh_effect w (insert_after i us) ts = weigh_below w (λ t. append t us) (weigh w us) (λ t. omega (arith, weigh-append w t us)) i ts
weigh_effect w (insert_into i us) ts = weigh_part w (λ t. append t us) (weigh w us) (λ t. omega (arith, weigh-append w t us)) Children i ts
weigh_effect w (insert_into_as_first i us) ts = weigh_part w (λ t. append us t) (weigh w us) (λ t. omega (arith, weigh-append w us t)) Children i ts
weigh_effect w (insert_into_as_last i us) ts = weigh_part w (λ t. append t us) (weigh w us) (λ t. omega (arith, weigh-append w t us)) Children i ts
weigh_effect w (insert_attributes i us) ts = weigh_part w (λ t. append t us) (weigh w us) (λ t. omega (arith, weigh-append w t us)) Attributes i ts
weigh_effect w (delete i) ts = weigh_below w (λ t. no_trees) 0 (λ t. omega arith) i ts
weigh_effect w (replace_node i us) ts = weigh_below w (λ t. us) (weigh w us) (λ t. omega arith) i ts
weigh_effect w (replace_value i text) ts = omega (arith, weigh_content w (λ c. record c { text = text }) (λ c. refl) i ts)
weigh_effect w (replace_element_content i us) ts = weigh_part w (λ t. us) (weigh w us) (λ t. omega arith) Children i ts
weigh_effect w (rename i name) ts = omega (arith, weigh_content w (λ c. record c { name = name }) (λ c. refl) i ts)

at_most : (t m : ℕ) → t ≤ 1 → t * m ≤ m
at_most t m h = ⊎_elim (λ u. (let some = u.1 in let one : t ≡ 1 = omega arith in rw one (omega arith))) (λ u. rw u.1 (omega arith)) (any-tells t)

effect_few : (i : ℕ) (p : PrimitiveTerm) (ts : Trees) → count (target_of p) ts ≤ 1 → count i (effect p ts) ≤ count i ts + count i (trees_of p)
effect_few i p ts h = omega (arith, weigh_effect (λ k. cond (eqb i k) 1 0) p ts, at_most (count (target_of p) ts) (count i (trees_of p)) h)

-- each identity is there once at the most, in the trees and in what primitives bring
abbrev pub AreApart : List PrimitiveTerm → Trees → Type 0
AreApart ps ts = (i : ℕ) → count i ts + count i (new_trees ps) ≤ 1

-- one after the other
effects_few : (ps : List PrimitiveTerm) (ts : Trees) → AreApart ps ts → (i : ℕ) → count i (effects ps ts) ≤ count i ts + count i (new_trees ps)
effects_few [] ts h i = omega arith
effects_few (p ∷ ps) ts h i =
    omega (arith, effects_few ps (effect p ts) (λ j. omega (arith, one j, brought j, h j)) i, one i, brought i)
  where
    brought : (j : ℕ) → count j (new_trees (p ∷ ps)) ≡ count j (trees_of p) + count j (new_trees ps)
    brought j = both_counted j (trees_of p) (new_trees ps)

    one : (j : ℕ) → count j (effect p ts) ≤ count j ts + count j (trees_of p)
    one j = effect_few j p ts (let all = h (target_of p) in omega (arith, all))

-- how often an identity is in what the primitives of a stage bring
abbrev in_stage : ℕ → ℕ → List PrimitiveTerm → ℕ
in_stage i n ps = count i (new_trees (of_stage n ps))

abbrev share : ℕ → PrimitiveTerm → ℕ → ℕ
share n p m = if n == stage_of p then m else 0

stage_counted : (i n : ℕ) (p : PrimitiveTerm) (ps : List PrimitiveTerm) → in_stage i n (p ∷ ps) ≡ share n p (count i (trees_of p)) + in_stage i n ps
stage_counted i n p ps = of (n == stage_of p)
  where
    of : (b : Bool) → count i (new_trees (cond b (p ∷ of_stage n ps) (of_stage n ps))) ≡ (if b then count i (trees_of p) else 0) + in_stage i n ps
    of true = both_counted i (trees_of p) (new_trees (of_stage n ps))
    of false = omega arith

-- each primitive is of one stage
one_stage : (p : PrimitiveTerm) (m : ℕ) → share 1 p m + share 2 p m + share 3 p m + share 4 p m + share 5 p m ≡ m
one_stage (insert_before i us) m = omega arith
one_stage (insert_after i us) m = omega arith
one_stage (insert_into i us) m = omega arith
one_stage (insert_into_as_first i us) m = omega arith
one_stage (insert_into_as_last i us) m = omega arith
one_stage (insert_attributes i us) m = omega arith
one_stage (delete i) m = omega arith
one_stage (replace_node i us) m = omega arith
one_stage (replace_value i text) m = omega arith
one_stage (replace_element_content i us) m = omega arith
one_stage (rename i name) m = omega arith

all_stages : (i : ℕ) (ps : List PrimitiveTerm) → in_stage i 1 ps + in_stage i 2 ps + in_stage i 3 ps + in_stage i 4 ps + in_stage i 5 ps ≡ count i (new_trees ps)
all_stages i [] = refl
all_stages i (p ∷ ps) =
    let m = count i (trees_of p) in
    omega (
      arith,
      stage_counted i 1 p ps,
      stage_counted i 2 p ps,
      stage_counted i 3 p ps,
      stage_counted i 4 p ps,
      stage_counted i 5 p ps,
      one_stage p m,
      all_stages i ps,
      both_counted i (trees_of p) (new_trees ps),
    )

-- a list more, after trees in which an identity is at most so often
then_few : (ps : List PrimitiveTerm) (us : Trees) (n : ℕ → ℕ) → ((j : ℕ) → count j us ≤ n j) → ((j : ℕ) → n j + count j (new_trees ps) ≤ 1)
    → (i : ℕ) → count i (effects ps us) ≤ n i + count i (new_trees ps)
then_few ps us n h room i = omega (arith, h i, effects_few ps us (λ j. omega (arith, h j, room j)) i)

-- stage by stage
staged_few : (ps : List PrimitiveTerm) (ts : Trees) → AreApart ps ts → (i : ℕ) → count i (staged ps ts) ≤ count i ts + count i (new_trees ps)
staged_few ps ts h i = omega (
  arith,
  all_stages i ps,
  then_few (of_stage 5 ps) _ (λ j. count j ts + in_stage j 1 ps + in_stage j 2 ps + in_stage j 3 ps + in_stage j 4 ps)
      (then_few (of_stage 4 ps) _ (λ j. count j ts + in_stage j 1 ps + in_stage j 2 ps + in_stage j 3 ps)
      (then_few (of_stage 3 ps) _ (λ j. count j ts + in_stage j 1 ps + in_stage j 2 ps)
      (then_few (of_stage 2 ps) _ (λ j. count j ts + in_stage j 1 ps)
      (then_few (of_stage 1 ps) ts (λ j. count j ts) (λ j. omega arith)
      (λ j. omega (arith, h j, all_stages j ps)))
      (λ j. omega (arith, h j, all_stages j ps)))
      (λ j. omega (arith, h j, all_stages j ps)))
      (λ j. omega (arith, h j, all_stages j ps)))
      (λ j. omega (arith, h j, all_stages j ps)) i,
)

-- Tidying takes nodes away.

all_merged_few : (i : ℕ) (ts : Trees) → count i (all_merged ts) ≤ count i ts
all_merged_few i no_trees = omega arith
all_merged_few i (tree c bs cs rest) =
    let one = before_merged_few i c (all_merged bs) (all_merged cs) (all_merged rest) in
    omega (arith, one, all_merged_few i bs, all_merged_few i cs, all_merged_few i rest)

all_filled_few : (i : ℕ) (ts : Trees) → count i (all_filled ts) ≤ count i ts
all_filled_few i no_trees = omega arith
all_filled_few i (tree c bs cs rest) = of (is_empty_text c) (all_filled_few i bs) (all_filled_few i cs) (all_filled_few i rest)
  where
    of : (b : Bool) → count i (all_filled bs) ≤ count i bs → count i (all_filled cs) ≤ count i cs → count i (all_filled rest) ≤ count i rest
        → count i (if b then all_filled rest else tree c (all_filled bs) (all_filled cs) (all_filled rest)) ≤ count i (tree c bs cs rest)
    of true h g k = omega (arith, k)
    of false h g k = omega (arith, h, g, k)

tidied_few : (i : ℕ) (ts : Trees) → count i (tidied_below ts) ≤ count i ts
tidied_few i no_trees = omega arith
tidied_few i (tree c bs cs rest) =
    omega (arith, all_filled_few i (all_merged bs), all_merged_few i bs, all_filled_few i (all_merged cs), all_merged_few i cs, tidied_few i rest)

-- after the whole list
pub changed_few : (ps : List PrimitiveTerm) (ts : Trees) → AreApart ps ts → (i : ℕ) → count i (changed ps ts) ≤ count i ts + count i (new_trees ps)
changed_few ps ts h i = omega (arith, tidied_few i (staged ps ts), staged_few ps ts h i)
