-- A node that stands nowhere, and that no primitive brings, stands nowhere after an update.
use Rattle.std.proofs.Common.{◌≡◌, ◌≤◌, ℕ, ◌+◌, ◌*◌, ◌&&◌, Bool, true, false, cond, eqb, List, [], ◌∷◌, refl, arith, ⊎_elim}
use Rattle.std.proofs.lemmas.Bool.Decides.{eqb_tells}
use Rattle.data_model.specs.Trees.{Trees, no_trees, tree, Content, count, is_text, weigh}
use Rattle.pending.specs.Primitives.{PrimitiveTerm}
use Rattle.pending.specs.Texts.{before_merged, is_empty_text}
use Rattle.update_meaning.specs.Brought.{new_trees, trees_of}
use Rattle.update_meaning.specs.Changed.{Choice, changed, each_chosen, tidied_below}
use Rattle.update_meaning.specs.Effects.{effect, effects, of_stage, stage_of, staged, target_of}
use Rattle.update_meaning.specs.Results.{all_filled, all_merged}
use Rattle.update_stages.proofs.Counts.{weigh-effect}
use Rattle.query_copies.proofs.Adding.{counts_both}

-- ---- tidying adds none
module _ (w : ℕ → ℕ) where
  joined : (c : Content) (bs cs rest : Trees) → weigh w (before_merged c bs cs rest) ≤ w c.identity + weigh w bs + weigh w cs + weigh w rest
  joined c bs cs no_trees = omega arith
  joined c bs cs (tree d ds es rest) = by (is_text c.kind && is_text d.kind) refl
    where
      by : (b : Bool) → (is_text c.kind && is_text d.kind) ≡ b → weigh w (before_merged c bs cs (tree d ds es rest)) ≤ w c.identity + weigh w bs + weigh w cs + weigh w (tree d ds es rest)
      by true e = rw e (omega arith)
      by false e = rw e (omega arith)

  merged : (ts : Trees) → weigh w (all_merged ts) ≤ weigh w ts
  merged no_trees = omega arith
  merged (tree c bs cs rest) = omega (arith, joined c (all_merged bs) (all_merged cs) (all_merged rest), merged bs, merged cs, merged rest)

  filled : (ts : Trees) → weigh w (all_filled ts) ≤ weigh w ts
  filled no_trees = omega arith
  filled (tree c bs cs rest) = by (is_empty_text c) refl (filled bs) (filled cs) (filled rest)
    where
      by : (b : Bool) → is_empty_text c ≡ b → weigh w (all_filled bs) ≤ weigh w bs → weigh w (all_filled cs) ≤ weigh w cs → weigh w (all_filled rest) ≤ weigh w rest → weigh w (all_filled (tree c bs cs rest)) ≤ weigh w (tree c bs cs rest)
      by true e x y z = rw e (omega (arith, z))
      by false e x y z = rw e (omega (arith, x, y, z))

  tidied : (ts : Trees) → weigh w (tidied_below ts) ≤ weigh w ts
  tidied no_trees = omega arith
  tidied (tree c bs cs rest) = omega (arith, filled (all_merged bs), merged bs, filled (all_merged cs), merged cs, tidied rest)

module _ (i : ℕ) where
  -- ---- primitives add what they bring
  brought_both : (p : PrimitiveTerm) (ps : List PrimitiveTerm) → count i (new_trees (p ∷ ps)) ≡ count i (trees_of p) + count i (new_trees ps)
  brought_both p ps = counts_both i (trees_of p) (new_trees ps)

  one : (p : PrimitiveTerm) (ts : Trees) → count i ts ≡ 0 → count i (trees_of p) ≡ 0 → count i (effect p ts) ≡ 0
  one p ts h g =
      let most : count i (effect p ts) ≤ count i ts + count (target_of p) ts * count i (trees_of p) = weigh-effect (λ k. cond (eqb i k) 1 0) p ts in
      let none : count (target_of p) ts * count i (trees_of p) ≡ 0 = rw g (omega arith) in
      omega (arith, most, none, h)

  all : (ps : List PrimitiveTerm) (ts : Trees) → count i (new_trees ps) ≡ 0 → count i ts ≡ 0 → count i (effects ps ts) ≡ 0
  all [] ts g h = h
  all (p ∷ ps) ts g h = all ps (effect p ts) (omega (arith, g, brought_both p ps)) (one p ts h (omega (arith, g, brought_both p ps)))

  stage : (n : ℕ) (ps : List PrimitiveTerm) → count i (new_trees ps) ≡ 0 → count i (new_trees (of_stage n ps)) ≡ 0
  stage n [] g = refl
  stage n (p ∷ ps) g =
      let rest = stage n ps (omega (arith, g, brought_both p ps)) in
      ⊎_elim (λ t. rw t.0 (omega (arith, rest, g, brought_both p ps, brought_both p (of_stage n ps)))) (λ t. rw t.0 rest) (eqb_tells n (stage_of p))

  run_all : (ps : List PrimitiveTerm) (ts : Trees) → count i (new_trees ps) ≡ 0 → count i ts ≡ 0 → count i (staged ps ts) ≡ 0
  run_all ps ts g h =
      all (of_stage 5 ps) _ (stage 5 ps g) (all (of_stage 4 ps) _ (stage 4 ps g) (all (of_stage 3 ps) _ (stage 3 ps g) (all (of_stage 2 ps) _ (stage 2 ps g) (all (of_stage 1 ps) ts (stage 1 ps g) h))))

  of_changed : (ps : List PrimitiveTerm) (ts : Trees) → count i (new_trees ps) ≡ 0 → count i ts ≡ 0 → count i (changed ps ts) ≡ 0
  of_changed ps ts g h = omega (arith, tidied (λ k. cond (eqb i k) 1 0) (staged ps ts), run_all ps ts g h)

  pub of_each : (choice : Choice) (ps : List PrimitiveTerm) (ts : Trees) → count i (new_trees ps) ≡ 0 → count i ts ≡ 0 → count i (each_chosen choice (changed ps) ts) ≡ 0
  of_each choice ps no_trees g h = refl
  of_each choice ps (tree c bs cs rest) g h = by (of_each choice ps rest g (omega (arith, h))) (choice c) refl
    where
      by : count i (each_chosen choice (changed ps) rest) ≡ 0 → (b : Bool) → choice c ≡ b → count i (each_chosen choice (changed ps) (tree c bs cs rest)) ≡ 0
      by others true e =
          let it = of_changed ps (tree c bs cs no_trees) g (omega (arith, h)) in
          rw e (omega (arith, it, others, counts_both i (changed ps (tree c bs cs no_trees)) (each_chosen choice (changed ps) rest)))
      by others false e = rw e (omega (arith, h, others))
