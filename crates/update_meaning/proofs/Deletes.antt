-- Deletes commute, and several of one node are one.
use Rattle.std.proofs.Common.{◌≡◌, ℕ, Bool, true, false, cond, ◌==◌, List, [], ◌∷◌, ◌++◌, refl, ap, sym, ◌∙◌, ⊎_elim}
use Rattle.std.proofs.lemmas.Bool.Decides.{eqb_tells}
use Rattle.data_model.specs.Trees.{Trees, no_trees, tree}
use Rattle.pending.specs.Primitives.{PrimitiveTerm, delete}
use Rattle.update_meaning.specs.Effects.{with_tree, effect, effects, stage_of, of_stage, staged}

without : ℕ → Trees → Trees
without i = with_tree i (λ t. no_trees)

commute : (i j : ℕ) (ts : Trees) → without i (without j ts) ≡ without j (without i ts)
unfolding without
commute i j no_trees = refl
commute i j (tree c bs cs rest) =
    let b = commute i j bs in
    let d = commute i j cs in
    let r = commute i j rest in
    ⊎_elim
    (λ t. ⊎_elim (λ s. rw t.0 (rw s.0 r)) (λ s. rw t.0 (rw s.0 (rw t.0 r))) (eqb_tells i c.identity))
    (λ t. ⊎_elim (λ s. rw t.0 (rw s.0 r)) (λ s. rw t.0 (rw s.0 (rw t.0 (λ x. tree c (b x) (d x) (r x))))) (eqb_tells i c.identity))
    (eqb_tells j c.identity)

commute-below : (i j : ℕ) (ts : Trees) → effect (delete i) (effect (delete j) ts) ≡ effect (delete j) (effect (delete i) ts)
unfolding without
commute-below i j no_trees = refl
commute-below i j (tree c bs cs rest) = λ x. tree c (commute i j bs x) (commute i j cs x) (commute-below i j rest x)

twice : (i : ℕ) (ts : Trees) → without i (without i ts) ≡ without i ts
unfolding without
twice i no_trees = refl
twice i (tree c bs cs rest) =
    ⊎_elim (λ t. rw t.0 (twice i rest)) (λ t. rw t.0 (rw t.0 (λ x. tree c (twice i bs x) (twice i cs x) (twice i rest x)))) (eqb_tells i c.identity)

twice-below : (i : ℕ) (ts : Trees) → effect (delete i) (effect (delete i) ts) ≡ effect (delete i) ts
unfolding without
twice-below i no_trees = refl
twice-below i (tree c bs cs rest) = λ x. tree c (twice i bs x) (twice i cs x) (twice-below i rest x)

-- ---- lists of primitives
kept : (b : Bool) (p : PrimitiveTerm) (xs ys zs : List PrimitiveTerm) → zs ≡ xs ++ ys → cond b (p ∷ zs) zs ≡ cond b (p ∷ xs) xs ++ ys
kept true p xs ys zs e = λ x. p ∷ e x
kept false p xs ys zs e = e

of_stage-append : (n : ℕ) (ps qs : List PrimitiveTerm) → of_stage n (ps ++ qs) ≡ of_stage n ps ++ of_stage n qs
of_stage-append n [] qs = refl
of_stage-append n (p ∷ ps) qs = kept (n == stage_of p) p (of_stage n ps) (of_stage n qs) (of_stage n (ps ++ qs)) (of_stage-append n ps qs)

effects-append : (ps qs : List PrimitiveTerm) (ts : Trees) → effects (ps ++ qs) ts ≡ effects qs (effects ps ts)
effects-append [] qs ts = refl
effects-append (p ∷ ps) qs ts = effects-append ps qs (effect p ts)

-- the trees before the last stage
before_deletes : (ps qs : List PrimitiveTerm) → Trees → Trees
before_deletes ps qs ts =
    effects (of_stage 4 ps ++ of_stage 4 qs) (effects (of_stage 3 ps ++ of_stage 3 qs) (effects (of_stage 2 ps ++ of_stage 2 qs) (effects (of_stage 1 ps ++ of_stage 1 qs) ts)))

-- deletes among others stand in the last stage alone
two-deletes : (ps : List PrimitiveTerm) (i j : ℕ) (qs : List PrimitiveTerm) (ts : Trees)
    → staged (ps ++ delete i ∷ delete j ∷ qs) ts ≡ effects (of_stage 5 qs) (effect (delete j) (effect (delete i) (effects (of_stage 5 ps) (before_deletes ps qs ts))))
unfolding before_deletes
two-deletes ps i j qs ts = all ∙ effects-append (of_stage 5 ps) (delete i ∷ delete j ∷ of_stage 5 qs) (before_deletes ps qs ts)
  where
    some : List PrimitiveTerm
    some = delete i ∷ delete j ∷ qs

    all : staged (ps ++ some) ts ≡ effects (of_stage 5 ps ++ of_stage 5 some) (before_deletes ps qs ts)
    all x = effects (of_stage-append 5 ps some x) (effects (of_stage-append 4 ps some x) (effects (of_stage-append 3 ps some x) (effects (of_stage-append 2 ps some x) (effects (of_stage-append 1 ps some x) ts))))

one-delete : (ps : List PrimitiveTerm) (i : ℕ) (qs : List PrimitiveTerm) (ts : Trees)
    → staged (ps ++ delete i ∷ qs) ts ≡ effects (of_stage 5 qs) (effect (delete i) (effects (of_stage 5 ps) (before_deletes ps qs ts)))
unfolding before_deletes
one-delete ps i qs ts = all ∙ effects-append (of_stage 5 ps) (delete i ∷ of_stage 5 qs) (before_deletes ps qs ts)
  where
    some : List PrimitiveTerm
    some = delete i ∷ qs

    all : staged (ps ++ some) ts ≡ effects (of_stage 5 ps ++ of_stage 5 some) (before_deletes ps qs ts)
    all x = effects (of_stage-append 5 ps some x) (effects (of_stage-append 4 ps some x) (effects (of_stage-append 3 ps some x) (effects (of_stage-append 2 ps some x) (effects (of_stage-append 1 ps some x) ts))))

pub any-order : (ps : List PrimitiveTerm) (i j : ℕ) (qs : List PrimitiveTerm) (ts : Trees) → staged (ps ++ delete i ∷ delete j ∷ qs) ts ≡ staged (ps ++ delete j ∷ delete i ∷ qs) ts
any-order ps i j qs ts =
    two-deletes ps i j qs ts ∙ ap (effects (of_stage 5 qs)) (commute-below j i (effects (of_stage 5 ps) (before_deletes ps qs ts))) ∙ sym (two-deletes ps j i qs ts)

pub once : (ps : List PrimitiveTerm) (i : ℕ) (qs : List PrimitiveTerm) (ts : Trees) → staged (ps ++ delete i ∷ delete i ∷ qs) ts ≡ staged (ps ++ delete i ∷ qs) ts
once ps i qs ts = two-deletes ps i i qs ts ∙ ap (effects (of_stage 5 qs)) (twice-below i (effects (of_stage 5 ps) (before_deletes ps qs ts))) ∙ sym (one-delete ps i qs ts)
