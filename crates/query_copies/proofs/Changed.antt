-- What changes of copies leave.
use Rattle.std.proofs.Common.{◌≡◌, ◌≤◌, ◌<◌, ℕ, Bool, true, false, cond, eqb, List, Option, Some, None, IsSome, Result, Ok, Err, refl, sym, ap, ◌∙◌, subst, arith, ⊎_elim}
use Rattle.std.proofs.lemmas.Bool.Decides.{eqb_tells}
use Rattle.std.proofs.lemmas.List.Elements.{All-weaker}
use Rattle.data_model.specs.Trees.{Trees, no_trees, tree, append, count, find, find_below, first, parent_at, Place}
use Rattle.data_model.proofs.Climbs.{any-tells, find-present, there-counts}
use Rattle.data_model.proofs.Weights.{eqb-same}
use Rattle.trees.specs.Forest.{ForestTerm}
use Rattle.shelves.specs.Shelf.{ComesAfter, IsShelf}
use Rattle.pending.specs.Compatible.{is_among}
use Rattle.pending.specs.Primitives.{PrimitiveTerm}
use Rattle.fault_codes.specs.declared.code.Code.{Code}
use Rattle.update_meaning.specs.Brought.{new_trees}
use Rattle.update_meaning.specs.Changed.{Choice, applied_to_copies, changed, each_chosen, or_code, rooted_at, updated_chosen, with_changed}
use Rattle.update_meaning.specs.Results.{with_trees}
use Rattle.update_meaning.proofs.Each.{KeepsRoot, Keeps, by_identity, changes, others-stay}
use Rattle.chosen_drafts.specs.Chosen.{IsRoot, others}
use Rattle.chosen_drafts.proofs.Chosen.{counts-both}
use Rattle.query_meaning.specs.Running.{Run, trees_of}
use Rattle.query_copies.specs.Kept.{AreCopies, Bring, Survive}
use Rattle.query_copies.proofs.Absent.{of_each}
use Rattle.query_copies.proofs.Adding.{counts_both, of_among}

-- ---- the forest then
module _ (is : List ℕ) (ps : List PrimitiveTerm) (f : ForestTerm) where
  abbrev pub became : ForestTerm
  became = record f { trees = with_changed (rooted_at is) ps f.trees; next = f.next }

  abbrev forest_or : ForestTerm → Result ForestTerm Code → ForestTerm
  forest_or g (Ok h) = h
  forest_or g (Err code) = g

  pub becomes : (g : ForestTerm) → applied_to_copies is ps f.next f ≡ Ok g → became ≡ g
  becomes g e = by (updated_chosen (rooted_at is) ps f.trees) e
    where
      by : (r : Result Trees Code) → with_trees f f.next (or_code r (with_changed (rooted_at is) ps f.trees)) ≡ Ok g → became ≡ g
      by (Ok us) h = ap (forest_or g) h
      by (Err code) h = cc

-- what primitives bring, beside the trees that were made
module _ (ps : List PrimitiveTerm) (run : Run) (bring : Bring ps run) (i : ℕ) where
  pub once_each : count i (append run.shelf.own.trees (new_trees ps)) ≤ 1
  once_each = omega (arith, bring.distinct i, counts_both i (trees_of run) (new_trees ps), counts_both i run.shelf.lent.trees run.shelf.own.trees, counts_both i run.shelf.own.trees (new_trees ps))

  pub below_next : 0 < count i (new_trees ps) → i < run.shelf.own.next
  below_next h = bring.below i (omega (arith, h, counts_both i run.shelf.own.trees (new_trees ps)))

-- it comes after the lent forest still
pub comes_after : (is : List ℕ) (ps : List PrimitiveTerm) (run : Run) (g : ForestTerm) → IsShelf run.shelf → Bring ps run → applied_to_copies is ps run.shelf.own.next run.shelf.own ≡ Ok g
    → ComesAfter run.shelf.lent g
comes_after is ps run g shelf bring e = subst (ComesAfter run.shelf.lent) (becomes is ps run.shelf.own g e) (record {
  documents = shelf.after.documents;
  later = shelf.after.later;
  apart = λ i there. ⊎_elim (λ t. bring.later i t.1) (λ t. absurd (none i there t.1)) (any-tells (count i (append run.shelf.own.trees (new_trees ps))));
})
  where
    none : (i : ℕ) → 0 < count i (with_changed (rooted_at is) ps run.shelf.own.trees) → count i (append run.shelf.own.trees (new_trees ps)) ≡ 0 → ⊥
    none i there zero =
        let both = counts_both i run.shelf.own.trees (new_trees ps) in
        let gone = of_each i (rooted_at is) ps run.shelf.own.trees (omega (arith, zero, both)) (omega (arith, zero, both)) in
        omega (arith, there, gone)

-- ---- a root stays
abbrev HasParent : Option Place → Type 0
HasParent None = Unit {0}
HasParent (Some x) = IsSome x.parent

either : (a b : Option Place) → HasParent a → HasParent b → HasParent (first a b)
either None b h g = g
either (Some x) b h g = h

has_parent : (q k : ℕ) (ts : Trees) → HasParent (find_below (Some q) k ts)
has_parent q k no_trees = tt
has_parent q k (tree c bs cs rest) =
    ⊎_elim (λ t. rw t.0 refl) (λ t. rw t.0 (either _ _ (has_parent c.identity k bs) (either _ _ (has_parent c.identity k cs) (has_parent q k rest)))) (eqb_tells k c.identity)

parentless : (o : Option ℕ) → IsSome o → o ≡ None → ⊥
parentless None h e = cc
parentless (Some p) h e = cc

-- what has no parent is found among the roots
among_roots : (a b o : Option Place) → HasParent a → HasParent b → IsSome (first a (first b o)) → parent_at (first a (first b o)) ≡ None → IsSome o × (parent_at o ≡ None)
among_roots None None o h g some none = (some, none)
among_roots None (Some y) o h g some none = absurd (parentless y.parent g none)
among_roots (Some x) b o h g some none = absurd (parentless x.parent h none)

module _ (choice : Choice) (g : Trees → Trees) (keeps : Keeps g) (k : ℕ) where
  root_stays : (ts : Trees) → IsSome (find k ts) → parent_at (find k ts) ≡ None → 0 < count k (each_chosen choice g ts)
  root_stays no_trees some none = absurd (let z = some in cc)
  root_stays (tree c bs cs rest) some none =
      ⊎_elim (λ t. front t.1 (choice c) refl)
      (λ t. (let below = among_roots (find_below (Some c.identity) k bs) (find_below (Some c.identity) k cs) (find k rest) (has_parent c.identity k bs) (has_parent c.identity k cs) (rw t.0 at some) (rw t.0 at none) in
      behind (choice c) refl (root_stays rest below.0 below.1)))
      (eqb_tells k c.identity)
    where
      r : KeepsRoot c (g (tree c bs cs no_trees))
      r = keeps.roots c bs cs

      it : k ≡ c.identity → 0 < cond (eqb k r.root.identity) 1 0
      it e = subst (λ (i : ℕ). 0 < cond (eqb k i) 1 0) (e ∙ sym r.identity) (rw (eqb-same k) (omega arith))

      front : k ≡ c.identity → (b : Bool) → choice c ≡ b → 0 < count k (each_chosen choice g (tree c bs cs rest))
      front e true f = rw f (rw r.is (omega (arith, it e)))
      front e false f = rw f (let one = subst (λ (i : ℕ). 0 < cond (eqb k i) 1 0) e (rw (eqb-same k) (omega arith)) in omega (arith, one))

      behind : (b : Bool) → choice c ≡ b → 0 < count k (each_chosen choice g rest) → 0 < count k (each_chosen choice g (tree c bs cs rest))
      behind true f h = rw f (omega (arith, h, counts_both k (g (tree c bs cs no_trees)) (each_chosen choice g rest)))
      behind false f h = rw f (omega (arith, h))

-- ---- what is in no copy stays
module _ (is : List ℕ) where
  others_both : (ts us : Trees) → others is (append ts us) ≡ append (others is ts) (others is us)
  others_both no_trees us = refl
  others_both (tree c bs cs rest) us = by (others_both rest us) (is_among is c.identity) refl
    where
      by : others is (append rest us) ≡ append (others is rest) (others is us) → (b : Bool) → is_among is c.identity ≡ b → others is (append (tree c bs cs rest) us) ≡ append (others is (tree c bs cs rest)) (others is us)
      by h true e = rw e h
      by h false e = rw e (ap (tree c bs cs) h)

  all_others : (ts : Trees) → ((k : ℕ) → is_among is k ≡ true → count k ts ≡ 0) → others is ts ≡ ts
  all_others no_trees h = refl
  all_others (tree c bs cs rest) h = by (all_others rest (λ k a. (let z = h k a in omega (arith, z)))) (is_among is c.identity) refl
    where
      by : others is rest ≡ rest → (b : Bool) → is_among is c.identity ≡ b → others is (tree c bs cs rest) ≡ tree c bs cs rest
      by g true e = absurd (let z = h c.identity e in let y = rw (eqb-same c.identity) at z in omega (arith, y))
      by g false e = rw e (ap (tree c bs cs) g)

module _ (is : List ℕ) (ps : List PrimitiveTerm) (start now : Run) (h : AreCopies start is now) where
  abbrev then_trees : Trees
  then_trees = with_changed (rooted_at is) ps now.shelf.own.trees

  stood_own : others is then_trees ≡ append start.shelf.own.trees (others is h.adds.more)
  stood_own =
      others-stay (rooted_at is) (by_identity is) (changed ps) (changes ps) now.shelf.own.trees ∙ ap (others is) h.adds.own ∙ others_both is start.shelf.own.trees h.adds.more
      ∙ ap (λ ts. append ts (others is h.adds.more)) (all_others is start.shelf.own.trees (λ k a. (let z = of_among (λ j. count j (trees_of start) ≡ 0) is k a h.are_new in omega (arith, z, counts_both k start.shelf.lent.trees start.shelf.own.trees))))

  counted : (i : ℕ) → count i start.shelf.own.trees ≤ count i then_trees
  counted i = omega (arith, counts-both is i then_trees, ap (count i) stood_own ∙ counts_both i start.shelf.own.trees (others is h.adds.more))

  -- with that forest in the place of the trees that were made
  pub survive : (g : ForestTerm) → applied_to_copies is ps now.shelf.own.next now.shelf.own ≡ Ok g → Survive start is (record now { shelf = record now.shelf { own = g } })
  survive g e = subst (λ (f : ForestTerm). Survive start is (record now { shelf = record now.shelf { own = f } })) (becomes is ps now.shelf.own g e) (record {
    grown = record { kept = λ i there. find-present None i (append now.shelf.lent.trees then_trees) (stands i (there-counts i (trees_of start) there)) };
    stand = All-weaker (IsRoot now.shelf.own.trees) (λ i. IsSome (find i (append now.shelf.lent.trees then_trees))) (λ i r. find-present None i (append now.shelf.lent.trees then_trees) (root i r)) is h.stand;
  })
    where
      stands : (i : ℕ) → 0 < count i (trees_of start) → 0 < count i (append now.shelf.lent.trees then_trees)
      stands i there =
          let lent : count i now.shelf.lent.trees ≡ count i start.shelf.lent.trees = ap (λ f. count i f.trees) h.adds.lent in
          omega (arith, there, lent, counted i, counts_both i start.shelf.lent.trees start.shelf.own.trees, counts_both i now.shelf.lent.trees then_trees)

      root : (i : ℕ) → IsRoot now.shelf.own.trees i → 0 < count i (append now.shelf.lent.trees then_trees)
      root i r = omega (arith, root_stays (rooted_at is) (changed ps) (changes ps) i now.shelf.own.trees r.0 r.1, counts_both i now.shelf.lent.trees then_trees)
