-- The copy of a node.
use Rattle.std.proofs.Common.{◌≡◌, ℕ, ◌+◌, ◌-◌, ◌/◌, Bool, true, false, cond, nat_le, None, Option, Some, IsSome, Result, Ok, Err, refl, sym, ap, ◌∙◌, subst, arith, ⊎_elim}
use Rattle.chosen_drafts.specs.Chosen.{IsRoot}
use Rattle.data_model.specs.Changes.{pick, renumbered}
use Rattle.data_model.specs.Trees.{Trees, append, bytes_in, count, find, first, parent_at, Place, no_trees, size, tree}
use Rattle.data_model.proofs.Climbs.{any-tells, find-absent}
use Rattle.data_model.proofs.Weights.{eqb-same}
use Rattle.trees.proofs.CallerLemmas.{find-append, picked-place}
use Rattle.shelves.specs.Shelf.{IsShelf}
use Rattle.fault_codes.specs.declared.code.Code.{Code}
use Rattle.fault_codes.specs.declared.code.Code.TheVariants.{PXQ0002, PXQ0003}
use Rattle.query_meaning.specs.Copies.{copy_of}
use Rattle.query_meaning.specs.Running.{Run, and_then, most_nodes, pure, standing, trees_of, ◌>>=◌}
use Rattle.evaluation.specs.Copying.{standing_copy}
use Rattle.query_copies.specs.Kept.{IsCopy}
use Rattle.query_copies.proofs.Adding.{counts_both}

module _ (i : ℕ) (old : Run) where
  abbrev us : Trees
  us = pick i (trees_of old)

  -- the trees then, and the next identity
  abbrev with_copy : Run
  with_copy = record old { shelf = record old.shelf { own = record old.shelf.own { trees = append old.shelf.own.trees (renumbered old.shelf.own.next us); next = old.shelf.own.next + size us } } }

  abbrev value_or : ℕ × Run → Result (ℕ × Run) Code → ℕ × Run
  value_or p (Ok q) = q
  value_or p (Err code) = p

  came_to : (k : ℕ) (new : Run) → standing_copy i old ≡ Ok (k, new) → ◌≡◌ {A = ℕ × Run} (old.shelf.own.next, with_copy) (k, new)
  came_to k new e = by (nat_le (old.shelf.own.next + size us) (old.shelf.lent.next + most_nodes)) e
    where
      by : (b : Bool)
          → and_then (cond b (Ok (old.shelf.own.next, record old { shelf = record old.shelf { own = record old.shelf.own { next = old.shelf.own.next + size us } } })) (Err PXQ0003)) (λ n. standing (renumbered n us) >>= (λ _. pure n)) ≡ Ok (k, new)
          → ◌≡◌ {A = ℕ × Run} (old.shelf.own.next, with_copy) (k, new)
      by true h = ap (value_or (k, new)) h
      by false h = cc

  abbrev next : ℕ
  next = old.shelf.own.next

  module _ (shelf : IsShelf old.shelf) (there : IsSome (find i (trees_of old))) where
    nowhere : count next (trees_of old) ≡ 0
    nowhere = ⊎_elim (λ t. (let below = shelf.below next t.1 in absurd (omega (arith, below)))) (λ t. t.1) (any-tells (count next (trees_of old)))

    not_own : count next old.shelf.own.trees ≡ 0
    not_own = omega (arith, nowhere, counts_both next old.shelf.lent.trees old.shelf.own.trees)

    first_found : (x : Place) → find i (trees_of old) ≡ Some x → IsRoot (append old.shelf.own.trees (renumbered next us)) next
    first_found x e =
        let picked : us ≡ tree x.content x.attributes x.children no_trees = picked-place None i (trees_of old) x shelf.distinct e in
        let root : Place = record { parent = None; content = record x.content { identity = next }; attributes = renumbered (next + 1) x.attributes; children = renumbered (next + 1 + size x.attributes) x.children } in
        let alone : find next (renumbered next us) ≡ Some root = ap (λ ts. find next (renumbered next ts)) picked ∙ rw (eqb-same next) refl in
        let found : find next (append old.shelf.own.trees (renumbered next us)) ≡ Some root =
        find-append None next old.shelf.own.trees (renumbered next us) ∙ ap (λ o. first o (find next (renumbered next us))) (find-absent None next old.shelf.own.trees not_own) ∙ alone in
        (subst IsSome (sym found) refl, ap parent_at found)

    stands : (o : Option Place) → find i (trees_of old) ≡ o → IsRoot (append old.shelf.own.trees (renumbered next us)) next
    stands None e = absurd (let z = subst IsSome e there in cc)
    stands (Some x) e = first_found x e

    made : IsCopy old next with_copy
    made = record {
      adds = record { lent = refl; more = renumbered next us; own = refl };
      stands = stands (find i (trees_of old)) refl;
      is_new = nowhere;
    }

unpaid_stands : (i : ℕ) (old new : Run) (k : ℕ) → IsShelf old.shelf → IsSome (find i (trees_of old)) → standing_copy i old ≡ Ok (k, new) → IsCopy old k new
unpaid_stands i old new k shelf there e =
    let P : ℕ × Run → Type 0 = λ p. IsCopy old p.0 p.1 in
    subst P (came_to i old k new e) (made i old shelf there)

-- the work that it takes changes no trees
pub copy_stands : (i : ℕ) (old new : Run) (k : ℕ) → IsShelf old.shelf → IsSome (find i (trees_of old)) → copy_of i old ≡ Ok (k, new) → IsCopy old k new
copy_stands i old new k shelf there e = paid (bytes_in (pick i (trees_of old)) / 16) (nat_le (bytes_in (pick i (trees_of old)) / 16) old.work) e
  where
    paid : (n : ℕ) (b : Bool) → and_then {A = Unit {0}} (cond b (Ok (tt, record old { work = old.work - n })) (Err PXQ0002)) (λ _. standing_copy i) ≡ Ok (k, new) → IsCopy old k new
    paid n true h =
        let c = unpaid_stands i (record old { work = old.work - n }) new k shelf there h in
        record { adds = record { lent = c.adds.lent; more = c.adds.more; own = c.adds.own }; stands = c.stands; is_new = c.is_new }
    paid n false h = cc
