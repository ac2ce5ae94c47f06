-- A copy of the tree of a node.
use Rattle.std.proofs.Common.{◌≡◌, ◌≤◌, ℕ, ◌+◌, Bool, true, cond, nat_le, IsSome, Ok, Err, sym, ap, subst, arith, ⊎_elim}
use Rattle.std.proofs.lemmas.Bool.Decides.{leb_tells}
use Rattle.data_model.specs.Changes.{pick, renumbered}
use Rattle.data_model.specs.Trees.{Trees, append, size}
use Rattle.shelves.specs.Shelf.{ShelfTerm}
use Rattle.shelves.proofs.Stays.{stays-more}
use Rattle.fault_codes.specs.declared.code.Code.TheVariants.{PXQ0003}
use Rattle.query_meaning.specs.Running.{Run, and_then, most_nodes, pure, standing, trees_of, ◌>>=◌}
use Rattle.evaluation.specs.Copying.{standing_copy}
use Rattle.evaluation.specs.Gives.{Any, GivesIn}

module _ (i : ℕ) (old : Run) where
  abbrev us : Trees
  us = pick i (trees_of old)

  -- the trees then
  abbrev pub with_copy : ShelfTerm
  with_copy = record old.shelf { own = record old.shelf.own { trees = append old.shelf.own.trees (renumbered old.shelf.own.next us); next = old.shelf.own.next + size us } }

  after : (b : Bool) → nat_le (old.shelf.own.next + size us) (old.shelf.lent.next + most_nodes) ≡ b
      → standing_copy i old ≡ and_then (cond b (Ok (old.shelf.own.next, record old { shelf = record old.shelf { own = record old.shelf.own { next = old.shelf.own.next + size us } } })) (Err PXQ0003)) (λ n. standing (renumbered n us) >>= (λ _. pure n))
  after b e = ap (λ c. and_then (cond c (Ok (old.shelf.own.next, record old { shelf = record old.shelf { own = record old.shelf.own { next = old.shelf.own.next + size us } } })) (Err PXQ0003)) (λ n. standing (renumbered n us) >>= (λ _. pure n))) e

  pub copy_gives : (root : ℕ) (shelf : ShelfTerm) → old.shelf.own.next + size us ≤ old.shelf.lent.next + most_nodes → root ≡ old.shelf.own.next → shelf ≡ with_copy → GivesIn Any (standing_copy i) old (Ok root) (record old { shelf = shelf })
  copy_gives root shelf room is now =
      let P : ℕ → Type 0 = λ n. GivesIn Any (standing_copy i) old (Ok n) (record old { shelf = shelf }) in
      let Q : ShelfTerm → Type 0 = λ s. GivesIn Any (standing_copy i) old (Ok old.shelf.own.next) (record old { shelf = s }) in
      subst P (sym is) (subst Q (sym now) (
        ⊎_elim (λ t. after true t.0) (λ t. absurd (omega (arith, t.1, room))) (leb_tells (old.shelf.own.next + size us) (old.shelf.lent.next + most_nodes)),
        (record { kept = λ j there. subst IsSome (sym (stays-more old.shelf j there (renumbered old.shelf.own.next us) (old.shelf.own.next + size us))) there }, tt),
      ))
