use Rattle.std.proofs.Common.{ℕ, ◌≤◌, map, sym, ◌∙◌, subst}
use Rattle.data_model.specs.Trees.{append, count}
use Rattle.trees.specs.Forest.{ForestTerm}
use Rattle.pending.specs.Primitives.{primitive_term}
use Rattle.update_meaning.specs.Brought.{new_trees}
use Rattle.update_words.proofs.Lists.{beside_copies}
use Rattle.update_rows.specs.Ready.{IsListed}
use Rattle.update_rows.proofs.undo.Listed.keep.Goals as goal

pub apply_undo-requires-clause-distinct : goal.apply_undo-requires-clause-distinct
apply_undo-requires-clause-distinct c =
    let P : ForestTerm → Type 0 = λ f. (i : ℕ) → count i (append f.trees (new_trees (map primitive_term c.args.self.now.list))) ≤ 1 in
    subst P (sym c.replace-was.ensures.value) (beside_copies c.args.self.now.forest c.args.self.now.next c.args.self.now.list c.facts.ensures c.requires.brings)

pub returns-in-Err : goal.returns-in-Err
returns-in-Err c =
    let P : ForestTerm → Type 0 = λ f. IsListed (record c.args.self.now { forest = f }) in
    subst P (sym (c.in-Err.ensures.refused ∙ c.replace-was.ensures.value)) c.requires
