use Rattle.std.proofs.Common.{ℕ, ◌≤◌, map, sym, ◌∙◌, subst}
use Rattle.data_model.specs.Trees.{append, count}
use Rattle.trees.specs.Forest.{ForestTerm}
use Rattle.pending.specs.Primitives.{primitive_term}
use Rattle.update_meaning.specs.Brought.{new_trees}
use Rattle.update_words.specs.Ready.{IsReady}
use Rattle.update_words.proofs.Lists.{beside_forest}
use Rattle.update_words.proofs.desk.Desk.discard.Goals as goal

pub prepare-requires-clause-distinct : goal.prepare-requires-clause-distinct
prepare-requires-clause-distinct c =
    let P : ForestTerm → Type 0 = λ f. (i : ℕ) → count i (append f.trees (new_trees (map primitive_term c.args.self.now.list))) ≤ 1 in
    subst P (sym c.replace-was.ensures.value) (beside_forest c.args.self.now.forest c.args.self.now.next c.args.self.now.list c.args.self.now.other c.facts.ensures c.requires.brings)

pub returns-in-Err : goal.returns-in-Err
returns-in-Err c =
    let P : ForestTerm → Type 0 = λ f. IsReady (record c.args.self.now { forest = f }) in
    subst P (sym (c.in-Err.ensures.refused ∙ c.replace-was.ensures.value)) c.requires

pub returns-in-Ok : goal.returns-in-Ok
returns-in-Ok c =
    let P : ForestTerm → Type 0 = λ f. IsReady (record c.args.self.now { forest = f }) in
    subst P (sym (c.discard.ensures ∙ c.in-Ok.ensures.before ∙ c.replace-was.ensures.value)) c.requires
