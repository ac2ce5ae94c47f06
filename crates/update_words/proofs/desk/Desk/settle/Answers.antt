use Rattle.std.proofs.Common.{◌≡◌, ℕ, ◌≤◌, map, ap, sym, ◌∙◌, subst, arith}
use Rattle.data_model.specs.Trees.{append, count}
use Rattle.trees.specs.Forest.{ForestTerm}
use Rattle.trees.specs.Drafts.{drafted_forest}
use Rattle.pending.specs.Primitives.{primitive_term}
use Rattle.update_meaning.specs.Brought.{new_trees}
use Rattle.update_meaning.specs.Results.{IsStored}
use Rattle.update_words.specs.Ready.{IsReady}
use Rattle.update_words.proofs.Lists.{beside_forest, next_after, no_lists}
use Rattle.update_words.proofs.desk.Desk.settle.Goals as goal

pub prepare-requires-clause-distinct : goal.prepare-requires-clause-distinct
prepare-requires-clause-distinct c =
    let P : ForestTerm → Type 0 = λ f. (i : ℕ) → count i (append f.trees (new_trees (map primitive_term c.args.self.now.list))) ≤ 1 in
    subst P (sym c.replace-was.ensures.value) (beside_forest c.args.self.now.forest c.args.self.now.next c.args.self.now.list c.args.self.now.other c.facts.ensures c.requires.brings)

pub returns-in-Err : goal.returns-in-Err
returns-in-Err c =
    let P : ForestTerm → Type 0 = λ f. IsReady (record c.args.self.now { forest = f }) in
    subst P (sym (c.in-Err.ensures.refused ∙ c.replace-was.ensures.value)) c.requires

pub returns-in-Ok : goal.returns-in-Ok
returns-in-Ok c =
    let bound = c.requires.brings.bound in
    let given : c.in-Ok.prepared.next ≡ c.new-next.result = next_after (map primitive_term c.args.self.now.list) c.new-next.result c.replace-was.result (drafted_forest c.in-Ok.prepared) c.in-Ok.ensures.applied in
    let next : c.settle.result.next ≡ c.args.self.now.next = ap (λ (f : ForestTerm). f.next) c.settle.ensures ∙ given ∙ c.new-next.ensures in
    record {
      stored = subst (λ (f : ForestTerm). IsStored f.trees) (sym c.settle.ensures) c.in-Ok.ensures.stored;
      brings = no_lists c.settle.result.next c.args.self.now.next c.new.result c.new-in-Ok.result c.new.ensures c.new-in-Ok.ensures (omega arith) bound;
    }
