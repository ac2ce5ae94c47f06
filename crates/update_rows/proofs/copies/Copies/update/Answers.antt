use Rattle.std.proofs.Common.{subst, sym}
use Rattle.trees.specs.Forest.{ForestTerm}
use Rattle.std.proofs.lemmas.Result.{on_err_weaker}
use Rattle.update_rows.specs.Ready.{AreReady}
use Rattle.update_words.proofs.Lists.{beside_copies}
use Rattle.update_rows.proofs.copies.Copies.update.Goals as goal

pub apply_copies-requires-clause-distinct : goal.apply_copies-requires-clause-distinct
apply_copies-requires-clause-distinct c = beside_copies c.args.self.now.forest c.args.self.now.next c.args.self.now.list c.facts.ensures c.requires.brings

pub returns : goal.returns
returns c =
    let P : ForestTerm → Type 0 = λ f. AreReady (record c.args.self.now { forest = f }) in
    on_err_weaker c.apply_copies.result (λ e. subst P (sym e) c.requires) c.apply_copies.ensures.refused
