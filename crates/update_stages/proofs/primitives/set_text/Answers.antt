use Rattle.std.proofs.Common.{refl}
use Rattle.data_model.specs.Trees.{find}
use Rattle.update_stages.proofs.LookUps.{content-nowhere, no-view}
use Rattle.update_stages.proofs.primitives.set_text.Goals as goal

pub returns-then-is_none-clause-set : goal.returns-then-is_none-clause-set
returns-then-is_none-clause-set c =
    rw (
    content-nowhere c.args.id (λ d. record d { text = c.args.text.now }) c.args.draft.now.draft.after
    (no-view c.node.result (find c.args.id c.args.draft.now.draft.after) c.if-is_none.ensures c.node.ensures)) refl
