use Rattle.std.proofs.Common.{◌≡◌, true, false, None, sym, ◌∙◌, subst, Option}
use Rattle.data_model.specs.Trees.{Place}
use Rattle.data_model.specs.Views.{Views}
use Rattle.pending.specs.Compatible.{is_among}
use Rattle.chosen_drafts.proofs.Chosen.{seen, unseen}
use Rattle.chosen_drafts.proofs.some_trees.SomeTrees.node.Goals as goal

pub returns-then-contains : goal.returns-then-contains
returns-then-contains c =
    let a = c.self.inside in
    let among : is_among a.nodes.keys c.args.id ≡ true = rw (sym c.number.ensures) (sym c.contains.ensures ∙ c.if-contains.true) in
    let P : Option Place → Type 0 = λ o. Views c.node.result o in
    rw (sym c.self.view_is) (subst P (sym (seen a.roots.items a.nodes.keys a.others c.args.id a.draft c.self.invariant among)) c.node.ensures)

pub returns-else-contains : goal.returns-else-contains
returns-else-contains c =
    let a = c.self.inside in
    let among : is_among a.nodes.keys c.args.id ≡ false = rw (sym c.number.ensures) (sym c.contains.ensures ∙ c.if-contains.false) in
    let P : Option Place → Type 0 = λ o. Views None o in
    rw (sym c.self.view_is) (subst P (sym (unseen a.roots.items a.nodes.keys a.others c.args.id a.draft c.self.invariant among)) tt)
