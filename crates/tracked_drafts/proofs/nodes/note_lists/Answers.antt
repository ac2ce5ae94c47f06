use Rattle.std.proofs.Common.{ℕ, List, ◌++◌, ap, sym, ◌∙◌, subst}
use Rattle.data_model.specs.Trees.{find, attributes_of, children_of}
use Rattle.tracked_drafts.specs.Walked.{AreApart}
use Rattle.tracked_drafts.proofs.Walking.{front-apart, lists-seen}
use Rattle.tracked_drafts.proofs.nodes.note_lists.Goals as goal

pub note-requires : goal.note-requires
note-requires c =
    let keys = c.args.nodes.now.keys in
    let ts = c.args.forest.now.trees in
    let seen = lists-seen c.in-Some.node (find c.args.id ts) c.in-Some.ensures in
    subst (λ (js : List ℕ). AreApart (keys ++ js)) (sym seen.0) (front-apart (keys ++ attributes_of c.args.id ts) (children_of c.args.id ts) c.requires)

pub note-requires-in-Some : goal.note-requires-in-Some
note-requires-in-Some c =
    let keys = c.args.nodes.now.keys in
    let ts = c.args.forest.now.trees in
    let seen = lists-seen c.in-Some.node (find c.args.id ts) c.in-Some.ensures in
    subst (λ (is : List ℕ). AreApart (is ++ c.in-Some.node.children.now)) (sym (c.in_ok-note-in-Some.ensures ∙ ap (λ js. keys ++ js) seen.0))
    (subst (λ (js : List ℕ). AreApart ((keys ++ attributes_of c.args.id ts) ++ js)) (sym seen.1) c.requires)
