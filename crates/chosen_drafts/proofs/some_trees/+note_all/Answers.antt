use Rattle.std.proofs.Common.{◌≡◌, ℕ, ◌+◌, ◌<◌, true, ap, ◌∙◌, subst, arith}
use Rattle.data_model.specs.Trees.{Trees, Content, count, size}
use Rattle.data_model.specs.Tree.{all_of}
use Rattle.data_model.proofs.Turns.{weigh-turn}
use Rattle.pending.specs.Compatible.{is_among}
use Rattle.chosen_drafts.specs.Noting.{Notes}
use Rattle.chosen_drafts.proofs.Noted.{Adds, nothing, turned, within, all-noted}
use Rattle.chosen_drafts.proofs.some_trees.+note_all.Goals as goal

pub note_all-requires : goal.note_all-requires
note_all-requires t c =
    let item = c.tree-item.result in
    let weight = weigh-turn (λ _. 1) c.args.trees.now c.loop-tree.tree-index item c.loop-tree-test.true c.tree-item.is in
    let less = c.decreases in
    let bs : size (all_of c.attributes.result.now) ≡ size item.attributes = ap size c.attributes.ensures in
    (omega arith, tt)

pub note_all-requires-in-loop-tree : goal.note_all-requires-in-loop-tree
note_all-requires-in-loop-tree t c =
    let item = c.tree-item.result in
    let weight = weigh-turn (λ _. 1) c.args.trees.now c.loop-tree.tree-index item c.loop-tree-test.true c.tree-item.is in
    let less = c.decreases in
    let cs : size (all_of c.children.result.now) ≡ size item.children = ap size c.children.ensures in
    (omega arith, tt)

pub returns-in_err-note-clause-notes : goal.returns-in_err-note-clause-notes
returns-in_err-note-clause-notes t c =
    let item = c.tree-item.result in
    let ts = c.args.trees.now in
    let at = c.loop-tree.tree-index in
    let a = c.args.nodes.now.keys in
    let k0 = c.loop-tree.nodes.keys in
    let k1 = c.note.new.nodes.keys in
    let id : c.behind-tree.inside.identity ≡ item.content.identity = ap (λ (n : Content). n.identity) c.behind-tree.view_is ∙ ap (λ (n : Content). n.identity) c.content.ensures in
    let one : Adds k0 k1 item.content.identity = subst (Adds k0 k1) id (record { grows = c.note.ensures.grows; only = c.note.ensures.only }) in
    within a k1 (at + 1) ts (turned ts at item a k0 k1 k1 k1 c.loop-tree-test.true c.tree-item.is c.loop-tree.invariant.notes one (nothing k1 item.attributes) (nothing k1 item.children))

pub returns-in_err-note_all-clause-notes : goal.returns-in_err-note_all-clause-notes
returns-in_err-note_all-clause-notes t c =
    let item = c.tree-item.result in
    let ts = c.args.trees.now in
    let at = c.loop-tree.tree-index in
    let a = c.args.nodes.now.keys in
    let k0 = c.loop-tree.nodes.keys in
    let k1 = c.note.new.nodes.keys in
    let k2 = c.note_all.new.nodes.keys in
    let id : c.behind-tree.inside.identity ≡ item.content.identity = ap (λ (n : Content). n.identity) c.behind-tree.view_is ∙ ap (λ (n : Content). n.identity) c.content.ensures in
    let one : Adds k0 k1 item.content.identity = subst (Adds k0 k1) id (record { grows = c.note.ensures.grows; only = c.note.ensures.only }) in
    within a k2 (at + 1) ts (turned ts at item a k0 k1 k2 k2 c.loop-tree-test.true c.tree-item.is c.loop-tree.invariant.notes one (subst (Notes k1 k2) c.attributes.ensures c.note_all.ensures.notes) (nothing k2 item.children))

pub returns-in_err-note_all-2-clause-notes : goal.returns-in_err-note_all-2-clause-notes
returns-in_err-note_all-2-clause-notes t c =
    let item = c.tree-item.result in
    let ts = c.args.trees.now in
    let at = c.loop-tree.tree-index in
    let a = c.args.nodes.now.keys in
    let k0 = c.loop-tree.nodes.keys in
    let k1 = c.note.new.nodes.keys in
    let k2 = c.note_all.new.nodes.keys in
    let k3 = c.note_all-in-loop-tree.new.nodes.keys in
    let id : c.behind-tree.inside.identity ≡ item.content.identity = ap (λ (n : Content). n.identity) c.behind-tree.view_is ∙ ap (λ (n : Content). n.identity) c.content.ensures in
    let one : Adds k0 k1 item.content.identity = subst (Adds k0 k1) id (record { grows = c.note.ensures.grows; only = c.note.ensures.only }) in
    within a k3 (at + 1) ts (turned ts at item a k0 k1 k2 k3 c.loop-tree-test.true c.tree-item.is c.loop-tree.invariant.notes one (subst (Notes k1 k2) c.attributes.ensures c.note_all.ensures.notes) (subst (Notes k2 k3) c.children.ensures c.note_all-in-loop-tree.ensures.notes))

pub loop-tree-preserved : goal.loop-tree-preserved
loop-tree-preserved t c =
    let item = c.tree-item.result in
    let ts = c.args.trees.now in
    let at = c.loop-tree.tree-index in
    let a = c.args.nodes.now.keys in
    let k0 = c.loop-tree.nodes.keys in
    let k1 = c.note.new.nodes.keys in
    let k2 = c.note_all.new.nodes.keys in
    let k3 = c.note_all-in-loop-tree.new.nodes.keys in
    let id : c.behind-tree.inside.identity ≡ item.content.identity = ap (λ (n : Content). n.identity) c.behind-tree.view_is ∙ ap (λ (n : Content). n.identity) c.content.ensures in
    let one : Adds k0 k1 item.content.identity = subst (Adds k0 k1) id (record { grows = c.note.ensures.grows; only = c.note.ensures.only }) in
    let there : is_among k1 item.content.identity ≡ true = subst (λ (j : ℕ). is_among k1 j ≡ true) id c.in_ok-note.ensures.noted in
    let n2 = subst (Notes k1 k2) c.attributes.ensures c.note_all.ensures.notes in
    let n3 = subst (Notes k2 k3) c.children.ensures c.note_all-in-loop-tree.ensures.notes in
    record {
      notes = turned ts at item a k0 k1 k2 k3 c.loop-tree-test.true c.tree-item.is c.loop-tree.invariant.notes one n2 n3;
      noted = all-noted ts at item k0 k1 k2 k3 c.loop-tree-test.true c.tree-item.is c.loop-tree.invariant.noted one there n2 (subst (λ (us : Trees). (i : ℕ) → 0 < count i us → is_among k2 i ≡ true) c.attributes.ensures c.in_ok-note_all.ensures.noted) n3
          (subst (λ (us : Trees). (i : ℕ) → 0 < count i us → is_among k3 i ≡ true) c.children.ensures c.in_ok-note_all-2.ensures.noted);
    }
