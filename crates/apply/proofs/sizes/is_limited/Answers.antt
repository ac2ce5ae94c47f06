use Rattle.std.proofs.Common.{◌≡◌, ◌+◌, ◌∙◌, ℕ, Bool, true, false, ◌&&◌, nat_le, List, None, length, sym, refl, arith}
use Rattle.std.proofs.lemmas.Bool.Decides.{nat_tests}
use Rattle.data_model.specs.Trees.{Trees, find, roots}
use Rattle.tracked_drafts.specs.Tests.{is_limited}
use Rattle.tracked_drafts.proofs.Exits.{passes-found, passes-absent}
use Rattle.apply.proofs.Turns.{seen, unseen}
use Rattle.apply.proofs.sizes.is_limited.Goals as goal

-- both tests
small : (a b : List ℕ) (bs cs : Trees) (s t : List ℕ) → a ≡ roots bs → b ≡ roots cs → s ≡ t → (v : Bool) → nat_le (length a + length b) 10000 ≡ v → (v && nat_le (length s) 65536) ≡ (nat_le (length (roots bs) + length (roots cs)) 10000 && nat_le (length t) 65536)
small a b bs cs s t e f g v h = rw (← h) (rw (e, f, g) refl)

pub returns-then-node-le-MOST_LISTED : goal.returns-then-node-le-MOST_LISTED
returns-then-node-le-MOST_LISTED c =
    let x = seen c.node.result c.in-Some.node (find c.args.id c.args.draft.now.draft.after) c.in-Some.is c.node.ensures in
    small c.in-Some.node.attributes.now c.in-Some.node.children.now x.0.attributes x.0.children c.in-Some.node.text.now x.0.content.text x.2.attributes x.2.children x.2.text true (let l = c.if-node-le-MOST_LISTED.true in grind (arith, nat_tests))
    ∙ sym (passes-found c.args.id is_limited None 0 c.args.draft.now.draft.after x.0 (c.facts.ensures.distinct c.args.id) x.1)

pub returns-else-node-le-MOST_LISTED : goal.returns-else-node-le-MOST_LISTED
returns-else-node-le-MOST_LISTED c =
    let x = seen c.node.result c.in-Some.node (find c.args.id c.args.draft.now.draft.after) c.in-Some.is c.node.ensures in
    let over : nat_le (length c.in-Some.node.attributes.now + length c.in-Some.node.children.now) 10000 ≡ false = (let l = c.if-node-le-MOST_LISTED.false in grind (arith, nat_tests)) in
    over ∙ small c.in-Some.node.attributes.now c.in-Some.node.children.now x.0.attributes x.0.children c.in-Some.node.text.now x.0.content.text x.2.attributes x.2.children x.2.text false over
    ∙ sym (passes-found c.args.id is_limited None 0 c.args.draft.now.draft.after x.0 (c.facts.ensures.distinct c.args.id) x.1)

pub returns-in-None : goal.returns-in-None
returns-in-None c = sym (passes-absent c.args.id is_limited 0 c.args.draft.now.draft.after (unseen c.node.result c.args.id c.args.draft.now.draft.after c.in-None.is c.node.ensures))
