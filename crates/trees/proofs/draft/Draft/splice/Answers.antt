use Rattle.std.proofs.Common.{◌≡◌, ◌+◌, ◌-◌, refl, arith}
use Rattle.data_model.specs.Trees.{Trees, size}
use Rattle.data_model.specs.Tree.{all_of}
use Rattle.data_model.specs.Changes.{with_part}
use Rattle.node_plans.specs.Splices.{spliced}
use Rattle.trees.specs.Drafted.{trees_after, draft_of, IsDrafted}
use Rattle.trees.specs.declared.draft.Drafted.{Drafted}
use Rattle.trees.proofs.Drafts.{table-there, part-within, trees-apart, trees-few, next-is, sizes-room, sizes-after, drafted-refused, drafted-replaced}
use Rattle.forest_index.proofs.Sized.{get-same}
use Rattle.trees.proofs.draft.Draft.splice.Goals as goal

pub splice-requires-clause-has : goal.splice-requires-clause-has
splice-requires-clause-has c = table-there c.self.inside.parts c.args.self.now c.self.view_is c.self.invariant c.args.parent c.requires.has

pub splice-requires-clause-within : goal.splice-requires-clause-within
splice-requires-clause-within c = part-within c.self.inside.parts c.args.self.now c.self.view_is c.self.invariant c.args.part c.args.parent c.args.to c.requires.within

pub splice-requires-clause-apart : goal.splice-requires-clause-apart
splice-requires-clause-apart c = trees-apart c.self.inside.parts c.args.self.now c.self.view_is c.self.invariant (all_of c.args.trees.now) c.requires.distinct

pub splice-requires-clause-below : goal.splice-requires-clause-below
splice-requires-clause-below c = λ i l. (let n = next-is c.self.inside.parts c.args.self.now c.self.view_is c.self.invariant in let b = c.requires.below i l in omega arith)

pub overflow_add-self : goal.overflow_add-self
overflow_add-self c =
    let few = trees-few c.self.inside.parts c.args.self.now c.self.view_is c.self.invariant (all_of c.args.trees.now) c.requires.distinct c.requires.below in
    let many = c.node_count-added.ensures in
    let counted = c.self.invariant.counted in
    let fits = c.self.invariant.table.fits in
    let bound = c.self.invariant.bound in
    omega arith

pub node_count-added-requires : goal.node_count-added-requires
node_count-added-requires c =
    let few = trees-few c.self.inside.parts c.args.self.now c.self.view_is c.self.invariant (all_of c.args.trees.now) c.requires.distinct c.requires.below in
    let bound = c.self.invariant.bound in
    omega arith

pub invariant_of-self : goal.invariant_of-self
invariant_of-self c =
    let a = c.self.inside.parts in (drafted-refused a c.args.self.now c.self.view_is c.self.invariant a.plan c.self.invariant.numbered c.reserve.new.self (get-same a.resized c.reserve.new.self c.reserve.ensures.same) refl).0

pub invariant_of-self-in_err-removed : goal.invariant_of-self-in_err-removed
invariant_of-self-in_err-removed c =
    let a = c.self.inside.parts in
    (drafted-refused a c.args.self.now c.self.view_is c.self.invariant c.splice.new.plan c.splice.ensures.numbered c.reserve.new.self (get-same a.resized c.reserve.new.self c.reserve.ensures.same) c.in_err-removed.ensures.refused).0

abbrev part : goal.After-plan_size → Trees → Trees
part c = with_part c.args.part c.args.parent (spliced c.args.from c.args.to (all_of c.args.trees.now))

pub plan_size-requires-clause-fits : goal.plan_size-requires-clause-fits
plan_size-requires-clause-fits c =
    let a = c.self.inside.parts in
    let us = all_of c.args.trees.now in
    let few = trees-few a c.args.self.now c.self.view_is c.self.invariant us c.requires.distinct c.requires.below in
    sizes-room a c.args.self.now c.self.view_is c.self.invariant c.reserve.new.self (get-same a.resized c.reserve.new.self c.reserve.ensures.same) c.args.part c.args.parent c.root-root.result (spliced c.args.from c.args.to us) c.root-root.ensures c.requires.has us c.requires.distinct c.node_count-added.result
    c.in_ok-removed.removed c.node_count-added.ensures c.in_ok-removed.ensures.removed few

abbrev after : goal.After-plan_size → Drafted
after c = record c.self.inside.parts { plan = c.splice.new.plan; count = c.self.inside.parts.count + c.node_count-added.result - c.in_ok-removed.removed; resized = c.plan_size.new.resized }

replaced : (c : goal.After-plan_size) → IsDrafted (after c) × (draft_of (after c) ≡ record c.args.self.now { after = part c c.args.self.now.after })
replaced c =
    let a : Drafted = c.self.inside.parts in
    let ts : Trees = trees_after a in
    let us = all_of c.args.trees.now in
    let removed : size (part c ts) + c.in_ok-removed.removed ≡ size ts + size us = c.in_ok-removed.ensures.removed in
    let many : c.node_count-added.result ≡ size us = c.node_count-added.ensures in
    let counted : a.count ≡ size ts = c.self.invariant.counted in
    let left : a.count + c.node_count-added.result - c.in_ok-removed.removed ≡ size (part c ts) = omega arith in
    let sizes = sizes-after a c.args.self.now c.self.view_is c.self.invariant c.reserve.new.self (get-same a.resized c.reserve.new.self c.reserve.ensures.same) c.args.part c.args.parent c.root-root.result (spliced c.args.from c.args.to us) c.root-root.ensures c.requires.has us c.requires.distinct
    c.node_count-added.result c.in_ok-removed.removed c.node_count-added.ensures c.in_ok-removed.ensures.removed c.plan_size.new.resized c.plan_size.ensures.here c.plan_size.ensures.apart in
    drafted-replaced a c.args.self.now c.self.view_is c.self.invariant c.splice.new.plan c.splice.ensures.numbered (part c) (a.count + c.node_count-added.result - c.in_ok-removed.removed) c.plan_size.new.resized c.in_ok-removed.ensures.spliced left c.splice.ensures.documents sizes

pub invariant_of-self-2 : goal.invariant_of-self-2
invariant_of-self-2 c = (replaced c).0

pub returns-clause-spliced : goal.returns-clause-spliced
returns-clause-spliced c = (replaced c).1
