use Rattle.std.proofs.Common.{◌<◌, ◌^◌, length, ap, sym, arith, IsSome, subst}
use Rattle.data_model.specs.Trees.{Trees, find}
use Rattle.node_plans.proofs.Results.{on-ok}
use Rattle.chosen_drafts.specs.Terms.{ChosenTerm}
use Rattle.apply.proofs.Calls.{none-added, takes, says-so}
use Rattle.apply.proofs.merging.merge_at.Goals as goal

pub overflow_add-to : goal.overflow_add-to
overflow_add-to c =
    let t = takes c.args.site c.args.id c.first_texts.result c.siblings-ids.result.now c.args.draft.now.draft.after c.facts.ensures.distinct c.requires c.siblings-ids.ensures c.first_texts.ensures in
    let few : length c.siblings-ids.result.now < 2 ^ 64 = c.siblings-ids.type_inv.0 in
    let within = t.within in
    omega arith

pub returns-then-to-from-clause-merges : goal.returns-then-to-from-clause-merges
returns-then-to-from-clause-merges c =
    let t = takes c.args.site c.args.id c.first_texts.result c.siblings-ids.result.now c.args.draft.now.draft.after c.facts.ensures.distinct c.requires c.siblings-ids.ensures c.first_texts.ensures in
    let same = c.if-to-from.true in
    t.alone (omega arith)

pub slice_bounds-joined-end : goal.slice_bounds-joined-end
slice_bounds-joined-end c =
    let t = takes c.args.site c.args.id c.first_texts.result c.siblings-ids.result.now c.args.draft.now.draft.after c.facts.ensures.distinct c.requires c.siblings-ids.ensures c.first_texts.ensures in
    t.within

pub splice-requires-clause-distinct : goal.splice-requires-clause-distinct
splice-requires-clause-distinct c = none-added c.args.draft.now.draft.after c.facts.ensures.distinct

pub set_text-requires : goal.set_text-requires
set_text-requires c =
    let t = takes c.args.site c.args.id c.first_texts.result c.siblings-ids.result.now c.args.draft.now.draft.after c.facts.ensures.distinct c.requires c.siblings-ids.ensures c.first_texts.ensures in
    let P : ChosenTerm → Type 0 = λ d. IsSome (find c.args.id d.after) in
    let e = c.in_ok-splice.ensures in
    subst P (sym e.spliced) t.stays

pub returns-clause-merges : goal.returns-clause-merges
returns-clause-merges c =
    let t = takes c.args.site c.args.id c.first_texts.result c.siblings-ids.result.now c.args.draft.now.draft.after c.facts.ensures.distinct c.requires c.siblings-ids.ensures c.first_texts.ensures in
    let e = c.in_ok-splice.ensures in
    let after : ChosenTerm → Trees = λ d. d.after in
    on-ok c.set_text.result _ _ c.set_text.ensures.set
    (λ is. says-so c.args.id c.args.draft.now.draft.after c.splice.new.self.draft.after _ c.set_text.new.self.draft.after _ _ c.in_ok-text.ensures (ap after e.spliced) t.merges (ap after is))
