use Rattle.std.proofs.Common.{◌∙◌, ◌-◌, length, take, drop, [], ◌∷◌, ◌++◌, sym, subst}
use Rattle.std.proofs.lemmas.List.{take-append-drop, take_rest}
use Rattle.data_model.specs.Order.{identities}
use Rattle.node_table.proofs.Ups.{same-ids, other-ids}
use Rattle.trees.specs.Inside.{AreRowsOf}
use Rattle.trees.proofs.Merged.{AreMerged, none-merged, both-taken, left-taken, right-taken, left-held, right-held, at-turn, held-stands, one-first, left-last, right-last}
use Rattle.trees.proofs.Rising.{own-rows}
use Rattle.trees.proofs.forest.Forest.merged.Goals as goal

pub loop-first-init : goal.loop-first-init
loop-first-init c =
    let ids = c.args.ids.now in
    let at = c.args.rising in
    let xs = identities c.args.self.now.trees in
    let none : AreMerged xs ids [] (take at ids) (drop at ids) = none-merged xs ids (take at ids) (drop at ids) (take-append-drop at ids) c.requires.first c.requires.second in
    record {
      rows = subst (λ r. AreRowsOf r c.args.self.now) (sym c.cursor-rows.ensures) (own-rows c.self.inside c.args.self.now c.self.view_is c.self.invariant);
      merged = subst (λ out. AreMerged xs ids out (take at ids) (take (length ids - at) (drop at ids))) (sym c.in_ok-nodes.ensures.items) (subst (λ rs. AreMerged xs ids [] (take at ids) rs) (sym (take_rest ids at)) none);
    }

pub returns-in_default-split_first : goal.returns-in_default-split_first
returns-in_default-split_first c =
    let ts = c.args.self.now.trees in
    let ids = c.args.ids.now in
    let out = c.loop-first.nodes.items in
    c.in_ok-extend_from_slice.ensures.items
    ∙ left-last ts c.facts.ensures.distinct ids out c.loop-first.left.now c.loop-first.right.now c.in_default-split_first.ensures.cases c.loop-first.invariant.merged

pub comes_first-requires-clause-has_a : goal.comes_first-requires-clause-has_a
comes_first-requires-clause-has_a c =
    let xs = identities c.args.self.now.trees in
    let ids = c.args.ids.now in
    let out = c.loop-first.nodes.items in
    let a = c.in-Some.first.now in
    let b = c.in-Some-split_first.second.now in
    let ls = c.in-Some.after_first.now in
    let rs = c.in-Some-split_first.after_second.now in
    let m = at-turn xs ids out c.loop-first.left.now c.loop-first.right.now a b ls rs c.in-Some.ensures.cases.0 c.in-Some-split_first.ensures.cases.0 c.loop-first.invariant.merged in
    held-stands a c.args.self.now.trees (left-held xs ids out a b ls rs m)

pub comes_first-requires-clause-has_b : goal.comes_first-requires-clause-has_b
comes_first-requires-clause-has_b c =
    let xs = identities c.args.self.now.trees in
    let ids = c.args.ids.now in
    let out = c.loop-first.nodes.items in
    let a = c.in-Some.first.now in
    let b = c.in-Some-split_first.second.now in
    let ls = c.in-Some.after_first.now in
    let rs = c.in-Some-split_first.after_second.now in
    let m = at-turn xs ids out c.loop-first.left.now c.loop-first.right.now a b ls rs c.in-Some.ensures.cases.0 c.in-Some-split_first.ensures.cases.0 c.loop-first.invariant.merged in
    held-stands b c.args.self.now.trees (right-held xs ids out a b ls rs m)

pub loop-first-preserved-then-eq : goal.loop-first-preserved-then-eq
loop-first-preserved-then-eq c =
    let xs = identities c.args.self.now.trees in
    let ids = c.args.ids.now in
    let out = c.loop-first.nodes.items in
    let a = c.in-Some.first.now in
    let b = c.in-Some-split_first.second.now in
    let ls = c.in-Some.after_first.now in
    let rs = c.in-Some-split_first.after_second.now in
    let m = at-turn xs ids out c.loop-first.left.now c.loop-first.right.now a b ls rs c.in-Some.ensures.cases.0 c.in-Some-split_first.ensures.cases.0 c.loop-first.invariant.merged in
    record {
      rows = c.loop-first.invariant.rows;
      merged = subst (λ o. AreMerged xs ids o ls rs) (sym c.in_ok-push.ensures.items) (both-taken xs ids out a b ls rs m (same-ids a b (sym c.eq.ensures ∙ c.if-eq.true)));
    }

pub loop-first-preserved-then-comes_first : goal.loop-first-preserved-then-comes_first
loop-first-preserved-then-comes_first c =
    let xs = identities c.args.self.now.trees in
    let ids = c.args.ids.now in
    let out = c.loop-first.nodes.items in
    let a = c.in-Some.first.now in
    let b = c.in-Some-split_first.second.now in
    let ls = c.in-Some.after_first.now in
    let rs = c.in-Some-split_first.after_second.now in
    let m = at-turn xs ids out c.loop-first.left.now c.loop-first.right.now a b ls rs c.in-Some.ensures.cases.0 c.in-Some-split_first.ensures.cases.0 c.loop-first.invariant.merged in
    record {
      rows = subst (λ r. AreRowsOf r c.args.self.now) (sym c.comes_first.ensures.same) c.loop-first.invariant.rows;
      merged = subst (λ o. AreMerged xs ids o ls c.loop-first.right.now) (sym c.in_ok-push-2.ensures.items)
          (subst (λ r. AreMerged xs ids (out ++ a ∷ []) ls r) (sym c.in-Some-split_first.ensures.cases.0) (left-taken xs ids out a b ls rs m (sym c.comes_first.ensures.before ∙ c.if-comes_first.true)));
    }

pub loop-first-preserved : goal.loop-first-preserved
loop-first-preserved c =
    let xs = identities c.args.self.now.trees in
    let ids = c.args.ids.now in
    let out = c.loop-first.nodes.items in
    let a = c.in-Some.first.now in
    let b = c.in-Some-split_first.second.now in
    let ls = c.in-Some.after_first.now in
    let rs = c.in-Some-split_first.after_second.now in
    let m = at-turn xs ids out c.loop-first.left.now c.loop-first.right.now a b ls rs c.in-Some.ensures.cases.0 c.in-Some-split_first.ensures.cases.0 c.loop-first.invariant.merged in
    let after = one-first a b xs (other-ids a b (sym c.eq.ensures ∙ c.if-eq.false)) (right-held xs ids out a b ls rs m) (sym c.comes_first.ensures.before ∙ c.if-comes_first.false) in
    record {
      rows = subst (λ r. AreRowsOf r c.args.self.now) (sym c.comes_first.ensures.same) c.loop-first.invariant.rows;
      merged = subst (λ o. AreMerged xs ids o c.loop-first.left.now rs) (sym c.in_ok-push-3.ensures.items)
          (subst (λ l. AreMerged xs ids (out ++ b ∷ []) l rs) (sym c.in-Some.ensures.cases.0) (right-taken xs ids out a b ls rs m after));
    }

pub returns : goal.returns
returns c =
    let ts = c.args.self.now.trees in
    let ids = c.args.ids.now in
    let out = c.loop-first.nodes.items in
    c.in_ok-extend_from_slice-2.ensures.items
    ∙ right-last ts c.facts.ensures.distinct ids out c.loop-first.left.now c.loop-first.right.now c.in_default.ensures.cases c.loop-first.invariant.merged
