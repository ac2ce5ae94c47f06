use Rattle.std.proofs.Common.{sym, ◌∙◌, arith, rules}
use Rattle.query_control.proofs.Calls.{quantified_rest}
use Rattle.query_control.proofs.Clauses.{satisfied_first}
use Rattle.query_control.proofs.Deciding.{seeks_on}
use Rattle.query_control.proofs.forms.Forms.+satisfied.Goals as goal

pub satisfied-until_decided-requires : goal.satisfied-until_decided-requires
satisfied-until_decided-requires g t c κs within =
    (omega (arith, c.in-Some.ensures.cases.1, c.decreases), (search rules, (quantified_rest _ _ _ _ _ _ c.in-Some.ensures.cases.0 c.requires.quantified, (search rules, search rules))))

pub satisfied-returns : goal.satisfied-returns
satisfied-returns g t c = satisfied_first _ _ _ _ _ _ _ _ _ _ _ _ c.in-Some.ensures.cases.0 c.in_ok-items.ensures c.as_slice.ensures.items c.until_decided.ensures

pub until_decided-loop-item-preserved : goal.until_decided-loop-item-preserved
until_decided-loop-item-preserved g t c =
    (c.in_ok-value.ensures.former, seeks_on _ _ _ _ _ _ _ _ _ c.loop-item.invariant.1 c.loop-item-test.true c.item-item.is c.in_ok-value.ensures.gives (sym c.decides.ensures ∙ c.if-decides.false))
