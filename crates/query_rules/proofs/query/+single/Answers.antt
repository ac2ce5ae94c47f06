use Rattle.std.proofs.Common.{refl, ap, length, arith}
use Rattle.std.proofs.lemmas.Result.{err_from_is_err_and}
use Rattle.query_rules.proofs.Lengths.{keeps_single}
use Rattle.query_rules.proofs.Settled.{wanted_first, begun, begin_fails, settle_fails, whole_read, still_wanted, still_fewer, refused}
use Rattle.query_rules.proofs.query.+single.Goals as goal

pub loop-alloc-init : goal.loop-alloc-init
loop-alloc-init t c = record { within = omega (arith, ap length c.new-forms.ensures); same = wanted_first _ _ _ _ c.new-forms.ensures }

pub returns-in_err-progress : goal.returns-in_err-progress
returns-in_err-progress t c =
    let p = err_from_is_err_and c.from_residual.result c.from_residual.ensures.1 in
    rw (p.1, p.2) (begin_fails _ _ _ _ _ _ _ c.loop-alloc.invariant c.len-in-loop-alloc.ensures (omega arith) c.in_err-progress.ensures)

pub returns-in_err-x : goal.returns-in_err-x
returns-in_err-x t c =
    let p = err_from_is_err_and c.from_residual-in_err-x.result c.from_residual-in_err-x.ensures.1 in
    let same = begun _ _ _ _ _ _ _ _ c.loop-alloc.invariant c.len-in-loop-alloc.ensures (omega arith) c.in_ok-progress.ensures in
    rw (p.1, p.2) (settle_fails _ _ _ _ _ _ _ same (c.in_err-x.ensures.means c.args.level c.args.depth (omega arith)))

pub returns-in-Some : goal.returns-in-Some
returns-in-Some t c =
    let same = begun _ _ _ _ _ _ _ _ c.loop-alloc.invariant c.len-in-loop-alloc.ensures (omega arith) c.in_ok-progress.ensures in
    whole_read _ _ _ _ _ _ _ _ _ _ same c.in-Some.is (c.in_ok-x.ensures.means c.args.level c.args.depth (omega arith))

pub loop-alloc-smaller : goal.loop-alloc-smaller
loop-alloc-smaller t c = still_fewer (keeps_single c.args.level _) c.args.level _ _ _ _ _ c.in_ok-progress.ensures c.in_default.is c.in_ok-x.ensures.nearer

pub loop-alloc-preserved : goal.loop-alloc-preserved
loop-alloc-preserved t c =
    let same = begun _ _ _ _ _ _ _ _ c.loop-alloc.invariant c.len-in-loop-alloc.ensures (omega arith) c.in_ok-progress.ensures in
    still_wanted _ _ _ _ _ _ _ _ _ same c.in_default.is (c.in_ok-x.ensures.means c.args.level c.args.depth (omega arith))

pub returns : goal.returns
returns t c = (refl, refused _ _ _ _ _ _ c.loop-alloc.invariant c.len.ensures c.loop-alloc-test.false)
