use Rattle.std.proofs.Common.{◌≡◌, ◌≢◌, ◌≤◌, ◌<◌, ◌+◌, [], ◌∷◌, length, drop, sym, ap, subst, ◌∙◌, arith, rules}
use Rattle.std.specs.Prelude.{IfErr}
use Rattle.std.proofs.lemmas.List.{drop_more, drop_all}
use Rattle.sqlite.specs.State.{HasCleanDisk}
use Rattle.sqlite.specs.declared.error.ErrorCode.TheVariants.{OutOfMemory}
use Rattle.sqlite.specs.declared.error.Error.TheVariants.{SqliteFailure}
use Rattle.sqlite.specs.Held.{state}
use Rattle.records.specs.Group.{AreWrites}
use Rattle.record_writes.specs.Faults.{StoreFailed}
use Rattle.record_writes.proofs.Ending.{survives_both}
use Rattle.record_writes.proofs.Failing.{err_later}
use Rattle.record_writes.proofs.Several.{ends, goes_on, next_due}
use Rattle.record_writes.proofs.group.write_all.Goals as goal

pub returns-in_err-write_one-clause-law : goal.returns-in_err-write_one-clause-law
returns-in_err-write_one-clause-law g c clean o last first members due u see =
    let ws = c.args.writes.now in
    let i = c.loop-write.write-index in
    let w = c.write-item.result in
    let here : i < length ws = search rules in
    let rest : drop i ws ≡ w ∷ drop (i + 1) ws = drop_more ws i w here ∙ ap (λ x. x ∷ drop (i + 1) ws) (sym c.write-item.is) in
    let mid : HasCleanDisk (state g.S.Store c.loop-write.tx.conn.now) = omega (arith, c.write_one.ensures.clean) in
    let it = c.loop-write.invariant.3 mid o last first members due u see in
    let next = next_due (state g.S.Store c.loop-write.tx.conn.now) o last first ws (drop i ws) w (drop (i + 1) ws) c.loop-write.promised rest it in
    ((c.in_err-write_one.ensures.law clean o last it.now it.known next.0 next.1 it.under it.sees).0, search rules)

pub loop-write-preserved : goal.loop-write-preserved
loop-write-preserved g c =
    let ws = c.args.writes.now in
    let i = c.loop-write.write-index in
    let w = c.write-item.result in
    let here : i < length ws = search rules in
    let rest : drop i ws ≡ w ∷ drop (i + 1) ws = drop_more ws i w here ∙ ap (λ x. x ∷ drop (i + 1) ws) (sym c.write-item.is) in
    let old = state g.S.Store c.loop-write.tx.conn.now in
    let new = state g.S.Store c.write_one.new.tx.conn.now in (
      c.write_one.ensures.same_reference ∙ c.loop-write.invariant.0,
      let before = c.loop-write.invariant.1 in omega (arith, before, c.write_one.ensures.clean),
      (subst AreWrites rest c.loop-write.invariant.2).1,
      λ clean o last first members due u see.
          let mid : HasCleanDisk old = omega (arith, c.write_one.ensures.clean) in
          let it = c.loop-write.invariant.3 mid o last first members due u see in
          let next = next_due old o last first ws (drop i ws) w (drop (i + 1) ws) c.loop-write.promised rest it in
          let wrote = c.in_ok-write_one.ensures.law clean o last it.now it.known next.0 next.1 it.under it.sees in
          goes_on old new o last first ws (drop i ws) w (drop (i + 1) ws) c.loop-write.promised rest it c.promised_after-promised.result c.promised_after-promised.ensures wrote.0 wrote.1,
      survives_both (state g.S.Store c.args.tx.now.conn.now) old new c.loop-write.invariant.4 c.write_one.ensures.survives,
    )

pub returns-clause-law : goal.returns-clause-law
returns-clause-law g c clean o last first members due u see =
    let ws = c.args.writes.now in
    let i = c.loop-write.write-index in
    let past : length ws ≤ i = search rules in
    let none : drop i ws ≡ [] = drop_all i ws past in
    let s = state g.S.Store c.loop-write.tx.conn.now in
    let it = c.loop-write.invariant.3 clean o last first members due u see in
    (it.under, ends s o last first ws (drop i ws) c.loop-write.promised none it)

pub returns-in_err-write_one-clause-store : goal.returns-in_err-write_one-clause-store
returns-in_err-write_one-clause-store g c clean o last first fits members due u see =
    let ws = c.args.writes.now in
    let i = c.loop-write.write-index in
    let w = c.write-item.result in
    let here : i < length ws = search rules in
    let rest : drop i ws ≡ w ∷ drop (i + 1) ws = drop_more ws i w here ∙ ap (λ x. x ∷ drop (i + 1) ws) (sym c.write-item.is) in
    let old = state g.S.Store c.args.tx.now.conn.now in
    let now = state g.S.Store c.loop-write.tx.conn.now in
    let new = state g.S.Store c.write_one.new.tx.conn.now in
    let mid : HasCleanDisk now = omega (arith, c.write_one.ensures.clean) in
    let it = c.loop-write.invariant.3 mid o last first members due u see in
    let next = next_due now o last first ws (drop i ws) w (drop (i + 1) ws) c.loop-write.promised rest it in
    let failed = c.in_err-write_one.ensures.store clean o last it.now fits it.known next.0 next.1 it.under it.sees in
    let told : IfErr c.from_residual.result (λ e. e ≢ SqliteFailure OutOfMemory → StoreFailed now new) = search (rules, failed) in
    err_later old now new _ mid c.loop-write.invariant.4 c.write_one.ensures.survives.counts c.from_residual.result told
