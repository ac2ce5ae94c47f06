use Rattle.std.proofs.Common.{◌≡◌, ◌≢◌, ◌≤◌, suc, length, false, arith, rules}
use Rattle.std.specs.Prelude.{IfErr}
use Rattle.sqlite.specs.State.{HasCleanDisk}
use Rattle.sqlite.specs.declared.error.ErrorCode.TheVariants.{OutOfMemory}
use Rattle.sqlite.specs.declared.error.Error.TheVariants.{SqliteFailure}
use Rattle.sqlite.specs.Held.{state}
use Rattle.ballots.specs.Ballot.{below}
use Rattle.ballots.specs.Spelling.{value_spelling}
use Rattle.paxos.specs.Records.{NewPromise, written}
use Rattle.record_writes.specs.Faults.{StoreFailed}
use Rattle.record_writes.proofs.Failing.{err_later}
use Rattle.record_writes.proofs.group.write_one.Goals as goal

pub returns-in-Promise-clause-law : goal.returns-in-Promise-clause-law
returns-in-Promise-clause-law g c clean o last now known member due u see =
    let within : c.in-Promise.ballot.member ≤ o.members = rw c.in-Promise.is at member in
    let over : below c.in-Promise.ballot now.promise ≡ false = rw c.in-Promise.is at due in
    rw c.in-Promise.is (c.promise_unless.ensures.law clean o last now known within over u see)

pub returns-in_err-second-in-Vote-clause-law : goal.returns-in_err-second-in-Vote-clause-law
returns-in_err-second-in-Vote-clause-law g c clean o last now known member due u see =
    let within : c.in-Vote.vote.ballot.member ≤ o.members = rw c.in-Vote.is at member in
    let over : below c.in-Vote.vote.ballot now.promise ≡ false = rw c.in-Vote.is at due in
    let bytes : c.as_slice.result.now ≡ value_spelling c.in-Vote.vote.value = search rules in
    let mid : HasCleanDisk (state g.S.Store c.promise_unless-in-Vote.new.tx.conn.now) = omega (arith, c.second.ensures.clean) in
    let one = c.in_ok-promise_unless-in-Vote.ensures.law mid o last now known within over u see in
    let two = c.in_err-second-in-Vote.ensures.law clean o last now within c.in-Vote.vote.value bytes c.in_ok-bytes-in-Vote.ensures.spelt.1 one.0 one.1 in
    (two.0, search rules)

pub returns-in_ok-second-in-Vote-clause-law : goal.returns-in_ok-second-in-Vote-clause-law
returns-in_ok-second-in-Vote-clause-law g c clean o last now known member due u see =
    let within : c.in-Vote.vote.ballot.member ≤ o.members = rw c.in-Vote.is at member in
    let over : below c.in-Vote.vote.ballot now.promise ≡ false = rw c.in-Vote.is at due in
    let bytes : c.as_slice.result.now ≡ value_spelling c.in-Vote.vote.value = search rules in
    let mid : HasCleanDisk (state g.S.Store c.promise_unless-in-Vote.new.tx.conn.now) = omega (arith, c.second.ensures.clean) in
    let one = c.in_ok-promise_unless-in-Vote.ensures.law mid o last now known within over u see in
    let two = c.in_ok-second-in-Vote.ensures.law clean o last now within c.in-Vote.vote.value bytes c.in_ok-bytes-in-Vote.ensures.spelt.1 one.0 one.1 in
    rw c.in-Vote.is two

pub returns-in_err-third-in-Learnt-clause-law : goal.returns-in_err-third-in-Learnt-clause-law
returns-in_err-third-in-Learnt-clause-law g c clean o last now known member due u see =
    let next : c.in-Learnt.position ≡ suc (length now.learnt) = rw c.in-Learnt.is at due in
    let bytes : c.as_slice-in-Learnt.result.now ≡ value_spelling c.in-Learnt.value = search rules in
    let one = c.in_err-third-in-Learnt.ensures.law clean o last now c.in-Learnt.value bytes c.in_ok-bytes-in-Learnt.ensures.spelt.1 next u see in
    (one.0, search rules)

pub returns-in_ok-third-in-Learnt-clause-law : goal.returns-in_ok-third-in-Learnt-clause-law
returns-in_ok-third-in-Learnt-clause-law g c clean o last now known member due u see =
    let next : c.in-Learnt.position ≡ suc (length now.learnt) = rw c.in-Learnt.is at due in
    let bytes : c.as_slice-in-Learnt.result.now ≡ value_spelling c.in-Learnt.value = search rules in
    let one = c.in_ok-third-in-Learnt.ensures.law clean o last now c.in-Learnt.value bytes c.in_ok-bytes-in-Learnt.ensures.spelt.1 next u see in
    rw c.in-Learnt.is one

pub returns-in-Promise-clause-store : goal.returns-in-Promise-clause-store
returns-in-Promise-clause-store g c clean o last now fits known member due u see = c.promise_unless.ensures.store clean o now fits see

pub returns-in_err-promise_unless-in-Vote-clause-store : goal.returns-in_err-promise_unless-in-Vote-clause-store
returns-in_err-promise_unless-in-Vote-clause-store g c clean o last now fits known member due u see = let failed = c.in_err-promise_unless-in-Vote.ensures.store clean o now fits see in search (rules, failed)

pub returns-in_err-second-in-Vote-clause-store : goal.returns-in_err-second-in-Vote-clause-store
returns-in_err-second-in-Vote-clause-store g c clean o last now fits known member due u see =
    let within : c.in-Vote.vote.ballot.member ≤ o.members = rw c.in-Vote.is at member in
    let over : below c.in-Vote.vote.ballot now.promise ≡ false = rw c.in-Vote.is at due in
    let bytes : c.as_slice.result.now ≡ value_spelling c.in-Vote.vote.value = search rules in
    let old = state g.S.Store c.args.tx.now.conn.now in
    let one = state g.S.Store c.promise_unless-in-Vote.new.tx.conn.now in
    let new = state g.S.Store c.second.new.tx.conn.now in
    let mid : HasCleanDisk one = omega (arith, c.second.ensures.clean) in
    let sees = (c.in_ok-promise_unless-in-Vote.ensures.law mid o last now known within over u see).1 in
    let failed = c.in_err-second-in-Vote.ensures.store clean o (written (NewPromise c.in-Vote.vote.ballot) now) c.in-Vote.vote.value bytes c.in_ok-bytes-in-Vote.ensures.spelt.1 sees in
    let told : IfErr c.from_residual-in_err-second-in-Vote.result (λ e. e ≢ SqliteFailure OutOfMemory → StoreFailed one new) = search (rules, failed) in
    err_later old one new _ mid c.promise_unless-in-Vote.ensures.survives c.second.ensures.survives.counts c.from_residual-in_err-second-in-Vote.result told

pub returns-in_err-third-in-Learnt-clause-store : goal.returns-in_err-third-in-Learnt-clause-store
returns-in_err-third-in-Learnt-clause-store g c clean o last now fits known member due u see =
    let next : c.in-Learnt.position ≡ suc (length now.learnt) = rw c.in-Learnt.is at due in
    let bytes : c.as_slice-in-Learnt.result.now ≡ value_spelling c.in-Learnt.value = search rules in
    let failed = c.in_err-third-in-Learnt.ensures.store clean o now c.in-Learnt.value bytes c.in_ok-bytes-in-Learnt.ensures.spelt.1 next see in
    search (rules, failed)
