use Rattle.std.proofs.Common.{◌∙◌, eqb, rules, sym, arith}
use Rattle.paxq_files.proofs.Cuts.{length-after_first-lt, lines_after-step}
use Rattle.paxq_files.proofs.lines.first_line.Goals as goal

pub returns-then-says_something-clause-found : goal.returns-then-says_something-clause-found
returns-then-says_something-clause-found c =
    let step = lines_after-step c.loop-rest.number c.loop-rest.rest.now in
    sym c.loop-rest.invariant.left ∙ (rw (← c.cut_at.ensures.before, ← c.cut_at.ensures.after, ← c.says_something.ensures, c.if-says_something.true) at step)

pub returns-then-says_something-clause-shorter : goal.returns-then-says_something-clause-shorter
returns-then-says_something-clause-shorter c =
    let less = rw (← c.cut_at.ensures.after) at (length-after_first-lt (λ b. eqb b 10) c.loop-rest.rest.now (search rules)) in
    omega arith

pub loop-rest-preserved : goal.loop-rest-preserved
loop-rest-preserved c =
    let step = lines_after-step c.loop-rest.number c.loop-rest.rest.now in
    let less = rw (← c.cut_at.ensures.after) at (length-after_first-lt (λ b. eqb b 10) c.loop-rest.rest.now (search rules)) in
    record {
      is_text = search rules;
      left = sym (rw (← c.cut_at.ensures.before, ← c.cut_at.ensures.after, ← c.says_something.ensures, c.if-says_something.false) at step) ∙ c.loop-rest.invariant.left;
      room = omega arith;
      shorter = omega arith;
    }
