-- Any other character stands for itself.
use Rattle.std.proofs.Common.{◌≢◌, arith, rules}
use Rattle.values.proofs.Escapes.{plain}
use Rattle.values.proofs.print.push_escaped.Goals as goal

pub returns-in_default : goal.returns-in_default
returns-in_default c =
    let q : c.args.c ≢ 34 = omega arith in
    let a : c.args.c ≢ 38 = omega arith in
    let t : c.args.c ≢ 9 = omega arith in
    let l : c.args.c ≢ 10 = omega arith in
    let r : c.args.c ≢ 13 = omega arith in
    rw (plain c.args.c q a t l r) (search rules)
