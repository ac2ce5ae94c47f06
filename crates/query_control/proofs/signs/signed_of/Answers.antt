use Rattle.std.proofs.Common.{w64, pos, FitsSigned, rules}
use Rattle.std.proofs.lemmas.Int.{to_z-of_z}
use Rattle.std.proofs.lemmas.Result.{err_from_is_err_and}
use Rattle.query_control.proofs.Signing.{signed_value, signed_fault}
use Rattle.query_control.proofs.signs.signed_of.Goals as goal

pub returns-in_err-value-in-Some : goal.returns-in_err-value-in-Some
returns-in_err-value-in-Some c =
    let p = err_from_is_err_and c.from_residual-in_err-value-in-Some.result c.from_residual-in_err-value-in-Some.ensures.1 in
    let fits : FitsSigned w64 c.in-Some.value = search rules in
    rw (p.1, p.2) (signed_fault c.args.signs.now c.args.values.now (pos 0) c.in-Some.value _ _ c.args.run.now (rw c.in-Some.is at c.in_ok-integer_operands.ensures) (simp to_z-of_z at c.in_err-value-in-Some.ensures))

pub returns-in_ok-one-in-Some : goal.returns-in_ok-one-in-Some
returns-in_ok-one-in-Some c =
    let fits : FitsSigned w64 c.in-Some.value = search rules in
    let same : FitsSigned w64 c.in_ok-value-in-Some.value = search rules in
    signed_value c.args.signs.now c.args.values.now (pos 0) c.in-Some.value _ c.in_ok-value-in-Some.value _ c.args.run.now (rw c.in-Some.is at c.in_ok-integer_operands.ensures) (simp to_z-of_z at c.in_ok-value-in-Some.ensures) (simp to_z-of_z at c.in_ok-one-in-Some.ensures)
