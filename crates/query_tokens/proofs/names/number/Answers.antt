use Rattle.std.proofs.Common.{◌∙◌, arith}
use Rattle.std.proofs.lemmas.Bool.Decides.{nat_tests}
use Rattle.std.proofs.lemmas.Grind.{common_steps}
use Rattle.document_names.specs.Characters.{is_digit}
use Rattle.query_tokens.specs.Lexing.{number_of}
use Rattle.query_tokens.proofs.Runs.{run_then}
use Rattle.query_tokens.proofs.names.number.Goals as goal

pub returns-then-begins_name : goal.returns-then-begins_name
returns-then-begins_name c = run_then is_digit number_of _ _ _ c.digits.ensures ∙ grind (arith, nat_tests, common_steps)

pub returns-in-None : goal.returns-in-None
returns-in-None c = run_then is_digit number_of _ _ _ c.digits.ensures ∙ grind (arith, nat_tests, common_steps)

pub returns-in-Some : goal.returns-in-Some
returns-in-Some c = run_then is_digit number_of _ _ _ c.digits.ensures ∙ grind (arith, nat_tests, common_steps)
