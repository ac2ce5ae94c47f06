use Rattle.document_names.specs.Characters.{is_digit}
use Rattle.query_tokens.specs.Lexing.{closed}
use Rattle.query_tokens.proofs.Rounds.{same_read}
use Rattle.query_tokens.proofs.Runs.{run_then}
use Rattle.query_tokens.proofs.references.decimal_reference.Goals as goal

pub returns : goal.returns
returns c = same_read (λ p. p.0) (λ p. p.1.now) _ _ _ (run_then is_digit (closed 10) _ _ _ c.digits.ensures) c.closed_reference.ensures
