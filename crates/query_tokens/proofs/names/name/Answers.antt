use Rattle.std.proofs.Common.{◌∙◌, arith}
use Rattle.std.proofs.lemmas.Grind.{common_steps}
use Rattle.document_names.specs.Characters.{is_name_character}
use Rattle.query_tokens.specs.Lexing.{name_of}
use Rattle.query_tokens.proofs.Runs.{run_then}
use Rattle.query_tokens.proofs.names.name.Goals as goal

pub returns-then-eq : goal.returns-then-eq
returns-then-eq c = run_then is_name_character name_of _ _ _ c.name_characters.ensures ∙ grind (arith, common_steps)

pub returns : goal.returns
returns c = run_then is_name_character name_of _ _ _ c.name_characters.ensures ∙ grind (arith, common_steps)
