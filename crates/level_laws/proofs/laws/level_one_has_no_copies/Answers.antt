use Rattle.level_laws.proofs.Spelt.{in_text, in_tokens}
use Rattle.level_laws.proofs.laws.level_one_has_no_copies.Goals as goal

pub returns-clause-tokens : goal.returns-clause-tokens
returns-clause-tokens c = in_tokens

pub returns-clause-text : goal.returns-clause-text
returns-clause-text c = in_text
