use Rattle.query_grammar.proofs.Sound.{sound_query}
use Rattle.query_grammar.proofs.laws.reading_is_sound.Goals as goal

pub returns : goal.returns
returns c = sound_query
