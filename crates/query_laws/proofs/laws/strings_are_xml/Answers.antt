use Rattle.query_laws.proofs.Written.{strings}
use Rattle.query_laws.proofs.laws.strings_are_xml.Goals as goal

pub returns : goal.returns
returns c = strings
