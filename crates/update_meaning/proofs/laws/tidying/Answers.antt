use Rattle.update_meaning.proofs.Tidying.{tidied-apart, tidied-filled, tidied-documents, tidied-again}
use Rattle.update_meaning.proofs.laws.tidying.Goals as goal

pub returns-clause-apart : goal.returns-clause-apart
returns-clause-apart c = tidied-apart

pub returns-clause-filled : goal.returns-clause-filled
returns-clause-filled c = tidied-filled

pub returns-clause-documents : goal.returns-clause-documents
returns-clause-documents c = tidied-documents

pub returns-clause-again : goal.returns-clause-again
returns-clause-again c = tidied-again
