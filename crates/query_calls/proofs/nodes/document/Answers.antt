use Rattle.query_calls.proofs.Documents.{found, not_found}
use Rattle.query_calls.proofs.nodes.document.Goals as goal

pub returns-in_ok-one-in-Some : goal.returns-in_ok-one-in-Some
returns-in_ok-one-in-Some c = found _ c.args.run.now _ _ _ c.shelf.ensures c.in-Some.ensures.found c.in-Some.ensures.stands c.in_ok-one-in-Some.ensures

pub returns-in-None : goal.returns-in-None
returns-in-None c = not_found _ c.args.run.now _ c.shelf.ensures c.in-None.ensures.found
