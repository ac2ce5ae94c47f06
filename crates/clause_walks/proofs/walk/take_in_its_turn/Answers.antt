use Rattle.item_expressions.proofs.Returned.{grows_turned}
use Rattle.clause_walks.proofs.walk.take_in_its_turn.Goals as goal

pub take_item-requires-clause-fits : goal.take_item-requires-clause-fits
take_item-requires-clause-fits g c =
    g.met.A.AtTuple.lasts c.args.at_tuple.now c.args.given.now c.args.run.now c.turn.new.self (grows_turned _ _ _ c.in_ok-turn.ensures) c.requires.fits
