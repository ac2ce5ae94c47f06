use Rattle.query_control.proofs.Clauses.{chain_first}
use Rattle.query_control.proofs.forms.Forms.chain.Goals as goal

pub returns : goal.returns
returns g c = chain_first _ _ _ _ _ _ _ _ _ _ c.get.ensures c.in_ok-left.ensures c.as_slice.ensures c.operated_in_turn.ensures
