use Rattle.query_meaning.specs.Meaning.{mean}
use Rattle.item_expressions.specs.Looped.{leaving}
use Rattle.item_expressions.proofs.Returned.{says_left}
use Rattle.keyed_items.proofs.Kept.{tuple_kept}
use Rattle.query_control.proofs.forms.Forms.and_tuple.Goals as goal

pub returns : goal.returns
returns g c =
    tuple_kept mean _ _ _ _ _ _ _ (leaving c.push.result c.push.new.self) c.requires.ready c.requires.kept c.in_ok-keys.ensures.keys c.in_ok-keys.ensures.width c.requires.place (says_left _ c.push.result c.push.new.self c.push.ensures.added c.push.ensures.code)
