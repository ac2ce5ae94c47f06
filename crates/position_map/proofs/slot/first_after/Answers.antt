use Rattle.std.proofs.Common.{◌∙◌, ap, arith}
use Rattle.std.specs.Option.{option_flatten}
use Rattle.position_map.proofs.Filling.{value_filled}
use Rattle.position_map.proofs.slot.first_after.Goals as goal

pub returns-in-None : goal.returns-in-None
returns-in-None g c = λ q l. value_filled 0 q _ c.requires.rise ∙ ap option_flatten (c.requires.fits q (omega (arith, c.in-None.ensures, l)))
