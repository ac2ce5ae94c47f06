use Rattle.std.proofs.Common.{◌≤◌, suc, arith, sym, ap}
use Rattle.std.specs.Option.{unwrap_or}
use Rattle.position_map.proofs.Keeping.{none_known}
use Rattle.position_map.proofs.slot.last_after.Goals as goal

pub returns-in-None : goal.returns-in-None
returns-in-None g c =
    let above : 4294967296 ≤ suc c.args.position = omega (arith, c.in-None.ensures) in
    sym (ap (λ o. unwrap_or o c.args.position) (none_known (suc c.args.position) c.args.slots.now.entries c.requires.rise (c.requires.fits (suc c.args.position) above)))
