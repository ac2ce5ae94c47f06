use Rattle.std.proofs.Common.{◌≡◌, subst}
use Rattle.std.specs.Prelude.{OnOk}
use Rattle.sorted_tuples.proofs.Abbreviated.{sorted_after}
use Rattle.sorted_tuples.proofs.tuples.sort.Goals as goal

pub returns : goal.returns
returns c =
    subst (λ ts. OnOk c.sort_by_keys.result (c.sort_by_keys.new.tuples.items ≡ ts)) (sorted_after c.args.keys.now c.sort_roughly.ensures.0 c.args.tuples.now.items c.sort_roughly.new.tuples.items c.sort_roughly.ensures.1) c.sort_by_keys.ensures
