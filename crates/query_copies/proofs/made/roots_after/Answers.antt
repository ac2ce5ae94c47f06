use Rattle.std.proofs.Common.{◌∙◌, ap, map, reverse}
use Rattle.std.proofs.lemmas.List.{take_all}
use Rattle.query_copies.specs.declared.made.MadeCopy.{MadeCopy}
use Rattle.query_copies.proofs.InOrder.{roots_turned}
use Rattle.query_copies.proofs.made.roots_after.Goals as goal

pub returns : goal.returns
returns c =
    let xs = c.args.copies.now in
    c.reverse.ensures.items ∙ ap reverse (c.loop-copy.invariant ∙ ap (map (λ (x : MadeCopy). x.root)) (take_all c.loop-copy.copy-index xs c.loop-copy-test.false)) ∙ roots_turned xs
