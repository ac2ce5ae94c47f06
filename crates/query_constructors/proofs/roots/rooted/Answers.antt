use Rattle.std.proofs.Common.{◌≡◌, ap, ◌∙◌}
use Rattle.query_constructors.proofs.Standing.{rooted_gives}
use Rattle.query_constructors.proofs.roots.rooted.Goals as goal

pub returns : goal.returns
returns c =
    let here : c.behind-tree.inside.identity ≡ c.args.tree.now.content.identity = ap (λ x. x.identity) (c.behind-tree.view_is ∙ c.content.ensures) in
    rooted_gives c.args.tree.now c.behind-tree.inside.identity c.args.run.now c.stand.new.self _ here c.in_ok-stand.ensures.stood c.in_ok-one.ensures
