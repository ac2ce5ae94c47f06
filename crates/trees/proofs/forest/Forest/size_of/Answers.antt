use Rattle.std.proofs.Common.{◌∙◌, ap, arith}
use Rattle.data_model.specs.Trees.{size}
use Rattle.trees.proofs.Copied.{own-read, copy-size}
use Rattle.trees.proofs.forest.Forest.size_of.Goals as goal

pub count-requires : goal.count-requires
count-requires c =
    let read = own-read c.self.inside c.args.self.now c.self.view_is c.self.invariant c.args.id c.requires in
    let small = copy-size c.self.inside c.args.self.now c.self.view_is c.self.invariant c.args.id c.requires in
    let next = c.self.invariant.bound in
    let nodes = c.self.invariant.nodes in
    let fits = c.self.invariant.table.fits in
    rw read (omega arith)

pub returns : goal.returns
returns c = c.count.ensures ∙ ap size (own-read c.self.inside c.args.self.now c.self.view_is c.self.invariant c.args.id c.requires)
