use Rattle.std.proofs.Common.{◌≡◌, ◌≤◌, ◌^◌, ◌∙◌, ap, arith}
use Rattle.trees.specs.Forest.{ForestTerm}
use Rattle.node_table.specs.Flat.{IsTableOf}
use Rattle.node_table.specs.Rows.{table_of}
use Rattle.trees.specs.declared.forest.Forest.TheInside.{Inside}
use Rattle.node_table.proofs.Tables.{IsTableOf-later}
use Rattle.trees.proofs.Forests.{now-table, now-nodes, now-sizes, term-is, sound}
use Rattle.trees.proofs.forest.Forest.raise_next.Goals as goal

abbrev after : goal.After-self-1 → Inside
after c = record c.self.inside { next = c.number-self-inside.result }

next-is : (c : goal.After-self-1) → c.self.inside.next ≡ c.args.self.now.next
next-is c = ap (λ (t : ForestTerm). t.next) c.self.view_is

holds : (c : goal.After-self-1) → IsTableOf (table_of c.self.inside.rows) c.number-self-inside.result c.args.self.now.trees
holds c =
    let later : c.self.inside.next ≤ c.number-self-inside.result = omega (arith, next-is c, c.requires.later, c.number-self-inside.ensures) in
    IsTableOf-later (table_of c.self.inside.rows) c.self.inside.next c.number-self-inside.result c.args.self.now.trees later (now-table c.self.inside c.args.self.now c.self.view_is c.self.invariant)

pub invariant_of-self : goal.invariant_of-self
invariant_of-self c =
    let bound : c.number-self-inside.result ≤ 2 ^ 62 = rw c.number-self-inside.ensures c.requires.bound in
    sound (after c) c.args.self.now.trees (holds c) (now-nodes c.self.inside c.args.self.now c.self.view_is c.self.invariant) c.self.invariant.numbered bound c.self.invariant.standing c.self.invariant.named (now-sizes c.self.inside c.args.self.now c.self.view_is c.self.invariant)

pub returns : goal.returns
returns c = term-is (after c) c.args.self.now.trees (holds c) ∙ rw c.number-self-inside.ensures (ap (λ (t : ForestTerm). record t { trees = c.args.self.now.trees; next = c.args.next }) c.self.view_is)
