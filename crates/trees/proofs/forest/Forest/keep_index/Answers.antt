use Rattle.std.proofs.Common.{◌∙◌, ap, sym, subst, arith, Option, Some}
use Rattle.node_table.specs.Flat.{Entry}
use Rattle.node_table.specs.Rows.{table_of}
use Rattle.data_model.specs.Trees.{Trees}
use Rattle.trees.specs.Forest.{ForestTerm}
use Rattle.forest_index.specs.Named.{IsElement, CoversAll}
use Rattle.forest_index.specs.Sized.{AreSizes, size_in}
use Rattle.trees.proofs.Forests.{entry-is}
use Rattle.forest_index.proofs.Sized.{in-some}
use Rattle.trees.proofs.forest.Forest.keep_index.Goals as goal

pub invariant_of-self : goal.invariant_of-self
invariant_of-self c =
    let h = c.self.invariant in
    let a = c.self.inside in
    let named : CoversAll c.new.result (table_of a.rows) = λ n i e. absurd (c.requires.elements n i (let P : Option Entry → Type 0 = IsElement n in subst P (sym (entry-is a c.args.self.now c.self.view_is h i)) e)) in
    let next = ap (λ (t : ForestTerm). t.next) c.self.view_is in
    let sized : AreSizes (size_in (Some c.in_ok-single_sizes.field-0)) c.args.self.now.trees = λ r n e.
    (let k = c.in_ok-single_sizes.ensures r n (sym (in-some c.in_ok-single_sizes.field-0 r) ∙ e) in
    let one = k.0 in
    let at_one = c.requires.sizes r k.1 (omega (arith, next, k.2)) in (omega arith, one ∙ sym at_one)) in
    let P : Trees → Type 0 = AreSizes (size_in (Some c.in_ok-single_sizes.field-0)) in
    record { table = h.table; nodes = h.nodes; numbered = h.numbered; bound = h.bound; standing = h.standing; named = named; sized = subst P (sym (ap (λ (t : ForestTerm). t.trees) c.self.view_is)) sized }
