use Rattle.std.proofs.Common.{sym, arith}
use Rattle.chosen_drafts.proofs.Chosen.{counts-both, sizes-both}
use Rattle.chosen_drafts.proofs.some_trees.SomeTrees.facts.Goals as goal

pub returns-clause-distinct : goal.returns-clause-distinct
returns-clause-distinct c = rw (sym c.self.view_is) (λ i. omega (arith, counts-both c.self.inside.roots.items i c.self.inside.draft.after, c.facts.ensures.distinct i))

pub returns-clause-below : goal.returns-clause-below
returns-clause-below c = rw (sym c.self.view_is) (λ i there. c.facts.ensures.below i (omega (arith, counts-both c.self.inside.roots.items i c.self.inside.draft.after, there)))

pub returns-clause-few : goal.returns-clause-few
returns-clause-few c = rw (sym c.self.view_is) (let f = c.facts.ensures.few in omega (arith, sizes-both c.self.inside.roots.items c.self.inside.draft.after, f))
