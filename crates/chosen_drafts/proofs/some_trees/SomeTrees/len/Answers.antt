use Rattle.std.proofs.Common.{◌≡◌, ap, sym, ◌∙◌, arith}
use Rattle.data_model.specs.Trees.{size}
use Rattle.chosen_drafts.specs.Chosen.{others}
use Rattle.chosen_drafts.proofs.Chosen.{sizes-both}
use Rattle.chosen_drafts.proofs.some_trees.SomeTrees.len.Goals as goal

left : (c : goal.After-len) → size (others c.self.inside.roots.items c.self.inside.draft.after) ≡ c.self.inside.others
left c = ap size c.self.invariant.same ∙ c.self.invariant.counted

pub overflow_sub-result : goal.overflow_sub-result
overflow_sub-result c = omega (arith, left c, sizes-both c.self.inside.roots.items c.self.inside.draft.after, c.len.ensures)

pub returns : goal.returns
returns c = rw (sym c.self.view_is) (omega (arith, left c, sizes-both c.self.inside.roots.items c.self.inside.draft.after, c.len.ensures))
