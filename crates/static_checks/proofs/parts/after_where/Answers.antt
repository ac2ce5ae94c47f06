use Rattle.std.proofs.Common.{arith, sym, ◌∙◌, [], ◌∷◌}
use Rattle.static_checks.specs.Parts.{keys}
use Rattle.static_checks.proofs.Folds.{get_left, get_after, length_mapped}
use Rattle.static_checks.proofs.parts.after_where.Goals as goal

pub returns-then-index-count-clause-there : goal.returns-then-index-count-clause-there
returns-then-index-count-clause-there c = c.key.ensures.there ∙ sym (get_left (keys c.args.sort_keys.now) _ c.args.index (omega (arith, c.if-index-count.true, c.len-count.ensures, length_mapped (λ k. k.key) c.args.sort_keys.now)))

pub returns-else-index-count-clause-there : goal.returns-else-index-count-clause-there
returns-else-index-count-clause-there c = c.only.ensures.there ∙ get_after (keys c.args.sort_keys.now) (c.args.x.now ∷ []) _ c.args.index (c.len-count.ensures ∙ sym (length_mapped (λ k. k.key) c.args.sort_keys.now)) (omega (arith, c.if-index-count.false))
