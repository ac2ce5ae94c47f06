use Rattle.std.proofs.Common.{arith, sym, ◌∙◌, [], ◌∷◌}
use Rattle.static_checks.specs.Parts.{sources}
use Rattle.static_checks.proofs.Folds.{get_left, get_after, length_mapped}
use Rattle.static_checks.proofs.parts.one_of_copy.Goals as goal

pub returns-then-index-count-clause-there : goal.returns-then-index-count-clause-there
returns-then-index-count-clause-there c = c.source.ensures.there ∙ sym (get_left (sources c.args.bindings.now) (c.args.x.now ∷ c.args.y.now ∷ []) c.args.index (omega (arith, c.if-index-count.true, c.len-count.ensures, length_mapped (λ b. b.source) c.args.bindings.now)))

pub returns-else-index-count-clause-there : goal.returns-else-index-count-clause-there
returns-else-index-count-clause-there c = c.one_of_two.ensures.there ∙ get_after (sources c.args.bindings.now) (c.args.x.now ∷ c.args.y.now ∷ []) _ c.args.index (c.len-count.ensures ∙ sym (length_mapped (λ b. b.source) c.args.bindings.now)) (omega (arith, c.if-index-count.false))
