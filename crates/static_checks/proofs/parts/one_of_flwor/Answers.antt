use Rattle.std.proofs.Common.{arith, sym, ◌∙◌, [], ◌∷◌, ◌++◌, map, option_to_list}
use Rattle.static_checks.specs.Parts.{keys, source_of}
use Rattle.static_checks.proofs.Folds.{get_left, get_after, length_mapped}
use Rattle.static_checks.proofs.parts.one_of_flwor.Goals as goal

pub returns-then-index-count-clause-there : goal.returns-then-index-count-clause-there
returns-then-index-count-clause-there c = c.clause_source.ensures.there ∙ sym (get_left (map source_of c.args.clauses.now) (option_to_list c.args.condition.now ++ keys c.args.sort_keys.now ++ c.args.x.now ∷ []) c.args.index (omega (arith, c.if-index-count.true, c.len-count.ensures, length_mapped source_of c.args.clauses.now)))

pub returns-else-index-count-clause-there : goal.returns-else-index-count-clause-there
returns-else-index-count-clause-there c = c.after_clauses.ensures.there ∙ get_after (map source_of c.args.clauses.now) (option_to_list c.args.condition.now ++ keys c.args.sort_keys.now ++ c.args.x.now ∷ []) _ c.args.index (c.len-count.ensures ∙ sym (length_mapped source_of c.args.clauses.now)) (omega (arith, c.if-index-count.false))
