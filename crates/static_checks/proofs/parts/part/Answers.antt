use Rattle.std.proofs.Common.{ap, ◌∙◌}
use Rattle.static_checks.specs.Inside.{children}
use Rattle.static_checks.proofs.Folds.{of_sequence, of_call, of_step, of_filter, of_path, of_chain, of_quantified, of_flwor, of_copy, part_at}
use Rattle.static_checks.proofs.parts.part.Goals as goal

pub returns-in-Sequence-clause-there : goal.returns-in-Sequence-clause-there
returns-in-Sequence-clause-there c = part_at _ _ _ c.args.index c.at.ensures.there (ap children c.in-Sequence.is ∙ of_sequence c.in-Sequence.xs)

pub returns-in-Call-clause-there : goal.returns-in-Call-clause-there
returns-in-Call-clause-there c = part_at _ _ _ c.args.index c.at-in-Call.ensures.there (ap children c.in-Call.is ∙ of_call c.in-Call.field-0 c.in-Call.xs)

pub returns-in-Step-clause-there : goal.returns-in-Step-clause-there
returns-in-Step-clause-there c = part_at _ _ _ c.args.index c.at-in-Step.ensures.there (ap children c.in-Step.is ∙ of_step c.in-Step.field-0 c.in-Step.field-1 c.in-Step.xs)

pub returns-in-Filter-clause-there : goal.returns-in-Filter-clause-there
returns-in-Filter-clause-there c = part_at _ _ _ c.args.index c.one_of_list.ensures.there (ap children c.in-Filter.is ∙ of_filter c.in-Filter.x c.in-Filter.xs)

pub returns-in-Path-clause-there : goal.returns-in-Path-clause-there
returns-in-Path-clause-there c = part_at _ _ _ c.args.index c.one_of_list-in-Path.ensures.there (ap children c.in-Path.is ∙ of_path c.in-Path.x c.in-Path.xs)

pub returns-in-Chain-clause-there : goal.returns-in-Chain-clause-there
returns-in-Chain-clause-there c = part_at _ _ _ c.args.index c.one_of_chain.ensures.there (ap children c.in-Chain.is ∙ of_chain c.in-Chain.x c.in-Chain.others)

pub returns-in-Quantified-clause-there : goal.returns-in-Quantified-clause-there
returns-in-Quantified-clause-there c = part_at _ _ _ c.args.index c.one_of_quantified.ensures.there (ap children c.in-Quantified.is ∙ of_quantified c.in-Quantified.field-0 c.in-Quantified.bindings c.in-Quantified.x)

pub returns-in-Flwor-clause-there : goal.returns-in-Flwor-clause-there
returns-in-Flwor-clause-there c = part_at _ _ _ c.args.index c.one_of_flwor.ensures.there (ap children c.in-Flwor.is ∙ of_flwor c.in-Flwor.clauses c.in-Flwor.condition c.in-Flwor.sort_keys c.in-Flwor.x)

pub returns-in-Copy-clause-there : goal.returns-in-Copy-clause-there
returns-in-Copy-clause-there c = part_at _ _ _ c.args.index c.one_of_copy.ensures.there (ap children c.in-Copy.is ∙ of_copy c.in-Copy.bindings c.in-Copy.x c.in-Copy.y)
