-- Steps of the code as those of the grammar.
use Rattle.query_grammar.specs.Grammar as grammar
use Rattle.query_parts.specs.declared.steps.AxisStep.{AxisStep}
use Rattle.query_parts.specs.declared.steps.Step.{Step}
use Rattle.query_parts.specs.declared.steps.Step.TheVariants as step

abbrev pub as_axis_step : AxisStep → grammar.AxisStep
as_axis_step s = record { axis = s.axis; test = s.test; is_bare = s.is_bare }

abbrev pub as_step : Step → grammar.StepOf
as_step (step.Axis s predicates) = grammar.OfAxis (as_axis_step s) predicates
as_step (step.Primary x predicates) = grammar.OfPrimary x predicates
