use Rattle.std.proofs.Common.{refl}
use Rattle.std.specs.Char.{encode_utf8}
use Rattle.query_tokens.specs.Lexing.{tokens}
use Rattle.query_tokens.specs.Reading.{rounds}
use Rattle.query_tokens.specs.Words.{kind_of, marks, pairs, singles}
use Rattle.query_grammar.specs.Reading as reading
use Rattle.query_grammar.specs.Reader as r
use Rattle.query_laws.proofs.Spelt.{is_spelt}
use Rattle.query_laws.proofs.laws.examples.Goals as goal

pub returns-clause-axes : goal.returns-clause-axes
unfolding tokens rounds encode_utf8 kind_of marks pairs singles reading.rounds reading.sees reading.at_level reading.take_if reading.take_as r.list1 r.name r.variable r.operation r.chain r.at_most_once r.sees_kind_test r.kind_test r.node_test r.named_axis r.attribute_step r.axis_step r.sees_primary r.slash r.sees_sign r.exprs r.content r.parens r.braces r.body r.arguments r.call r.name_or_braces r.named r.make r.primary r.predicate r.predicates r.step r.segment r.path r.unary r.inter r.union r.multiplication r.addition r.range r.comparison r.conjunction r.disjunction r.conditional r.in_binding r.set_binding r.at_binding r.for_binding r.clauses r.condition r.direction r.key r.keys r.flwor r.which r.quantified r.node_or_nodes r.place_of r.insertion r.deletion r.replace_node r.replace_value r.replacement r.renaming r.copying r.copy r.single_of r.single r.query
returns-clause-axes c = is_spelt 1 _ _ refl

pub returns-clause-kind_tests : goal.returns-clause-kind_tests
unfolding tokens rounds encode_utf8 kind_of marks pairs singles reading.rounds reading.sees reading.at_level reading.take_if reading.take_as r.list1 r.name r.variable r.operation r.chain r.at_most_once r.sees_kind_test r.kind_test r.node_test r.named_axis r.attribute_step r.axis_step r.sees_primary r.slash r.sees_sign r.exprs r.content r.parens r.braces r.body r.arguments r.call r.name_or_braces r.named r.make r.primary r.predicate r.predicates r.step r.segment r.path r.unary r.inter r.union r.multiplication r.addition r.range r.comparison r.conjunction r.disjunction r.conditional r.in_binding r.set_binding r.at_binding r.for_binding r.clauses r.condition r.direction r.key r.keys r.flwor r.which r.quantified r.node_or_nodes r.place_of r.insertion r.deletion r.replace_node r.replace_value r.replacement r.renaming r.copying r.copy r.single_of r.single r.query
returns-clause-kind_tests c = is_spelt 1 _ _ refl

pub returns-clause-short_axes : goal.returns-clause-short_axes
unfolding tokens rounds encode_utf8 kind_of marks pairs singles reading.rounds reading.sees reading.at_level reading.take_if reading.take_as r.list1 r.name r.variable r.operation r.chain r.at_most_once r.sees_kind_test r.kind_test r.node_test r.named_axis r.attribute_step r.axis_step r.sees_primary r.slash r.sees_sign r.exprs r.content r.parens r.braces r.body r.arguments r.call r.name_or_braces r.named r.make r.primary r.predicate r.predicates r.step r.segment r.path r.unary r.inter r.union r.multiplication r.addition r.range r.comparison r.conjunction r.disjunction r.conditional r.in_binding r.set_binding r.at_binding r.for_binding r.clauses r.condition r.direction r.key r.keys r.flwor r.which r.quantified r.node_or_nodes r.place_of r.insertion r.deletion r.replace_node r.replace_value r.replacement r.renaming r.copying r.copy r.single_of r.single r.query
returns-clause-short_axes c = is_spelt 1 _ _ refl

pub returns-clause-short_paths : goal.returns-clause-short_paths
unfolding tokens rounds encode_utf8 kind_of marks pairs singles reading.rounds reading.sees reading.at_level reading.take_if reading.take_as r.list1 r.name r.variable r.operation r.chain r.at_most_once r.sees_kind_test r.kind_test r.node_test r.named_axis r.attribute_step r.axis_step r.sees_primary r.slash r.sees_sign r.exprs r.content r.parens r.braces r.body r.arguments r.call r.name_or_braces r.named r.make r.primary r.predicate r.predicates r.step r.segment r.path r.unary r.inter r.union r.multiplication r.addition r.range r.comparison r.conjunction r.disjunction r.conditional r.in_binding r.set_binding r.at_binding r.for_binding r.clauses r.condition r.direction r.key r.keys r.flwor r.which r.quantified r.node_or_nodes r.place_of r.insertion r.deletion r.replace_node r.replace_value r.replacement r.renaming r.copying r.copy r.single_of r.single r.query
returns-clause-short_paths c = is_spelt 1 _ _ refl

pub returns-clause-signs : goal.returns-clause-signs
unfolding tokens rounds encode_utf8 kind_of marks pairs singles reading.rounds reading.sees reading.at_level reading.take_if reading.take_as r.list1 r.name r.variable r.operation r.chain r.at_most_once r.sees_kind_test r.kind_test r.node_test r.named_axis r.attribute_step r.axis_step r.sees_primary r.slash r.sees_sign r.exprs r.content r.parens r.braces r.body r.arguments r.call r.name_or_braces r.named r.make r.primary r.predicate r.predicates r.step r.segment r.path r.unary r.inter r.union r.multiplication r.addition r.range r.comparison r.conjunction r.disjunction r.conditional r.in_binding r.set_binding r.at_binding r.for_binding r.clauses r.condition r.direction r.key r.keys r.flwor r.which r.quantified r.node_or_nodes r.place_of r.insertion r.deletion r.replace_node r.replace_value r.replacement r.renaming r.copying r.copy r.single_of r.single r.query
returns-clause-signs c = is_spelt 1 _ _ refl

pub returns-clause-set_operators : goal.returns-clause-set_operators
unfolding tokens rounds encode_utf8 kind_of marks pairs singles reading.rounds reading.sees reading.at_level reading.take_if reading.take_as r.list1 r.name r.variable r.operation r.chain r.at_most_once r.sees_kind_test r.kind_test r.node_test r.named_axis r.attribute_step r.axis_step r.sees_primary r.slash r.sees_sign r.exprs r.content r.parens r.braces r.body r.arguments r.call r.name_or_braces r.named r.make r.primary r.predicate r.predicates r.step r.segment r.path r.unary r.inter r.union r.multiplication r.addition r.range r.comparison r.conjunction r.disjunction r.conditional r.in_binding r.set_binding r.at_binding r.for_binding r.clauses r.condition r.direction r.key r.keys r.flwor r.which r.quantified r.node_or_nodes r.place_of r.insertion r.deletion r.replace_node r.replace_value r.replacement r.renaming r.copying r.copy r.single_of r.single r.query
returns-clause-set_operators c = is_spelt 1 _ _ refl

pub returns-clause-arithmetic_operators : goal.returns-clause-arithmetic_operators
unfolding tokens rounds encode_utf8 kind_of marks pairs singles reading.rounds reading.sees reading.at_level reading.take_if reading.take_as r.list1 r.name r.variable r.operation r.chain r.at_most_once r.sees_kind_test r.kind_test r.node_test r.named_axis r.attribute_step r.axis_step r.sees_primary r.slash r.sees_sign r.exprs r.content r.parens r.braces r.body r.arguments r.call r.name_or_braces r.named r.make r.primary r.predicate r.predicates r.step r.segment r.path r.unary r.inter r.union r.multiplication r.addition r.range r.comparison r.conjunction r.disjunction r.conditional r.in_binding r.set_binding r.at_binding r.for_binding r.clauses r.condition r.direction r.key r.keys r.flwor r.which r.quantified r.node_or_nodes r.place_of r.insertion r.deletion r.replace_node r.replace_value r.replacement r.renaming r.copying r.copy r.single_of r.single r.query
returns-clause-arithmetic_operators c = is_spelt 1 _ _ refl

pub returns-clause-general_comparisons : goal.returns-clause-general_comparisons
unfolding tokens rounds encode_utf8 kind_of marks pairs singles reading.rounds reading.sees reading.at_level reading.take_if reading.take_as r.list1 r.name r.variable r.operation r.chain r.at_most_once r.sees_kind_test r.kind_test r.node_test r.named_axis r.attribute_step r.axis_step r.sees_primary r.slash r.sees_sign r.exprs r.content r.parens r.braces r.body r.arguments r.call r.name_or_braces r.named r.make r.primary r.predicate r.predicates r.step r.segment r.path r.unary r.inter r.union r.multiplication r.addition r.range r.comparison r.conjunction r.disjunction r.conditional r.in_binding r.set_binding r.at_binding r.for_binding r.clauses r.condition r.direction r.key r.keys r.flwor r.which r.quantified r.node_or_nodes r.place_of r.insertion r.deletion r.replace_node r.replace_value r.replacement r.renaming r.copying r.copy r.single_of r.single r.query
returns-clause-general_comparisons c = is_spelt 1 _ _ refl

pub returns-clause-value_comparisons : goal.returns-clause-value_comparisons
unfolding tokens rounds encode_utf8 kind_of marks pairs singles reading.rounds reading.sees reading.at_level reading.take_if reading.take_as r.list1 r.name r.variable r.operation r.chain r.at_most_once r.sees_kind_test r.kind_test r.node_test r.named_axis r.attribute_step r.axis_step r.sees_primary r.slash r.sees_sign r.exprs r.content r.parens r.braces r.body r.arguments r.call r.name_or_braces r.named r.make r.primary r.predicate r.predicates r.step r.segment r.path r.unary r.inter r.union r.multiplication r.addition r.range r.comparison r.conjunction r.disjunction r.conditional r.in_binding r.set_binding r.at_binding r.for_binding r.clauses r.condition r.direction r.key r.keys r.flwor r.which r.quantified r.node_or_nodes r.place_of r.insertion r.deletion r.replace_node r.replace_value r.replacement r.renaming r.copying r.copy r.single_of r.single r.query
returns-clause-value_comparisons c = is_spelt 1 _ _ refl

pub returns-clause-other_operators : goal.returns-clause-other_operators
unfolding tokens rounds encode_utf8 kind_of marks pairs singles reading.rounds reading.sees reading.at_level reading.take_if reading.take_as r.list1 r.name r.variable r.operation r.chain r.at_most_once r.sees_kind_test r.kind_test r.node_test r.named_axis r.attribute_step r.axis_step r.sees_primary r.slash r.sees_sign r.exprs r.content r.parens r.braces r.body r.arguments r.call r.name_or_braces r.named r.make r.primary r.predicate r.predicates r.step r.segment r.path r.unary r.inter r.union r.multiplication r.addition r.range r.comparison r.conjunction r.disjunction r.conditional r.in_binding r.set_binding r.at_binding r.for_binding r.clauses r.condition r.direction r.key r.keys r.flwor r.which r.quantified r.node_or_nodes r.place_of r.insertion r.deletion r.replace_node r.replace_value r.replacement r.renaming r.copying r.copy r.single_of r.single r.query
returns-clause-other_operators c = is_spelt 1 _ _ refl

pub returns-clause-levels : goal.returns-clause-levels
unfolding tokens rounds encode_utf8 kind_of marks pairs singles reading.rounds reading.sees reading.at_level reading.take_if reading.take_as r.list1 r.name r.variable r.operation r.chain r.at_most_once r.sees_kind_test r.kind_test r.node_test r.named_axis r.attribute_step r.axis_step r.sees_primary r.slash r.sees_sign r.exprs r.content r.parens r.braces r.body r.arguments r.call r.name_or_braces r.named r.make r.primary r.predicate r.predicates r.step r.segment r.path r.unary r.inter r.union r.multiplication r.addition r.range r.comparison r.conjunction r.disjunction r.conditional r.in_binding r.set_binding r.at_binding r.for_binding r.clauses r.condition r.direction r.key r.keys r.flwor r.which r.quantified r.node_or_nodes r.place_of r.insertion r.deletion r.replace_node r.replace_value r.replacement r.renaming r.copying r.copy r.single_of r.single r.query
returns-clause-levels c = is_spelt 1 _ _ refl

pub returns-clause-primaries : goal.returns-clause-primaries
unfolding tokens rounds encode_utf8 kind_of marks pairs singles reading.rounds reading.sees reading.at_level reading.take_if reading.take_as r.list1 r.name r.variable r.operation r.chain r.at_most_once r.sees_kind_test r.kind_test r.node_test r.named_axis r.attribute_step r.axis_step r.sees_primary r.slash r.sees_sign r.exprs r.content r.parens r.braces r.body r.arguments r.call r.name_or_braces r.named r.make r.primary r.predicate r.predicates r.step r.segment r.path r.unary r.inter r.union r.multiplication r.addition r.range r.comparison r.conjunction r.disjunction r.conditional r.in_binding r.set_binding r.at_binding r.for_binding r.clauses r.condition r.direction r.key r.keys r.flwor r.which r.quantified r.node_or_nodes r.place_of r.insertion r.deletion r.replace_node r.replace_value r.replacement r.renaming r.copying r.copy r.single_of r.single r.query
returns-clause-primaries c = is_spelt 1 _ _ refl

pub returns-clause-constructors : goal.returns-clause-constructors
unfolding tokens rounds encode_utf8 kind_of marks pairs singles reading.rounds reading.sees reading.at_level reading.take_if reading.take_as r.list1 r.name r.variable r.operation r.chain r.at_most_once r.sees_kind_test r.kind_test r.node_test r.named_axis r.attribute_step r.axis_step r.sees_primary r.slash r.sees_sign r.exprs r.content r.parens r.braces r.body r.arguments r.call r.name_or_braces r.named r.make r.primary r.predicate r.predicates r.step r.segment r.path r.unary r.inter r.union r.multiplication r.addition r.range r.comparison r.conjunction r.disjunction r.conditional r.in_binding r.set_binding r.at_binding r.for_binding r.clauses r.condition r.direction r.key r.keys r.flwor r.which r.quantified r.node_or_nodes r.place_of r.insertion r.deletion r.replace_node r.replace_value r.replacement r.renaming r.copying r.copy r.single_of r.single r.query
returns-clause-constructors c = is_spelt 1 _ _ refl

pub returns-clause-conditional : goal.returns-clause-conditional
unfolding tokens rounds encode_utf8 kind_of marks pairs singles reading.rounds reading.sees reading.at_level reading.take_if reading.take_as r.list1 r.name r.variable r.operation r.chain r.at_most_once r.sees_kind_test r.kind_test r.node_test r.named_axis r.attribute_step r.axis_step r.sees_primary r.slash r.sees_sign r.exprs r.content r.parens r.braces r.body r.arguments r.call r.name_or_braces r.named r.make r.primary r.predicate r.predicates r.step r.segment r.path r.unary r.inter r.union r.multiplication r.addition r.range r.comparison r.conjunction r.disjunction r.conditional r.in_binding r.set_binding r.at_binding r.for_binding r.clauses r.condition r.direction r.key r.keys r.flwor r.which r.quantified r.node_or_nodes r.place_of r.insertion r.deletion r.replace_node r.replace_value r.replacement r.renaming r.copying r.copy r.single_of r.single r.query
returns-clause-conditional c = is_spelt 1 _ _ refl

pub returns-clause-quantified : goal.returns-clause-quantified
unfolding tokens rounds encode_utf8 kind_of marks pairs singles reading.rounds reading.sees reading.at_level reading.take_if reading.take_as r.list1 r.name r.variable r.operation r.chain r.at_most_once r.sees_kind_test r.kind_test r.node_test r.named_axis r.attribute_step r.axis_step r.sees_primary r.slash r.sees_sign r.exprs r.content r.parens r.braces r.body r.arguments r.call r.name_or_braces r.named r.make r.primary r.predicate r.predicates r.step r.segment r.path r.unary r.inter r.union r.multiplication r.addition r.range r.comparison r.conjunction r.disjunction r.conditional r.in_binding r.set_binding r.at_binding r.for_binding r.clauses r.condition r.direction r.key r.keys r.flwor r.which r.quantified r.node_or_nodes r.place_of r.insertion r.deletion r.replace_node r.replace_value r.replacement r.renaming r.copying r.copy r.single_of r.single r.query
returns-clause-quantified c = is_spelt 1 _ _ refl

pub returns-clause-clauses : goal.returns-clause-clauses
unfolding tokens rounds encode_utf8 kind_of marks pairs singles reading.rounds reading.sees reading.at_level reading.take_if reading.take_as r.list1 r.name r.variable r.operation r.chain r.at_most_once r.sees_kind_test r.kind_test r.node_test r.named_axis r.attribute_step r.axis_step r.sees_primary r.slash r.sees_sign r.exprs r.content r.parens r.braces r.body r.arguments r.call r.name_or_braces r.named r.make r.primary r.predicate r.predicates r.step r.segment r.path r.unary r.inter r.union r.multiplication r.addition r.range r.comparison r.conjunction r.disjunction r.conditional r.in_binding r.set_binding r.at_binding r.for_binding r.clauses r.condition r.direction r.key r.keys r.flwor r.which r.quantified r.node_or_nodes r.place_of r.insertion r.deletion r.replace_node r.replace_value r.replacement r.renaming r.copying r.copy r.single_of r.single r.query
returns-clause-clauses c = is_spelt 1 _ _ refl

pub returns-clause-result_alone : goal.returns-clause-result_alone
unfolding tokens rounds encode_utf8 kind_of marks pairs singles reading.rounds reading.sees reading.at_level reading.take_if reading.take_as r.list1 r.name r.variable r.operation r.chain r.at_most_once r.sees_kind_test r.kind_test r.node_test r.named_axis r.attribute_step r.axis_step r.sees_primary r.slash r.sees_sign r.exprs r.content r.parens r.braces r.body r.arguments r.call r.name_or_braces r.named r.make r.primary r.predicate r.predicates r.step r.segment r.path r.unary r.inter r.union r.multiplication r.addition r.range r.comparison r.conjunction r.disjunction r.conditional r.in_binding r.set_binding r.at_binding r.for_binding r.clauses r.condition r.direction r.key r.keys r.flwor r.which r.quantified r.node_or_nodes r.place_of r.insertion r.deletion r.replace_node r.replace_value r.replacement r.renaming r.copying r.copy r.single_of r.single r.query
returns-clause-result_alone c = is_spelt 1 _ _ refl

pub returns-clause-insertions : goal.returns-clause-insertions
unfolding tokens rounds encode_utf8 kind_of marks pairs singles reading.rounds reading.sees reading.at_level reading.take_if reading.take_as r.list1 r.name r.variable r.operation r.chain r.at_most_once r.sees_kind_test r.kind_test r.node_test r.named_axis r.attribute_step r.axis_step r.sees_primary r.slash r.sees_sign r.exprs r.content r.parens r.braces r.body r.arguments r.call r.name_or_braces r.named r.make r.primary r.predicate r.predicates r.step r.segment r.path r.unary r.inter r.union r.multiplication r.addition r.range r.comparison r.conjunction r.disjunction r.conditional r.in_binding r.set_binding r.at_binding r.for_binding r.clauses r.condition r.direction r.key r.keys r.flwor r.which r.quantified r.node_or_nodes r.place_of r.insertion r.deletion r.replace_node r.replace_value r.replacement r.renaming r.copying r.copy r.single_of r.single r.query
returns-clause-insertions c = is_spelt 1 _ _ refl

pub returns-clause-other_updates : goal.returns-clause-other_updates
unfolding tokens rounds encode_utf8 kind_of marks pairs singles reading.rounds reading.sees reading.at_level reading.take_if reading.take_as r.list1 r.name r.variable r.operation r.chain r.at_most_once r.sees_kind_test r.kind_test r.node_test r.named_axis r.attribute_step r.axis_step r.sees_primary r.slash r.sees_sign r.exprs r.content r.parens r.braces r.body r.arguments r.call r.name_or_braces r.named r.make r.primary r.predicate r.predicates r.step r.segment r.path r.unary r.inter r.union r.multiplication r.addition r.range r.comparison r.conjunction r.disjunction r.conditional r.in_binding r.set_binding r.at_binding r.for_binding r.clauses r.condition r.direction r.key r.keys r.flwor r.which r.quantified r.node_or_nodes r.place_of r.insertion r.deletion r.replace_node r.replace_value r.replacement r.renaming r.copying r.copy r.single_of r.single r.query
returns-clause-other_updates c = is_spelt 1 _ _ refl

pub returns-clause-copied : goal.returns-clause-copied
unfolding tokens rounds encode_utf8 kind_of marks pairs singles reading.rounds reading.sees reading.at_level reading.take_if reading.take_as r.list1 r.name r.variable r.operation r.chain r.at_most_once r.sees_kind_test r.kind_test r.node_test r.named_axis r.attribute_step r.axis_step r.sees_primary r.slash r.sees_sign r.exprs r.content r.parens r.braces r.body r.arguments r.call r.name_or_braces r.named r.make r.primary r.predicate r.predicates r.step r.segment r.path r.unary r.inter r.union r.multiplication r.addition r.range r.comparison r.conjunction r.disjunction r.conditional r.in_binding r.set_binding r.at_binding r.for_binding r.clauses r.condition r.direction r.key r.keys r.flwor r.which r.quantified r.node_or_nodes r.place_of r.insertion r.deletion r.replace_node r.replace_value r.replacement r.renaming r.copying r.copy r.single_of r.single r.query
returns-clause-copied c = is_spelt 2 _ _ refl
