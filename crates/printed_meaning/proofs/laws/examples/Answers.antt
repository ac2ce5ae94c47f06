use Rattle.std.proofs.Common.{◌≡◌, ℕ, List, [], ◌∷◌, codes, Result, refl, ap, ap₂, ◌∙◌}
use Rattle.trees.specs.Forest.{opening_forest}
use Rattle.fault_codes.specs.declared.code.Code.{Code}
use Rattle.values.specs.Examples.{trees}
use Rattle.values.specs.declared.atom.Item.TheVariants as item
use Rattle.query_grammar.specs.declared.ast.Expr.TheVariants as e
use Rattle.query_grammar.specs.declared.ast.Name.TheVariants.{Written}
use Rattle.query_meaning.specs.Constructors.{element, attribute, text}
use Rattle.query_meaning.specs.Environment.{no_environment}
use Rattle.query_meaning.specs.Examples.{with_work}
use Rattle.query_meaning.specs.Meaning.{mean, evaluated, start, outcome, Outcome}
use Rattle.query_meaning.specs.Sequences.{Meaning, sequence}
use Rattle.query_meaning.proofs.Compute.{everything}
use Rattle.printed_trees.specs.Constructors.{item_expression}
use Rattle.printed_meaning.proofs.Forms.{mean_sequence, mean_element, mean_attribute, mean_text, counts, literal}
use Rattle.printed_meaning.proofs.laws.examples.Goals as goal

pub returns-clause-room : goal.returns-clause-room
returns-clause-room c = refl

pub returns-clause-high : goal.returns-clause-high
returns-clause-high c = refl

pub returns-clause-too_high : goal.returns-clause-too_high
returns-clause-too_high c = refl

-- the attribute's text
abbrev escaped : List ℕ
escaped = 34 ∷ 38 ∷ 9 ∷ 10 ∷ 13 ∷ []

means : mean (item_expression trees (item.Node 2))
    ≡ counts (element (Written (codes "e")) (counts (sequence (counts (attribute (Written (codes "n")) (literal escaped)) ∷ counts (text (literal (codes "t"))) ∷ []))))
means =
    mean_element (codes "e") (e.Sequence (e.Attribute (Written (codes "n")) (e.String escaped) ∷ e.Text (e.String (codes "t")) ∷ []))
    ∙ ap (λ m. counts (element (Written (codes "e")) m))
    (mean_sequence (e.Attribute (Written (codes "n")) (e.String escaped) ∷ e.Text (e.String (codes "t")) ∷ [])
    ∙ ap₂ (λ m n. counts (sequence (m ∷ n ∷ []))) (mean_attribute (codes "n") escaped) (mean_text (codes "t")))

pub returns-clause-made : goal.returns-clause-made
unfolding everything evaluated
returns-clause-made c = ap (λ (m : Meaning). outcome (m no_environment (start (opening_forest [])))) means

-- with such work
abbrev made_with : ℕ → Meaning → Result Outcome Code
made_with n m = outcome (m no_environment (with_work n (start (opening_forest []))))

pub returns-clause-by_its_work : goal.returns-clause-by_its_work
unfolding everything
returns-clause-by_its_work c = ap (made_with 13) means

pub returns-clause-by_less : goal.returns-clause-by_less
unfolding everything
returns-clause-by_less c = ap (made_with 12) means
