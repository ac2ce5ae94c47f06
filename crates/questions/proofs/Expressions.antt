-- What an evaluation gives is what the expression means, over the forest that was lent.
use Rattle.std.proofs.Common.{◌≡◌, Bool, false, if◌then◌else◌, List, map, Result, Ok, Err, ap, sym, ◌∙◌}
use Rattle.data_model.specs.Trees.{append}
use Rattle.trees.specs.Forest.{ForestTerm}
use Rattle.shelves.specs.Shelf.{shelf_trees}
use Rattle.fault_codes.specs.declared.code.Code.{Code}
use Rattle.fault_codes.specs.declared.code.Code.TheVariants.{PXQ0004}
use Rattle.values.specs.declared.atom.Item.{Item}
use Rattle.values.specs.Printing.{item_text}
use Rattle.query_grammar.specs.declared.ast.Expr.{Expr}
use Rattle.static_checks.specs.Categories.{judged, is_updating}
use Rattle.query_meaning.specs.Running.{Run}
use Rattle.query_meaning.specs.Environment.{no_environment}
use Rattle.query_meaning.specs.Meaning.{evaluated, mean, outcome, start}
use Rattle.meaning_laws.proofs.Steady.{SameForest, same_forest}
use Rattle.meaning_laws.proofs.Updating.{every}
use Rattle.evaluator.specs.Outcomes.{Evaluated, evaluated_over, given, outcome_of}
use Rattle.ballots.specs.Replies.{fault}
use Rattle.questions.specs.Answers.{of_expression, of_outcome, printed}

value_of : (r : Result (List Item × Run) Code) (o : Evaluated) → given r ≡ Ok o → r ≡ Ok (o.items, o.run)
value_of (Ok p) o h = (let e : record { items = p.0; run = p.1 } ≡ o = cc in ap (λ (v : Evaluated). Ok (v.items, v.run)) e)
value_of (Err code) o h = absurd cc

no_value : (r : Result (List Item × Run) Code) (code : Code) → given r ≡ Err code → outcome r ≡ Err code
no_value (Ok p) code h = absurd cc
no_value (Err c) code h = cc

module _ (x : Expr) (forest : ForestTerm) (updates : Bool) (is : updates ≡ is_updating (judged x).category) (not : updates ≡ false) where
  simple : of_outcome forest (evaluated x forest) ≡ of_expression forest x
  simple = ap (λ b. if b then fault PXQ0004 else of_outcome forest (evaluated x forest)) (sym not ∙ is)

  pub items : (o : Evaluated) → evaluated_over x forest ≡ Ok o → evaluated x forest ≡ Ok (outcome_of o)
      → printed (map (item_text (shelf_trees o.run.shelf)) o.items) ≡ of_expression forest x
  items o over whole =
      let value : mean x no_environment (start forest) ≡ Ok (o.items, o.run) = value_of (mean x no_environment (start forest)) o over in
      let lent : o.run.shelf.lent ≡ forest = (every SameForest same_forest x no_environment).kept (start forest) (o.items, o.run) value in
      ap (λ (f : ForestTerm). printed (map (item_text (append f.trees o.run.shelf.own.trees)) o.items)) lent ∙ sym (ap (of_outcome forest) whole) ∙ simple

  pub code : (c : Code) → evaluated_over x forest ≡ Err c → fault c ≡ of_expression forest x
  unfolding evaluated
  code c over = sym (ap (of_outcome forest) (no_value (mean x no_environment (start forest)) c over)) ∙ simple
