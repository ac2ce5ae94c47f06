-- What a question gives from a forest. It may not be updating (XQuery Update Facility 1.0, section 2.1), which is our own rule, and so are the
-- form of the answer and its limit.
use Rattle.std.specs.Prelude.{ℕ, nat_lt, if◌then◌else◌, List, length, map, Result, Ok, Err}
use Rattle.std.specs.Str.{chars}
use Rattle.std.specs.List.{join_with_byte}
use Rattle.data_model.specs.Trees.{append}
use Rattle.trees.specs.Forest.{ForestTerm}
use Rattle.fault_codes.specs.declared.code.Code.{Code}
use Rattle.fault_codes.specs.declared.code.Code.TheVariants.{PXQ0004, PXQ0005}
use Rattle.values.specs.Printing.{item_text}
use Rattle.query_grammar.specs.declared.ast.Expr.{Expr}
use Rattle.static_checks.specs.Categories.{judged, is_updating}
use Rattle.static_checks.specs.Static.{parsed}
use Rattle.query_meaning.specs.Meaning.{Outcome, evaluated}
use Rattle.ballots.specs.Terms.{most_answer}
use Rattle.ballots.specs.Replies.{Answered, text, fault}

-- texts joined by line feeds, where that is short enough
abbrev pub printed : List (List ℕ) → Answered
printed texts = if nat_lt most_answer (length (join_with_byte 10 texts)) then fault PXQ0005 else text (join_with_byte 10 texts)

-- the texts of the items that an evaluation over the forest gives, or its code
abbrev pub of_outcome : ForestTerm → Result Outcome Code → Answered
of_outcome forest (Ok o) = printed (map (item_text (append forest.trees o.trees)) o.items)
of_outcome forest (Err code) = fault code

-- what an expression gives, which may not be updating
abbrev pub of_expression : ForestTerm → Expr → Answered
of_expression forest x = if is_updating (judged x).category then fault PXQ0004 else of_outcome forest (evaluated x forest)

abbrev pub of_parsed : ForestTerm → Result Expr Code → Answered
of_parsed forest (Ok x) = of_expression forest x
of_parsed forest (Err code) = fault code

-- what a question of that text gives from the forest, at a level of the language
unfoldable pub answer : ForestTerm → (level : ℕ) → (question : List ℕ) → Answered
answer forest level question = of_parsed forest (parsed level (chars question))
