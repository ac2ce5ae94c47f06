use Rattle.std.proofs.Common.{refl, [], ◌∷◌, arith, codes}
use Rattle.std.proofs.Math.Utf8.{encode}
use Rattle.std.proofs.lemmas.List.Elements.{All-nil, All-from_recursion}
use Rattle.std.specs.Fmt.{digits}
use Rattle.std.specs.Str.{chars}
use Rattle.data_model.specs.Tidy.{is_document}
use Rattle.data_model.specs.Trees.{listing}
use Rattle.values.specs.Examples.{trees}
use Rattle.values.specs.declared.atom.Item.TheVariants as item
use Rattle.query_tokens.specs.Lexing.{tokens}
use Rattle.query_tokens.specs.Reading.{rounds}
use Rattle.query_tokens.specs.Words.{marks, pairs, singles}
use Rattle.printed_trees.specs.Constructors.{IsPrintable, IsPrintableItem}
use Rattle.printed_trees.specs.Examples.{lone_texts}
use Rattle.printed_trees.proofs.Whole.{AreRuled, nodes_are_printable, item_is_parsed}
use Rattle.printed_trees.proofs.laws.examples.Goals as goal

empty : IsPrintable []
empty = record { utf8 = ([], (refl, refl)); short = omega arith }

escaped : IsPrintable (34 ∷ 38 ∷ 9 ∷ 10 ∷ 13 ∷ [])
unfolding encode
escaped = record { utf8 = (34 ∷ 38 ∷ 9 ∷ 10 ∷ 13 ∷ [], (refl, refl)); short = omega arith }

letter : IsPrintable (codes "t")
unfolding encode
letter = record { utf8 = (codes "t", (refl, refl)); short = omega arith }

ruled : AreRuled is_document trees
unfolding chars
ruled = record { tidy = refl; texts = All-from_recursion (λ c. IsPrintable c.text) (listing trees) (empty, (empty, (escaped, (letter, (empty, tt))))) }

pub returns-clause-printable : goal.returns-clause-printable
returns-clause-printable c = nodes_are_printable is_document trees ruled (omega arith)

first_lone : IsPrintableItem lone_texts (item.Node 1)
unfolding chars
first_lone = (_, refl, record { tidy = refl; text = empty; texts = All-nil (λ c. IsPrintable c.text); depth = omega arith })

second_lone : IsPrintableItem lone_texts (item.Node 2)
unfolding chars
second_lone = (_, refl, record { tidy = refl; text = letter; texts = All-nil (λ c. IsPrintable c.text); depth = omega arith })

pub returns-clause-neighbours : goal.returns-clause-neighbours
returns-clause-neighbours c = (first_lone, second_lone)

pub returns-clause-empty_text_is_parsed : goal.returns-clause-empty_text_is_parsed
unfolding chars
returns-clause-empty_text_is_parsed c = item_is_parsed 1 lone_texts (item.Node 1) first_lone

pub returns-clause-least : goal.returns-clause-least
unfolding tokens rounds marks pairs singles digits
returns-clause-least c = refl
