-- The lines so far are there.
use Rattle.std.proofs.Common.{◌≡◌, [], ◌++◌, Some, take}
use Rattle.shelves.specs.Shelf.{shelf_trees}
use Rattle.values.specs.Limited.{added}
use Rattle.values.specs.Printing.{item_text}
use Rattle.ballots.specs.Terms.{most_answer}
use Rattle.questions.proofs.Lines.{lines_of}
use Rattle.questions.proofs.answering.print_lines.Given as goal

abbrev pub invariant-loop-item : goal.invariant-loop-item
invariant-loop-item l = l.lines ≡ added (record { most = most_answer; text = Some [] }) (item_text (shelf_trees l.shelf) l.first ++ lines_of (item_text (shelf_trees l.shelf)) (take l.item-index l.others))
