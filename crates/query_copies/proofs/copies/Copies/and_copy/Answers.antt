use Rattle.std.proofs.Common.{List, subst, sym}
use Rattle.query_meaning.specs.Copies.{Copy, roots_of}
use Rattle.query_copies.specs.Kept.{AreCopies}
use Rattle.query_copies.proofs.copies.Copies.and_copy.Goals as goal

pub returns-clause-copies : goal.returns-clause-copies
returns-clause-copies g c = λ start were.
    let P : List Copy → Type 0 = λ cs. AreCopies start (roots_of cs) c.copied.new.run in
    subst P (sym c.in_ok-and.ensures) (c.in_ok-root.ensures.copies start (roots_of c.args.copies) were)
