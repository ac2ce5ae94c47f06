use Rattle.shelves.proofs.Shelves.{parted-shelf}
use Rattle.shelves.proofs.shelf.Shelf.cursor.Goals as goal

pub new-requires : goal.new-requires
new-requires c = (let facts = rw (← c.self.view_is) at c.facts.ensures in rw (c.number.ensures, c.next.ensures, c.cursor.ensures, c.cursor-2.ensures) (parted-shelf _ facts))
