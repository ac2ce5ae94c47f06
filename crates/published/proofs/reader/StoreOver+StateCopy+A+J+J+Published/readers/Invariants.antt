use Rattle.std.proofs.Common.{◌≡◌, ◌≤◌}
use Rattle.published.specs.Readers.{first_readers}
use Rattle.published.proofs.reader.StoreOver+StateCopy+A+J+J+Published.readers.Given as goal

abbrev pub invariant-loop-place : goal.invariant-loop-place
invariant-loop-place g l =
    (l.given.items ≡ first_readers l.place l.fn.self.published) × (l.given.len ≡ l.place) × (l.given.cap ≡ l.fn.given.cap) × (l.place ≤ l.fn.count)
