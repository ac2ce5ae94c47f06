use Rattle.keyed_items.proofs.Making.{ReadSoFar}
use Rattle.keyed_items.proofs.keys.key_functions.Given as goal

abbrev pub invariant-loop-key : goal.invariant-loop-key
invariant-loop-key l = ReadSoFar l.fn.keys l.functions.items l.key-index
