use Rattle.std.proofs.Common.{◌≡◌, ◌++◌, drop, map}
use Rattle.values.specs.declared.atom.Item.TheVariants as item
use Rattle.query_paths.proofs.kept.Kept.of_atoms.Given as goal

abbrev pub invariant-loop-atom : goal.invariant-loop-atom
invariant-loop-atom l = l.items.items ++ map (λ a. item.Atomic a) (drop l.atom-index l.atoms) ≡ map (λ a. item.Atomic a) l.atoms
