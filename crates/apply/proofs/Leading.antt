-- The texts with which a list of trees begins.
use Rattle.std.specs.Prelude.{ℕ, ◌++◌, List, [], if◌then◌else◌}
use Prim.Native.Nat.{suc}
use Rattle.data_model.specs.Trees.{Trees, no_trees, tree, is_text}

-- how many there are
abbrev pub leading : Trees → ℕ
leading no_trees = 0
leading (tree c bs cs rest) = if is_text c.kind then suc (leading rest) else 0

-- what they say, one after the other
abbrev pub leading_text : Trees → List ℕ
leading_text no_trees = []
leading_text (tree c bs cs rest) = if is_text c.kind then c.text ++ leading_text rest else []
