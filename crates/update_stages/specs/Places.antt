-- Places in the lists of nodes.
use Rattle.std.specs.Prelude.{◌≡◌, ℕ, Option, Some, None, IsSome, length}
use Rattle.std.specs.List.{slice_get}
use Prim.Native.Nat.{suc}
use Rattle.data_model.specs.Changes.{part_of}
use Rattle.data_model.specs.Trees.{Trees, append, find, parent_of}
use Rattle.data_model.specs.declared.node.Part.{Part}
use Rattle.update_stages.specs.declared.lists.Share.{Share}
use Rattle.update_stages.specs.declared.lists.Share.TheVariants.{Front, Back, Whole}
use Rattle.update_stages.specs.declared.sites.Side.{Side}
use Rattle.update_stages.specs.declared.sites.Side.TheVariants.{Before, After, Instead}
use Rattle.update_stages.specs.declared.sites.Site.{Site}

-- what becomes of a tree where the trees us come to stand on a side of it
abbrev pub beside : Side → (us tree : Trees) → Trees
beside Before us t = append us t
beside After us t = append t us
beside Instead us t = us

-- how many of a list's trees stay before them, and how many come before those that stay after them, where the tree has n before it
abbrev pub start_of : Side → ℕ → ℕ
start_of Before n = n
start_of After n = suc n
start_of Instead n = n

abbrev pub end_of : Side → ℕ → ℕ
end_of Before n = n
end_of After n = suc n
end_of Instead n = suc n

-- what becomes of a list of trees of which the trees us come to be a share
abbrev pub shared : Share → (us list : Trees) → Trees
shared Front us ts = append us ts
shared Back us ts = append ts us
shared Whole us ts = us

-- the same, where the list has n trees
abbrev pub from_of : Share → ℕ → ℕ
from_of Front n = 0
from_of Back n = n
from_of Whole n = 0

abbrev pub to_of : Share → ℕ → ℕ
to_of Front n = 0
to_of Back n = n
to_of Whole n = n

-- the place of a node in a list of its parent; none where it has no parent
abbrev pub IsSiteOf : Option Site → ℕ → Trees → Type 0
IsSiteOf None i ts = parent_of i ts ≡ None
IsSiteOf (Some s) i ts = slice_get (part_of s.part s.parent ts) s.at ≡ Some i

-- the length of a list of a node; none where there is no such node
abbrev pub IsLengthOf : Option ℕ → Part → ℕ → Trees → Type 0
IsLengthOf None part i ts = find i ts ≡ None
IsLengthOf (Some n) part i ts = IsSome (find i ts) × (n ≡ length (part_of part i ts))
