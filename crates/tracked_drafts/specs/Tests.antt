-- Tests of nodes in their places, and trees that pass them but for some nodes.
use Rattle.std.specs.Prelude.{◌≡◌, ℕ, Bool, true, not, ◌&&◌, ◌||◌, ◌==◌, nat_lt, List, length, take}
use Prim.Native.Nat.{suc}
use Rattle.data_model.specs.Limits.{most_height}
use Rattle.data_model.specs.Trees.{Trees, no_trees, tree, Content, is_text}
use Rattle.data_model.specs.Tidy.{begins_with_text, has_distinct_names}
use Rattle.pending.specs.Compatible.{is_among}
use Rattle.pending.specs.Texts.{is_empty_text}
use Rattle.update_meaning.specs.Results.{is_small}

-- a test of a node where it stands: how many nodes are above it, what it says, its attributes, its children, and whether a text comes right after it
abbrev pub NodeTest : Type 0
NodeTest = ℕ → Content → Trees → Trees → Bool → Bool

-- each node passes the test, but for those of some identities; n nodes stand above the trees
abbrev pub all_but : List ℕ → NodeTest → ℕ → Trees → Bool
all_but is test n no_trees = true
all_but is test n (tree c bs cs rest) = (is_among is c.identity || test n c bs cs (begins_with_text rest)) && all_but is test (suc n) bs && all_but is test (suc n) cs && all_but is test n rest

-- no text comes right after a text; a root has no neighbours
abbrev pub is_apart : NodeTest
is_apart n c bs cs is_followed = (n == 0) || not (is_text c.kind && is_followed)

-- a text with a parent is not empty
abbrev pub is_filled : NodeTest
is_filled n c bs cs is_followed = (n == 0) || not (is_empty_text c)

-- attributes have distinct names
abbrev pub is_named : NodeTest
is_named n c bs cs is_followed = has_distinct_names bs

-- text and lists are within the limits of a node
abbrev pub is_limited : NodeTest
is_limited n c bs cs is_followed = is_small c bs cs

-- the tree is within the limit of its height
abbrev pub is_within : NodeTest
is_within n c bs cs is_followed = nat_lt n most_height

-- trees of which each node but those of some identities is as an update leaves it
pub record IsStoredBut (is : List ℕ) (ts : Trees) : Type 0 where
  pub apart : all_but is is_apart 0 ts ≡ true
  pub filled : all_but is is_filled 0 ts ≡ true
  pub named : all_but is is_named 0 ts ≡ true
  pub limited : all_but is is_limited 0 ts ≡ true
  pub within : all_but is is_within 0 ts ≡ true

-- all nodes of the trees are of these identities
abbrev pub AllAmong : List ℕ → Trees → Type 0
AllAmong is no_trees = Unit {0}
AllAmong is (tree c bs cs rest) = (is_among is c.identity ≡ true) × AllAmong is bs × AllAmong is cs × AllAmong is rest

-- a list begins as another
abbrev pub Begins : List ℕ → List ℕ → Type 0
Begins is js = take (length is) js ≡ is
