-- What the constructor expression of a tree makes, and what it takes for that.
use Rattle.std.specs.Prelude.{◌≡◌, ℕ, ◌+◌, ◌/◌, ◌≤◌, Bool, true, ◌&&◌, if◌then◌else◌, [], ◌∷◌, length, None}
use Rattle.data_model.specs.Changes.{pick}
use Rattle.data_model.specs.Trees.{Trees, no_trees, tree, Content, Place, append, bytes_in, is_inner, parent_of, roots}
use Rattle.trees.specs.Forest.{ForestTerm}
use Rattle.values.specs.declared.atom.Item.TheVariants as item
use Rattle.values.specs.Work.{text_work}
use Rattle.query_meaning.specs.Content.{has_room}
use Rattle.query_meaning.specs.Meaning.{Outcome}

-- what trees say but for identities
abbrev pub anonymous : Trees → Trees
anonymous no_trees = no_trees
anonymous (tree c bs cs rest) = tree (record c { identity = 0 }) (anonymous bs) (anonymous cs) (anonymous rest)

-- The sum of the nodes' depths, where the roots have the depth n. A constructor copies its content (XQuery 1.0, section 3.7.1.3), so a node is made once, and
-- copied once for each node above it.
abbrev pub depths : ℕ → Trees → ℕ
depths n no_trees = 0
depths n (tree c bs cs rest) = n + depths (n + 1) bs + depths (n + 1) cs + depths n rest

-- the work of copying trees, each by itself
abbrev pub copy_work : Trees → ℕ
copy_work no_trees = 0
copy_work (tree c bs cs rest) = bytes_in (tree c bs cs no_trees) / 16 + copy_work rest

-- the work of a comma: one unit, and one for each of its parts; a part by itself has no comma
abbrev pub comma_work : (parts : Trees) → ℕ
comma_work (tree c bs cs no_trees) = 0
comma_work parts = 1 + length (roots parts)

-- The work of a node's content, but for that of making its parts: they are put together, and each is copied. Where a node has a text instead, that takes two
-- units, as it is an expression that gives one item, and its typed value is taken.
abbrev pub content_work : Content → (parts : Trees) → ℕ
content_work c parts = if is_inner c.kind then comma_work parts + copy_work parts else 2 + text_work c.text

-- The work that making trees takes (our own measure): two units for each node, as it is an expression that gives one item, and its content's. So an attribute or
-- a text of fewer than 16 bytes takes 4 units, an empty element 3, an element with such a text in it 6, and with such an attribute and a text 13.
abbrev pub work_of : Trees → ℕ
work_of no_trees = 0
work_of (tree c bs cs rest) = 2 + content_work c (append bs cs) + work_of bs + work_of cs + work_of rest

-- no node has too many attributes and children, and none stands too high (our own limits)
abbrev pub have_room : Trees → Bool
have_room no_trees = true
have_room (tree c bs cs rest) = has_room (append bs cs) && have_room bs && have_room cs && have_room rest

-- a node's tree
abbrev pub tree_at : Place → Trees
tree_at x = tree x.content x.attributes x.children no_trees

-- An evaluation over a lent forest came to one item: a new node without a parent, whose tree is t but for identities. It updates nothing, and takes as many
-- identities as the depths of t's nodes add up to.
pub record IsMade (t : Trees) (lent : ForestTerm) (o : Outcome) : Type 0 where
  pub root : ℕ
  pub items : o.items ≡ item.Node root ∷ []
  pub primitives : o.primitives ≡ []
  pub next : o.next ≡ lent.next + depths 1 t
  pub new : lent.next ≤ root
  pub parentless : parent_of root (append lent.trees o.trees) ≡ None
  pub alike : anonymous (pick root (append lent.trees o.trees)) ≡ anonymous t
