-- What one look-up reads of a node.
use Rattle.std.specs.Prelude.{◌≡◌, Option, Some, None}
use Rattle.data_model.specs.Trees.{Place, roots}
use Rattle.data_model.specs.declared.node.NodeView.{NodeView}

-- the view says of the node what its place in the trees says
pub record IsViewOf (v : NodeView) (x : Place) : Type 0 where
  pub kind : v.kind ≡ x.content.kind
  pub name : v.name.now ≡ x.content.name
  pub text : v.text.now ≡ x.content.text
  pub parent : v.parent ≡ x.parent
  pub attributes : v.attributes.now ≡ roots x.attributes
  pub children : v.children.now ≡ roots x.children

-- a view of a node where there is one, and none elsewhere
abbrev pub Views : Option NodeView → Option Place → Type 0
Views None None = Unit {0}
Views None (Some x) = ⊥
Views (Some v) None = ⊥
Views (Some v) (Some x) = IsViewOf v x
