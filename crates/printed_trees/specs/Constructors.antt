-- The expression that makes an item again: the computed constructors of its nodes (XQuery 1.0, section 3.7.3), and literals (section 3.1.1).
use Rattle.std.specs.Prelude.{◌≡◌, ℕ, suc, ◌≤◌, ℤ, pos, negsuc, unsigned_abs, Bool, true, ◌&&◌, if◌then◌else◌, List, [], ◌∷◌, ◌++◌, length, Option, Some, None, IsUtf8}
use Rattle.std.specs.List.{All}
use Rattle.std.specs.Str.{bytes_eq}
use Rattle.data_model.specs.Tidy.{is_tidy_content, is_xml_text, are_tidy, may_be_attribute, may_be_child, has_distinct_names}
use Rattle.data_model.specs.Trees.{Trees, no_trees, tree, Content, Place, find, listing, height}
use Rattle.data_model.specs.declared.node.Kind.{Kind}
use Rattle.data_model.specs.declared.node.Kind.TheVariants.{Document, Element, Attribute, Text, Comment, Instruction}
use Rattle.values.specs.declared.atom.Atom.{Atom}
use Rattle.values.specs.declared.atom.Atom.TheVariants as a
use Rattle.values.specs.declared.atom.Item.{Item}
use Rattle.values.specs.declared.atom.Item.TheVariants as item
use Rattle.data_model.specs.Limits.{most_bytes}
use Rattle.query_tokens.specs.Limits.{max_integer}
use Rattle.static_checks.specs.Brackets.{most_open}
use Rattle.query_grammar.specs.Grammar.{of_list}
use Rattle.query_grammar.specs.declared.ast.Expr.{Expr}
use Rattle.query_grammar.specs.declared.ast.Expr.TheVariants as e
use Rattle.query_grammar.specs.declared.functions.Function.TheVariants as function
use Rattle.query_grammar.specs.declared.ast.Name.TheVariants.{Written}
use Rattle.query_grammar.specs.declared.ast.Sign.TheVariants.{Minus}

-- the computed constructor of a node of that kind, name and text, with those parts
abbrev pub constructor_of : Kind → (name : List ℕ) → (text : List ℕ) → (parts : List Expr) → Expr
constructor_of Document name text parts = e.Document (of_list parts)
constructor_of Element name text parts = e.Element (Written name) (of_list parts)
constructor_of Attribute name text parts = e.Attribute (Written name) (e.String text)
constructor_of Text name text parts = e.Text (e.String text)
constructor_of Comment name text parts = e.Comment (e.String text)
constructor_of Instruction name text parts = e.Instruction (Written name) (e.String text)

abbrev pub node_expression : Content → List Expr → Expr
node_expression c parts = constructor_of c.kind c.name c.text parts

-- the expressions of trees, one each; a node's parts are its attributes, then its children
abbrev pub tree_expressions : Trees → List Expr
tree_expressions no_trees = []
tree_expressions (tree c bs cs rest) = node_expression c (tree_expressions bs ++ tree_expressions cs) ∷ tree_expressions rest

-- without a node there is nothing
abbrev pub place_expression : Option Place → Expr
place_expression None = of_list []
place_expression (Some x) = node_expression x.content (tree_expressions x.attributes ++ tree_expressions x.children)

-- an integer; a sign stands before a negative one
abbrev pub integer_expression : ℤ → Expr
integer_expression (pos n) = e.Integer n
integer_expression (negsuc n) = e.Signed (Minus ∷ []) (e.Integer (suc n))

-- an atomic value; an untyped one becomes a string
abbrev pub atom_expression : Atom → Expr
atom_expression (a.String text) = e.String text
atom_expression (a.Untyped text) = e.String text
atom_expression (a.Boolean b) = e.Call (Some (if b then function.True else function.False)) []
atom_expression (a.Integer z) = integer_expression z

-- the expression of an item
abbrev pub item_expression : Trees → Item → Expr
item_expression ts (item.Node i) = place_expression (find i ts)
item_expression ts (item.Atomic x) = atom_expression x

-- What a text has to be for its literal to be read: UTF-8, of as many bytes at most as a string has.
pub record IsPrintable (text : List ℕ) : Type 0 where
  pub utf8 : IsUtf8 text
  pub short : length text ≤ most_bytes

-- the name and the text of a tree's root fit its kind, as those of any node; but a text that has no parent may be empty
abbrev pub is_tidy_root : Kind → List ℕ → List ℕ → Bool
is_tidy_root Text name text = bytes_eq name [] && is_xml_text text
is_tidy_root kind name text = is_tidy_content kind name text

-- A tree that can be printed, by its root's content, attributes and children: it is tidy, literals can have its texts, and it nests no deeper
-- than brackets may. Nothing is said of what stands around it.
pub record IsPrintableTree (c : Content) (bs cs : Trees) : Type 0 where
  pub tidy : (is_tidy_root c.kind c.name c.text && has_distinct_names bs && are_tidy (may_be_attribute c.kind) bs && are_tidy (may_be_child c.kind) cs) ≡ true
  pub text : IsPrintable c.text
  pub texts : All (λ d. IsPrintable d.text) (listing bs ++ listing cs)
  pub depth : height (tree c bs cs no_trees) ≤ most_open

-- The text of a string has characters of XML 1.0 alone, and an integer is within the limit of literals, whatever its sign: so the least of
-- 64 bits is out, whose digits spell a number past that limit.
abbrev pub IsPrintableAtom : Atom → Type 0
IsPrintableAtom (a.String text) = IsPrintable text × (is_xml_text text ≡ true)
IsPrintableAtom (a.Untyped text) = IsPrintable text × (is_xml_text text ≡ true)
IsPrintableAtom (a.Boolean b) = Unit {0}
IsPrintableAtom (a.Integer z) = unsigned_abs z ≤ max_integer

-- a node that stands in the trees, whose own tree can be printed, or such an atomic value
abbrev pub IsPrintableItem : Trees → Item → Type 0
IsPrintableItem ts (item.Node i) = (x : Place) × (find i ts ≡ Some x) × IsPrintableTree x.content x.attributes x.children
IsPrintableItem ts (item.Atomic x) = IsPrintableAtom x
