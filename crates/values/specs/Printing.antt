-- The printed text of an item: an expression that makes it again (XQuery 1.0, sections 3.1.1 and 3.7.3).
use Rattle.std.specs.Prelude.{ℕ, ◌==◌, if◌then◌else◌, List, [], ◌∷◌, ◌++◌, Option, Some, None, codes}
use Rattle.std.specs.List.{flat_map}
use Rattle.std.specs.Fmt.{signed_decimal}
use Rattle.data_model.specs.Trees.{Trees, no_trees, tree, Content, Place, find}
use Rattle.data_model.specs.declared.node.Kind.{Kind}
use Rattle.data_model.specs.declared.node.Kind.TheVariants.{Document, Element, Attribute, Text, Comment, Instruction}
use Rattle.values.specs.declared.atom.Atom.{Atom}
use Rattle.values.specs.declared.atom.Atom.TheVariants as a
use Rattle.values.specs.declared.atom.Item.{Item}
use Rattle.values.specs.declared.atom.Item.TheVariants as item

-- a byte between two `"`: `"` is doubled, and what a text may not hold or would lose is a reference
abbrev pub escaped : ℕ → List ℕ
escaped b =
    if b == 34 then 34 ∷ 34 ∷ []
    else if b == 38 then codes "&amp;"
    else if b == 9 then codes "&#9;"
    else if b == 10 then codes "&#10;"
    else if b == 13 then codes "&#13;"
    else b ∷ []

-- the string literal of a text
abbrev pub literal : List ℕ → List ℕ
literal text = 34 ∷ flat_map escaped text ++ 34 ∷ []

-- the texts, with a comma and a space between two of them
abbrev pub listed : List (List ℕ) → List ℕ
listed [] = []
listed (t ∷ []) = t
listed (t ∷ u ∷ ts) = t ++ codes ", " ++ listed (u ∷ ts)

-- a document's content, which may not be left out
abbrev pub document_content : List (List ℕ) → List ℕ
document_content [] = codes "()"
document_content (t ∷ ts) = listed (t ∷ ts)

-- the computed constructor of a node of that kind, name and text, with those parts
abbrev pub constructor : Kind → (name : List ℕ) → (text : List ℕ) → (parts : List (List ℕ)) → List ℕ
constructor Document name text parts = codes "document {" ++ document_content parts ++ codes "}"
constructor Element name text parts = codes "element " ++ name ++ codes " {" ++ listed parts ++ codes "}"
constructor Attribute name text parts = codes "attribute " ++ name ++ codes " {" ++ literal text ++ codes "}"
constructor Text name text parts = codes "text {" ++ literal text ++ codes "}"
constructor Comment name text parts = codes "comment {" ++ literal text ++ codes "}"
constructor Instruction name text parts = codes "processing-instruction " ++ name ++ codes " {" ++ literal text ++ codes "}"

abbrev pub node_text : Content → List (List ℕ) → List ℕ
node_text c parts = constructor c.kind c.name c.text parts

-- the texts of trees, one each; a node's parts are its attributes, then its children
abbrev pub tree_texts : Trees → List (List ℕ)
tree_texts no_trees = []
tree_texts (tree c bs cs rest) = node_text c (tree_texts bs ++ tree_texts cs) ∷ tree_texts rest

abbrev pub place_text : Option Place → List ℕ
place_text None = []
place_text (Some x) = node_text x.content (tree_texts x.attributes ++ tree_texts x.children)

-- the text of an atomic value; an untyped one is printed as a string
abbrev pub atom_text : Atom → List ℕ
atom_text (a.String text) = literal text
atom_text (a.Untyped text) = literal text
atom_text (a.Boolean b) = if b then codes "true()" else codes "false()"
atom_text (a.Integer z) = signed_decimal z

-- the text of an item
abbrev pub item_text : Trees → Item → List ℕ
item_text ts (item.Node i) = place_text (find i ts)
item_text ts (item.Atomic x) = atom_text x
