-- The pieces of a node's text, in the order in which they are written.
use Rattle.std.specs.Prelude.{ℕ, Bool, true, cond, List, [], ◌∷◌, ◌++◌, codes}
use Rattle.data_model.specs.declared.node.Kind.{Kind}
use Rattle.data_model.specs.declared.node.Kind.TheVariants.{Document, Element, Attribute, Text, Comment, Instruction}

-- what a constructor begins with
abbrev pub opening : Kind → (name : List ℕ) → List ℕ
opening Document name = codes "document {"
opening Element name = codes "element " ++ name ++ codes " {"
opening Attribute name = codes "attribute " ++ name ++ codes " {"
opening Text name = codes "text {"
opening Comment name = codes "comment {"
opening Instruction name = codes "processing-instruction " ++ name ++ codes " {"

-- the texts, with a comma and a space before each that comes after another
abbrev pub following : Bool → List (List ℕ) → List ℕ
following b [] = []
following b (t ∷ ts) = cond b (codes ", ") [] ++ t ++ following true ts

-- what stands for a document's content where it has none
abbrev pub nothing : Kind → Bool → List ℕ
nothing Document b = cond b (codes "()") []
nothing Element b = []
nothing Attribute b = []
nothing Text b = []
nothing Comment b = []
nothing Instruction b = []
