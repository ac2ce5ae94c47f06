-- Computed constructors (XQuery 1.0, section 3.7.3): first the name, then the content is evaluated; then the node takes its identity.
use Rattle.std.specs.Prelude.{ℕ, not, ◌||◌, if◌then◌else◌, List, [], ◌∷◌, codes, Option, Result, Ok, Err}
use Rattle.std.specs.Str.{bytes_eq, str_to_ascii_lowercase}
use Rattle.document_names.specs.Characters.{is_name}
use Rattle.data_model.specs.Tidy.{holds_text, ends_in_hyphen}
use Rattle.data_model.specs.Trees.{Trees, no_trees, tree, leaf}
use Rattle.data_model.specs.declared.node.Kind.{Kind}
use Rattle.data_model.specs.declared.node.Kind.TheVariants as kind
use Rattle.fault_codes.specs.declared.code.Code.{Code}
use Rattle.fault_codes.specs.declared.code.Code.TheVariants.{XQDY0026, XQDY0041, XQDY0064, XQDY0072, XQDY0074}
use Rattle.values.specs.declared.atom.Atom.{Atom}
use Rattle.values.specs.declared.atom.Item.{Item}
use Rattle.values.specs.declared.atom.Item.TheVariants as item
use Rattle.values.specs.Readings.{after_spaces}
use Rattle.query_grammar.specs.declared.ast.Name.{Name}
use Rattle.query_grammar.specs.declared.ast.Name.TheVariants.{Written, Computed}
use Rattle.query_meaning.specs.Running.{M, pure, ◌>>=◌, come_to, atoms, new_nodes, standing}
use Rattle.query_meaning.specs.Environment.{Environment}
use Rattle.query_meaning.specs.Sequences.{Meaning}
use Rattle.query_meaning.specs.Strings.{spaced, one_text}
use Rattle.query_meaning.specs.Content.{content, without_adjacent_texts, attributes, others, element_fault, document_fault, unless_fault}

-- a name for a node of that kind; `xml`, in any case, names no processing instruction, also where it is written
abbrev pub instruction_name : List ℕ → Result (List ℕ) Code
instruction_name name =
    if not (is_name name) then Err XQDY0041
    else if bytes_eq (str_to_ascii_lowercase name) (codes "xml") then Err XQDY0064
    else Ok name

abbrev pub name_for : Kind → List ℕ → Result (List ℕ) Code
name_for kind.Instruction name = instruction_name name
name_for _ name = if is_name name then Ok name else Err XQDY0074

-- the name that an expression gives: one string or untyped value
abbrev pub named : Kind → Meaning → Environment → M (List ℕ)
named k m env = do
  items ← m env
  values ← atoms items
  name ← come_to (one_text values)
  come_to (name_for k name)

abbrev pub name_of : Kind → Name Meaning → Environment → M (List ℕ)
name_of k (Written name) env = come_to (name_for k name)
name_of k (Computed m) env = named k m env

-- the new tree, which its root stands for
abbrev pub rooted : ℕ → Trees → M (List Item)
rooted i t = do
  _ ← standing t
  pure (item.Node i ∷ [])

-- a node with parts
abbrev pub assembled : Kind → (name : List ℕ) → (Trees → Option Code) → List Item → M (List Item)
assembled k name has_fault items = do
  i ← new_nodes 1
  us ← content items
  parts ← come_to (without_adjacent_texts us)
  t ← come_to (unless_fault (has_fault parts) (tree (record { identity = i; kind = k; name = name; text = [] }) (attributes parts) (others parts) no_trees))
  rooted i t

-- `element n {..}` (section 3.7.3.1)
abbrev pub element : Name Meaning → Meaning → Meaning
element n m = λ env. do
  name ← name_of kind.Element n env
  items ← m env
  assembled kind.Element name element_fault items

-- `document {..}` (section 3.7.3.3)
abbrev pub document : Meaning → Meaning
document m = λ env. m env >>= assembled kind.Document [] document_fault

-- a node with a text
abbrev pub with_text : Kind → (name : List ℕ) → (text : List ℕ) → M (List Item)
with_text k name text = do
  i ← new_nodes 1
  rooted i (leaf (record { identity = i; kind = k; name = name; text = text }))

-- the typed values of what is evaluated, joined by single spaces
abbrev pub text_of : Meaning → Environment → M (List ℕ)
text_of m env = do
  items ← m env
  values ← atoms items
  come_to (spaced values)

-- `attribute n {..}` (section 3.7.3.2)
abbrev pub attribute : Name Meaning → Meaning → Meaning
attribute n m = λ env. do
  name ← name_of kind.Attribute n env
  text ← text_of m env
  with_text kind.Attribute name text

-- `text {..}` (section 3.7.3.4): no node of nothing
abbrev pub text_of_values : List Atom → M (List Item)
text_of_values [] = pure []
text_of_values (a ∷ more) = come_to (spaced (a ∷ more)) >>= with_text kind.Text []

abbrev pub text : Meaning → Meaning
text m = λ env. do
  items ← m env
  values ← atoms items
  text_of_values values

-- `comment {..}` (section 3.7.3.6)
abbrev pub comment_text : List ℕ → Result (List ℕ) Code
comment_text text = if holds_text (codes "--") text || ends_in_hyphen text then Err XQDY0072 else Ok text

abbrev pub comment : Meaning → Meaning
comment m = λ env. do
  given ← text_of m env
  text ← come_to (comment_text given)
  with_text kind.Comment [] text

-- `processing-instruction n {..}` (section 3.7.3.5): without the spaces that it begins with
abbrev pub instruction_text : List ℕ → Result (List ℕ) Code
instruction_text text = if holds_text (codes "?>") text then Err XQDY0026 else Ok (after_spaces text)

abbrev pub instruction : Name Meaning → Meaning → Meaning
instruction n m = λ env. do
  name ← name_of kind.Instruction n env
  given ← text_of m env
  text ← come_to (instruction_text given)
  with_text kind.Instruction name text
