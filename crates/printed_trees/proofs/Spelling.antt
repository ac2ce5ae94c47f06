-- The tokens of the printed text of an item.
use Rattle.std.proofs.Common.{◌≡◌, ℕ, ℤ, pos, negsuc, suc, Bool, true, false, cond, List, [], ◌∷◌, ◌++◌, refl, codes, if◌then◌else◌}
use Rattle.std.specs.List.{list_all}
use Rattle.std.specs.Str.{bytes_eq}
use Rattle.std.proofs.lemmas.Bool.{and_parts}
use Rattle.data_model.specs.Trees.{Trees, no_trees, tree, Content}
use Rattle.data_model.specs.declared.node.Kind.{Kind as NodeKind}
use Rattle.data_model.specs.declared.node.Kind.TheVariants.{Document, Element, Attribute, Text, Comment, Instruction}
use Rattle.values.specs.declared.atom.Atom.{Atom}
use Rattle.values.specs.declared.atom.Atom.TheVariants as a
use Rattle.query_tokens.specs.Lexing.{mark_token}
use Rattle.query_tokens.specs.Words.{kind_of, kind_in, words, is_name_kind}
use Rattle.query_tokens.specs.declared.kind.Kind.{Kind}
use Rattle.query_tokens.specs.declared.kind.Kind.TheVariants as k
use Rattle.query_tokens.specs.declared.token.Token.{Token}

abbrev pub word : List ℕ → Token
word name = record { kind = kind_of name; text = name; number = 0 }

abbrev pub string : List ℕ → Token
string text = record { kind = k.String; text = text; number = 0 }

abbrev pub number : ℕ → Token
number n = record { kind = k.Number; text = []; number = n }

abbrev pub braced : List Token → List Token
braced content = mark_token k.OpenBrace ∷ content ++ mark_token k.CloseBrace ∷ []

abbrev pub parens : List Token
parens = mark_token k.OpenParen ∷ mark_token k.CloseParen ∷ []

-- each after a comma
abbrev pub others_listed : List (List Token) → List Token
others_listed [] = []
others_listed (t ∷ ts) = mark_token k.Comma ∷ t ++ others_listed ts

abbrev pub listed : List (List Token) → List Token
listed [] = []
listed (t ∷ ts) = t ++ others_listed ts

abbrev pub document_content : List (List Token) → List Token
document_content [] = parens
document_content (t ∷ ts) = listed (t ∷ ts)

abbrev pub constructor : NodeKind → (name : List ℕ) → (text : List ℕ) → (parts : List (List Token)) → List Token
constructor Document name text parts = word (codes "document") ∷ braced (document_content parts)
constructor Element name text parts = word (codes "element") ∷ word name ∷ braced (listed parts)
constructor Attribute name text parts = word (codes "attribute") ∷ word name ∷ braced (string text ∷ [])
constructor Text name text parts = word (codes "text") ∷ braced (string text ∷ [])
constructor Comment name text parts = word (codes "comment") ∷ braced (string text ∷ [])
constructor Instruction name text parts = word (codes "processing-instruction") ∷ word name ∷ braced (string text ∷ [])

abbrev pub node_spelling : Content → List (List Token) → List Token
node_spelling c parts = constructor c.kind c.name c.text parts

abbrev pub tree_spellings : Trees → List (List Token)
tree_spellings no_trees = []
tree_spellings (tree c bs cs rest) = node_spelling c (tree_spellings bs ++ tree_spellings cs) ∷ tree_spellings rest

abbrev pub integer_spelling : ℤ → List Token
integer_spelling (pos n) = number n ∷ []
integer_spelling (negsuc n) = mark_token k.Minus ∷ number (suc n) ∷ []

abbrev pub atom_spelling : Atom → List Token
atom_spelling (a.String text) = string text ∷ []
atom_spelling (a.Untyped text) = string text ∷ []
atom_spelling (a.Boolean b) = word (if b then codes "true" else codes "false") ∷ parens
atom_spelling (a.Integer z) = integer_spelling z

-- What holds of the kind of each word and of other names holds of the kind of any name.
kind_passes : (p : Kind → Bool) (name : List ℕ) (ws : List (List ℕ × Kind)) → p k.Name ≡ true → list_all (λ w. p w.1) ws ≡ true → p (kind_in ws name) ≡ true
kind_passes p name [] h all = h
kind_passes p name (w ∷ ws) h all = one (bytes_eq w.0 name) (kind_passes p name ws h (and_parts (p w.1) (list_all (λ w. p w.1) ws) all).1)
  where
    one : (t : Bool) → p (kind_in ws name) ≡ true → p (cond t w.1 (kind_in ws name)) ≡ true
    one true e = (and_parts (p w.1) (list_all (λ w. p w.1) ws) all).0
    one false e = e

pub any_name : (p : Kind → Bool) (name : List ℕ) → p k.Name ≡ true → list_all (λ w. p w.1) words ≡ true → p (kind_of name) ≡ true
unfolding kind_of
any_name p name = kind_passes p name words

pub is_name : (name : List ℕ) → is_name_kind (kind_of name) ≡ true
is_name name = any_name is_name_kind name refl refl

-- the words of constructors
pub document_word : kind_of (codes "document") ≡ k.Document
unfolding kind_of
document_word = refl

pub element_word : kind_of (codes "element") ≡ k.Element
unfolding kind_of
element_word = refl

pub attribute_word : kind_of (codes "attribute") ≡ k.Attribute
unfolding kind_of
attribute_word = refl

pub text_word : kind_of (codes "text") ≡ k.Text
unfolding kind_of
text_word = refl

pub comment_word : kind_of (codes "comment") ≡ k.Comment
unfolding kind_of
comment_word = refl

pub instruction_word : kind_of (codes "processing-instruction") ≡ k.ProcessingInstruction
unfolding kind_of
instruction_word = refl

-- those of the truth values are names like others
pub true_word : kind_of (codes "true") ≡ k.Name
unfolding kind_of
true_word = refl

pub false_word : kind_of (codes "false") ≡ k.Name
unfolding kind_of
false_word = refl
