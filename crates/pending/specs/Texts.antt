-- Adjacent texts become one, and empty ones go (XQuery 1.0, section 3.7.1.3; XQuery Update Facility 1.0, section 3.2.2).
use Rattle.std.specs.Prelude.{ℕ, Bool, true, ◌&&◌, ◌++◌, if◌then◌else◌, nat_le, length, []}
use Rattle.std.specs.Str.{bytes_eq}
use Rattle.data_model.specs.Trees.{Trees, no_trees, tree, Content, is_text}

-- a tree before others: a text takes in the text after it, and keeps its own identity
abbrev pub before_merged : Content → Trees → Trees → Trees → Trees
before_merged c bs cs no_trees = tree c bs cs no_trees
before_merged c bs cs (tree d ds es rest) = if is_text c.kind && is_text d.kind then tree (record c { text = c.text ++ d.text }) bs cs rest else tree c bs cs (tree d ds es rest)

-- among these trees, not below them
abbrev pub merged : Trees → Trees
merged no_trees = no_trees
merged (tree c bs cs rest) = before_merged c bs cs (merged rest)

abbrev pub is_empty_text : Content → Bool
is_empty_text c = is_text c.kind && bytes_eq c.text []

abbrev pub without_empty_texts : Trees → Trees
without_empty_texts no_trees = no_trees
without_empty_texts (tree c bs cs rest) = if is_empty_text c then without_empty_texts rest else tree c bs cs (without_empty_texts rest)

-- no text among these trees is longer
abbrev pub texts_within : (most : ℕ) → Trees → Bool
texts_within most no_trees = true
texts_within most (tree c bs cs rest) = nat_le (length c.text) most && texts_within most rest
