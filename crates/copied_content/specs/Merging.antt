-- Adjacent texts that are merged from the left.
use Rattle.std.specs.Prelude.{Bool, true, not, ◌&&◌, ◌||◌, [], ◌++◌, length, nat_le, if◌then◌else◌, Result, Ok, Err}
use Rattle.std.specs.Str.{bytes_eq}
use Rattle.data_model.specs.Tree.{TreeTerm, trees_of_tree}
use Rattle.data_model.specs.Trees.{Trees, Content, no_trees, tree, is_text}
use Rattle.pending.specs.Texts.{texts_within}
use Rattle.fault_codes.specs.declared.code.Code.{Code}
use Rattle.fault_codes.specs.declared.code.Code.TheVariants.{PXQ0002}
use Rattle.data_model.specs.Limits.{most_bytes}

-- a tree after others: the last of them takes in its text, if both are texts
abbrev pub and_merged : Trees → TreeTerm → Trees
and_merged no_trees t = trees_of_tree t
and_merged (tree c bs cs no_trees) t =
    if is_text c.kind && is_text t.content.kind then tree (record c { text = c.text ++ t.content.text }) bs cs no_trees else tree c bs cs (trees_of_tree t)
and_merged (tree c bs cs (tree d ds es rest)) t = tree c bs cs (and_merged (tree d ds es rest) t)

-- trees whose texts are not too long
abbrev pub within_bytes : Trees → Result Trees Code
within_bytes ts = if texts_within most_bytes ts then Ok ts else Err PXQ0002

-- a node that is no text, or one that is not empty and comes after no text, neither of them with a text that is too long
abbrev pub is_apart : (after_text : Bool) → Content → Bool
is_apart after_text c = nat_le (length c.text) most_bytes && not (is_text c.kind && (after_text || bytes_eq c.text []))

-- trees of which all are such, the first of them after a text or not
abbrev pub are_apart : (after_text : Bool) → Trees → Bool
are_apart after_text no_trees = true
are_apart after_text (tree c bs cs rest) = is_apart after_text c && are_apart (is_text c.kind) rest
