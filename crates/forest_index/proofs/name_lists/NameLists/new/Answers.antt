use Rattle.std.proofs.Common.{ap, List, String, Global, Vec, ℕ, string_bytes}
use Rattle.std.specs.Map.{lookup}
use Rattle.std.specs.Str.{bytes_eq}
use Rattle.forest_index.specs.Named.{items_of, list_in}
use Rattle.forest_index.proofs.name_lists.NameLists.new.Goals as goal

pub returns : goal.returns
unfolding list_in
returns c = λ n. ap (λ (es : List (String Global × Vec ℕ Global)). items_of (lookup (λ k. bytes_eq n (string_bytes k)) es)) c.new.ensures.empty
