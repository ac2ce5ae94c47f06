-- The configuration of a node that a TOML text is: its entries, and no others.
use Rattle.std.specs.Prelude.{ℕ, ℤ, pos, negsuc, Bool, true, false, ◌&&◌, ◌||◌, nat_le, if◌then◌else◌, List, [], ◌∷◌, length, codes, Option, Some, None, ◌≡◌}
use Rattle.std.specs.Option.{option_and_then, option_map, option_map_or}
use Rattle.std.specs.Str.{bytes_eq}
use Rattle.document_names.specs.Names.{are_document_names}
use Rattle.ballots.specs.Ballot.{most_members}
use Rattle.toml.specs.Data.{Data, as_array, as_bool, as_integer, as_str, get, table, Items, no_items, item, Members, no_members, member}
use Rattle.toml.specs.Parse.{parse_document}

infixl 10 ◌>>=◌
abbrev pub ◌>>=◌ : {A B : Type 0} → Option A → (A → Option B) → Option B
o >>= f = option_and_then f o

-- what a node is told when it starts
pub record ConfigTerm : Type 0 where
  pub group : ℕ
  pub place : ℕ
  pub addresses : List (List ℕ)
  pub docs : List (List ℕ)
  pub records : Option (List ℕ)
  pub begin : Bool

-- the integer, where it is not negative
abbrev pub natural : ℤ → Option ℕ
natural (pos n) = Some n
natural (negsuc n) = None

-- an integer in these bounds, both included
abbrev pub number_in : ℕ → ℕ → Data → Option ℕ
number_in low high value = do
  number ← as_integer value >>= natural
  if nat_le low number && nat_le number high then Some number else None

-- the items as texts, where each of them is one
abbrev pub texts_of : Items → Option (List (List ℕ))
texts_of no_items = Some []
texts_of (item value values) = as_str value >>= (λ text. option_map (λ texts. text ∷ texts) (texts_of values))

-- the keys that a configuration may have
abbrev pub is_entry : List ℕ → Bool
is_entry key = bytes_eq key (codes "group") || bytes_eq key (codes "member") || bytes_eq key (codes "members")
    || bytes_eq key (codes "docs") || bytes_eq key (codes "records") || bytes_eq key (codes "begin")

-- each key is one of them
abbrev pub has_entries_alone : Members → Bool
has_entries_alone no_members = true
has_entries_alone (member key value entries) = is_entry key && has_entries_alone entries

-- `group`: the group's number, below 2^32
abbrev pub group_of : Data → Option ℕ
group_of document = get (codes "group") document >>= number_in 0 4294967295

-- `member`: the member's number, from 1 to the number of members
abbrev pub place_of : ℕ → Data → Option ℕ
place_of count document = get (codes "member") document >>= number_in 1 count

-- an array whose items are texts
abbrev pub list_of : Data → Option (List (List ℕ))
list_of value = as_array value >>= texts_of

-- the list, where it has an item for each of 1 to 63 members
abbrev pub for_members : List (List ℕ) → Option (List (List ℕ))
for_members texts = if nat_le 1 (length texts) && nat_le (length texts) most_members then Some texts else None

-- `members`: 1 to 63 addresses, in member order
abbrev pub addresses_of : Data → Option (List (List ℕ))
addresses_of document = get (codes "members") document >>= list_of >>= for_members

-- the list, where it is one of document names
abbrev pub as_names : List (List ℕ) → Option (List (List ℕ))
as_names texts = if are_document_names texts then Some texts else None

-- `docs`: the names of the documents
abbrev pub docs_of : Data → Option (List (List ℕ))
docs_of document = get (codes "docs") document >>= list_of >>= as_names

-- `records`: the records' file, or none for records in memory
abbrev pub records_of : Data → Option (Option (List ℕ))
records_of document = option_map_or (λ value. option_map Some (as_str value)) (get (codes "records") document) (Some None)

-- `begin`: whether the node begins when it starts
abbrev pub begin_of : Data → Option Bool
begin_of document = option_map_or as_bool (get (codes "begin") document) (Some false)

-- the configuration that these entries give, each of them good
abbrev pub entries_of : Data → Option ConfigTerm
entries_of document = do
  group ← group_of document
  addresses ← addresses_of document
  place ← place_of (length addresses) document
  docs ← docs_of document
  records ← records_of document
  begin ← begin_of document
  Some (record { group = group; place = place; addresses = addresses; docs = docs; records = records; begin = begin })

-- the configuration that a table is
abbrev pub configured : Members → Option ConfigTerm
configured entries = if has_entries_alone entries then entries_of (table entries) else None

-- the configuration that a text is
abbrev pub configuration_of : List ℕ → Option ConfigTerm
configuration_of text = parse_document text >>= configured

-- the text is a TOML document that is that configuration
abbrev pub IsConfiguration : List ℕ → ConfigTerm → Type 0
IsConfiguration text config = configuration_of text ≡ Some config
