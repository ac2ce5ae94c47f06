-- The fields of a draft, and its trees.
use Rattle.std.proofs.Common.{◌≡◌, ◌≢◌, ℕ, ◌-◌, IfSome, ◌+◌, ◌≤◌, ◌<◌, ◌^◌, ap, sym, ◌∙◌, arith, Option, Some, IsSome, is_some, option_map, subst, length}
use Rattle.row_pages.specs.Rows.{Term, get}
use Rattle.data_model.specs.Trees.{Trees, Content, append, find, count, size}
use Rattle.data_model.specs.Changes.{with_content, with_part, part_of}
use Rattle.data_model.specs.Walks.{root_of}
use Rattle.data_model.specs.declared.node.Part.{Part}
use Rattle.data_model.specs.declared.node.Part.TheVariants.{Attributes, Children}
use Rattle.data_model.proofs.Weights.{weigh-append}
use Rattle.node_table.specs.declared.table.Row.{Row}
use Rattle.node_table.specs.Flat.{Entry, Table, entry_in, IsTableOf, IsChangedAt, IsDocumentEntry, listed}
use Rattle.node_table.specs.Rows.{entry_of_row, row_of, table_of, trees_of}
use Rattle.node_table.specs.Labels.{place_of, place_in, lists_in, HasNumbers}
use Rattle.node_table.proofs.Plants.{size-within-identities}
use Rattle.node_table.proofs.Tables.{trees-of, find-table}
use Rattle.node_table.proofs.Entries.{some-of, is_some-entry, attributes-in, children-in}
use Rattle.node_table.proofs.Contents.{SaysSame, IsTableOf-content, weigh-with_content}
use Rattle.node_table.proofs.Numbers.{numbers-changed}
use Rattle.node_table.proofs.Rows.{rows-table, rows-places}
use Rattle.node_plans.specs.declared.plan.Plan.{Plan}
use Rattle.node_plans.specs.Planned.{planned, rows_with, table_with, places_with}
use Rattle.forest_index.specs.Named.{Covers}
use Rattle.forest_index.specs.Sized.{AreSizes, kept_sizes, size_with}
use Rattle.trees.specs.Inside.{term_of, AreStanding, IsSound}
use Rattle.trees.specs.Drafts.{DraftTerm}
use Rattle.trees.specs.Drafted.{forest_of, table_after, trees_after, draft_of, IsDrafted}
use Rattle.trees.specs.declared.draft.Drafted.{Drafted}
use Rattle.forest_index.proofs.Sized.{with-same, sizes-content, sizes-fit, sizes-spliced}
use Rattle.trees.proofs.Forests.{sound-rows, term-same, standing-changed, standing-kept}

-- ---- from the fields to the term
pub draft-is : (a : Drafted) (ts : Trees) → IsTableOf (table_after a) a.next ts → draft_of a ≡ record { before = term_of (forest_of a); after = ts; next = a.next }
draft-is a ts h = λ i. record { before = term_of (forest_of a); after = trees-of (table_after a) a.next ts h i; next = a.next }

pub drafted : (a : Drafted) (ts : Trees) → IsSound (forest_of a) → IsTableOf (table_after a) a.next ts → a.count ≡ size ts → HasNumbers (places_with a.plan a.rows) (table_after a) → a.next ≤ 2 ^ 62 → AreStanding (table_after a) a.documents.entries → AreSizes (size_with (kept_sizes a.index) a.resized) ts → IsDrafted a
drafted a ts before h n w b s q =
    let P : Trees → Type 0 = λ t. IsTableOf (table_after a) a.next t × (a.count ≡ size t) × AreSizes (size_with (kept_sizes a.index) a.resized) t in
    let z : P (trees_after a) = subst P (sym (trees-of (table_after a) a.next ts h)) (h, n, q) in
    record { before = before; table = z.0; counted = z.1; numbered = w; bound = b; standing = s; sized = z.2 }

-- ---- what a draft is
module _ (a : Drafted) (v : DraftTerm) (is : draft_of a ≡ v) (h : IsDrafted a) where
  pub now-table : IsTableOf (table_after a) a.next v.after
  now-table = let P : Trees → Type 0 = IsTableOf (table_after a) a.next in subst P (ap (λ (x : DraftTerm). x.after) is) h.table

  pub now-count : a.count ≡ size v.after
  now-count = h.counted ∙ ap (λ (x : DraftTerm). size x.after) is

  pub now-sizes : AreSizes (size_with (kept_sizes a.index) a.resized) v.after
  now-sizes = let P : Trees → Type 0 = AreSizes (size_with (kept_sizes a.index) a.resized) in subst P (ap (λ (x : DraftTerm). x.after) is) h.sized

  pub entry-is : (i : ℕ) → entry_in i v.after ≡ table_after a i
  entry-is i = find-table (table_after a) a.next v.after i now-table

  pub row-is : (i : ℕ) (o : Option Row) → o ≡ rows_with a.plan a.rows i → entry_in i v.after ≡ option_map entry_of_row o
  unfolding table_with
  row-is i o e = entry-is i ∙ ap (option_map entry_of_row) (sym e)

  pub table-there : (i : ℕ) → IsSome (find i v.after) → IsSome (table_after a i)
  table-there i there = ap is_some (sym (entry-is i)) ∙ is_some-entry (find i v.after) ∙ there

  pub before-is : term_of (forest_of a) ≡ v.before
  before-is = ap (λ (x : DraftTerm). x.before) is

  pub next-is : a.next ≡ v.next
  next-is = ap (λ (x : DraftTerm). x.next) is

  pub after-is : trees_after a ≡ v.after
  after-is = ap (λ (x : DraftTerm). x.after) is

  pub part-within : (part : Part) (i to : ℕ) → to ≤ length (part_of part i v.after) → (e : Entry) → table_after a i ≡ Some e → to ≤ length (listed part e)
  part-within Attributes i to l e at = let same = attributes-in i v.after e (entry-is i ∙ at) in rw same at l
  part-within Children i to l e at = let same = children-in i v.after e (entry-is i ∙ at) in rw same at l

  pub trees-apart : (us : Trees) → ((i : ℕ) → count i (append v.after us) ≤ 1) → (i : ℕ) → count i (trees_after a) + count i us ≤ 1
  trees-apart us d i = (let sum : count i (append v.after us) ≡ count i v.after + count i us = weigh-append _ v.after us in let l = d i in let e = ap (count i) after-is in omega arith)

  pub trees-few : (us : Trees) → ((i : ℕ) → count i (append v.after us) ≤ 1) → ((i : ℕ) → 0 < count i us → i < v.next) → size us ≤ a.next
  trees-few us d below = size-within-identities a.next us (λ i. (let t = trees-apart us d i in omega arith)) (λ i l. (let b = below i l in let n = next-is in omega arith))

  -- sizes, where a list below the node i becomes another: `added` nodes come, and `removed` go
  module _ (p : Term ℕ) (same : (r : ℕ) → get p r ≡ get a.resized r) (part : Part) (i root : ℕ) (g : Trees → Trees) (root_is : root ≡ root_of i v.after) (has : IsSome (find i v.after)) (us : Trees) (apart : (j : ℕ) → count j (append v.after us) ≤ 1) (added removed : ℕ) (many : added ≡ size us)
      (total : size (with_part part i g (trees_after a)) + removed ≡ size (trees_after a) + size us) where
    root-after : root ≡ root_of i (trees_after a)
    root-after = root_is ∙ ap (root_of i) (sym after-is)

    stands : 0 < count i (trees_after a)
    stands = let there = table-there i has in let one = h.table.counted i in let z : count i (trees_after a) ≡ 1 = rw there at one in omega arith

    distinct : (j : ℕ) → count j (trees_after a) ≤ 1
    distinct j = let t = trees-apart us apart j in omega arith

    sizes-now : AreSizes (size_with (kept_sizes a.index) p) (trees_after a)
    sizes-now = λ r n e. h.sized r n (sym (with-same (kept_sizes a.index) a.resized p same r) ∙ e)

    whole : size (with_part part i g (trees_after a)) + removed ≡ size (trees_after a) + added
    whole = total ∙ ap (λ n. size (trees_after a) + n) (sym many)

    pub sizes-room : size us ≤ a.next → IfSome (size_with (kept_sizes a.index) p root) (λ n. (n + added < 2 ^ 64) × (removed ≤ n + added))
    sizes-room few =
        let P : ℕ → Type 0 = λ r. IfSome (size_with (kept_sizes a.index) p r) (λ n. (n + added < 2 ^ 64) × (removed ≤ n + added)) in
        subst P (sym root-after) (sizes-fit part i g (size_with (kept_sizes a.index) p) (size_with (kept_sizes a.index) p) (trees_after a) distinct stands added removed whole sizes-now a.next h.table.fits (omega (arith, many, few)) h.bound)

    pub sizes-after : (q : Term ℕ) → size_with (kept_sizes a.index) q root ≡ option_map (λ n. n + added - removed) (size_with (kept_sizes a.index) p root) → ((r : ℕ) → r ≢ root → size_with (kept_sizes a.index) q r ≡ size_with (kept_sizes a.index) p r)
        → AreSizes (size_with (kept_sizes a.index) q) (with_part part i g (trees_after a))
    sizes-after q here others =
        sizes-spliced part i g (size_with (kept_sizes a.index) p) (size_with (kept_sizes a.index) q) (trees_after a) distinct stands added removed whole sizes-now
        (let P : ℕ → Type 0 = λ r. size_with (kept_sizes a.index) q r ≡ option_map (λ n. n + added - removed) (size_with (kept_sizes a.index) p r) in subst P root-after here) (λ r ne. others r (λ e. ne (e ∙ root-after)))

  -- with another plan, in whose rows numbers rise
  module _ (q : Plan) (numbers : HasNumbers (places_with q a.rows) (table_with q a.rows)) where
    pub drafted-refused : (p : Term ℕ) → ((r : ℕ) → get p r ≡ get a.resized r) → table_with q a.rows ≡ table_after a → IsDrafted (record a { plan = q; resized = p }) × (draft_of (record a { plan = q; resized = p }) ≡ v)
    drafted-refused p same e =
        let b : Drafted = record a { plan = q; resized = p } in
        let P : Table → Type 0 = λ f. IsTableOf f a.next v.after in
        let whole : IsTableOf (table_after b) a.next v.after = subst P (sym e) now-table in
        (drafted b v.after h.before whole now-count numbers h.bound (rw e h.standing) (λ r n f. now-sizes r n (sym (with-same (kept_sizes a.index) a.resized p same r) ∙ f)), draft-is b v.after whole ∙ sym (draft-is a v.after now-table) ∙ is)

    pub drafted-replaced : (g : Trees → Trees) (k : ℕ) (p : Term ℕ) → IsTableOf (table_with q a.rows) a.next (g (trees_after a)) → k ≡ size (g (trees_after a)) → ((i : ℕ) → IsDocumentEntry (table_after a i) → IsDocumentEntry (table_with q a.rows i)) → AreSizes (size_with (kept_sizes a.index) p) (g (trees_after a))
        → IsDrafted (record a { plan = q; count = k; resized = p }) × (draft_of (record a { plan = q; count = k; resized = p }) ≡ record v { after = g v.after })
    drafted-replaced g k p whole counted documents sizes =
        let b : Drafted = record a { plan = q; count = k; resized = p } in (
          drafted b (g (trees_after a)) h.before whole counted numbers h.bound (standing-kept (table_after a) (table_with q a.rows) a.documents.entries documents h.standing) sizes,
          draft-is b (g (trees_after a)) whole ∙ ap (λ (t : DraftTerm). record t { after = g t.after }) is,
        )

  -- with another plan, whose rows carry the numbers that they carried
  module _ (q : Plan) (places : places_with q a.rows ≡ places_with a.plan a.rows) where
    abbrev after : Drafted
    after = record a { plan = q }

    -- and say what they said
    pub drafted-same : table_with q a.rows ≡ table_after a → IsDrafted after × (draft_of after ≡ v)
    drafted-same e =
        let P : Table → Type 0 = λ f. IsTableOf f a.next v.after in
        let whole : IsTableOf (table_after after) a.next v.after = subst P (sym e) now-table in
        (drafted after v.after h.before whole now-count (rw (e, places) h.numbered) h.bound (rw e h.standing) now-sizes, draft-is after v.after whole ∙ sym (draft-is a v.after now-table) ∙ is)

    -- and of one node say something else
    pub drafted-content : (s : Content → Content) (step : Entry → Entry) → SaysSame s step → ((e : Entry) → lists_in (Some (step e)) ≡ lists_in (Some e)) → ((e : Entry) → IsDocumentEntry (Some e) → IsDocumentEntry (Some (step e))) → (k : ℕ) → IsSome (find k v.after) → IsChangedAt (table_after a) (table_with q a.rows) k step
        → IsDrafted after × (draft_of after ≡ record v { after = with_content k s v.after })
    drafted-content s step same lists documents k there one =
        let e = some-of (table_after a k) (table-there k there) in
        let whole : IsTableOf (table_after after) a.next (with_content k s v.after) = IsTableOf-content s step same k (table_after a) (table_with q a.rows) one e.0 e.1 a.next v.after now-table in (
          drafted after (with_content k s v.after) h.before whole (now-count ∙ sym (weigh-with_content s step same k (λ _. 1) v.after)) (numbers-changed _ _ _ _ k step lists places one (table-there k there) h.numbered) h.bound
              (standing-changed _ _ k step a.documents.entries (λ d at doc. documents d doc) one h.standing) (sizes-content _ s step same k v.after now-sizes),
          draft-is after (with_content k s v.after) whole ∙ ap (λ (t : DraftTerm). record t { after = with_content k s v.after }) is,
        )

-- ---- the plan's rows in the place of the table's
pub settled-table : (p : Plan) (m : Term Row) (n : Term Row) → row_of n ≡ rows_with p m → table_of n ≡ table_with p m
unfolding table_of table_with row_of
settled-table p m n e = λ t i. (let z : table_of n i ≡ table_with p m i = ap (λ (r : ℕ → Option Row). option_map entry_of_row (r i)) e in z t)

pub settled-places : (p : Plan) (m : Term Row) (n : Term Row) → row_of n ≡ rows_with p m → place_of n ≡ places_with p m
unfolding place_of places_with row_of
settled-places p m n e = λ t i. (let z : place_of n i ≡ places_with p m i = ap (λ (r : ℕ → Option Row). place_in i (r i)) e in z t)

-- ---- rows that have more room
pub same-table : (p : Plan) (m n : Term Row) → row_of n ≡ row_of m → table_with p n ≡ table_with p m
unfolding table_with
same-table p m n e = λ t i. (let z : table_with p n i ≡ table_with p m i = ap (λ (r : ℕ → Option Row). option_map entry_of_row (planned p r i)) e in z t)

pub same-places : (p : Plan) (m n : Term Row) → row_of n ≡ row_of m → places_with p n ≡ places_with p m
unfolding places_with
same-places p m n e = λ t i. (let z : places_with p n i ≡ places_with p m i = ap (λ (r : ℕ → Option Row). place_in i (planned p r i)) e in z t)

-- the draft whose rows have more room
module _ (a : Drafted) (v : DraftTerm) (is : draft_of a ≡ v) (h : IsDrafted a) (b : Drafted) (rows : row_of b.rows ≡ row_of a.rows) (documents : b.documents ≡ a.documents) (first : b.first ≡ a.first) (nodes : b.nodes ≡ a.nodes) (plan : b.plan ≡ a.plan) (next : b.next ≡ a.next) (count_same : b.count ≡ a.count) (named : Covers b.index (table_of a.rows)) (kept : kept_sizes b.index ≡ kept_sizes a.index) (resized : b.resized ≡ a.resized) where
  f-same : table_after b ≡ table_after a
  f-same = rw plan (same-table a.plan a.rows b.rows rows)

  pub roomy-is : draft_of b ≡ v
  roomy-is = (λ i. record { before = term-same (forest_of a) (forest_of b) (rows-table a.rows b.rows rows) documents first i; after = trees_of (f-same i) (next i); next = next i }) ∙ is

  pub roomy-drafted : IsDrafted b
  roomy-drafted =
      let P : Table → ℕ → Type 0 = λ f n. IsTableOf f n v.after in
      let whole : IsTableOf (table_after b) b.next v.after = subst (λ n. P (table_after b) n) (sym next) (subst (λ f. P f a.next) (sym f-same) (now-table a v is h)) in
      drafted b v.after (sound-rows (forest_of a) (forest_of b) (rows-table a.rows b.rows rows) (rows-places a.rows b.rows rows) documents first nodes (rw (rows-table a.rows b.rows rows) named) (rw kept h.before.sized) h.before) whole (count_same ∙ now-count a v is h)
      (let w : places_with b.plan b.rows ≡ places_with a.plan a.rows = rw plan (same-places a.plan a.rows b.rows rows) in rw (f-same, w) h.numbered) (rw next h.bound) (rw (f-same, documents) h.standing) (rw (kept, resized) (now-sizes a v is h))
