-- The constructor expressions of tidy trees make those trees.
use Rattle.std.proofs.Common.{◌≡◌, ℕ, ◌+◌, ◌≤◌, ◌<◌, Bool, true, false, not, ◌&&◌, List, [], ◌∷◌, ◌++◌, length, map, codes, Option, None, Result, Err, refl, ap, ap₂, sym, ◌∙◌, subst, subst₂, ⊎_elim, arith}
use Rattle.std.proofs.lemmas.Bool.{and_parts, not-true, leb-true}
use Rattle.std.proofs.lemmas.Bool.Decides.{eqb_tells}
use Rattle.std.proofs.lemmas.List.{length-map, map-append}
use Rattle.std.proofs.lemmas.Slice.Eq.{bytes_eq-Decides}
use Rattle.std.specs.Str.{bytes_eq, str_to_ascii_lowercase}
use Rattle.document_names.specs.Characters.{is_name}
use Rattle.data_model.specs.Changes.{renumbered}
use Rattle.data_model.specs.Tidy.{is_xml_text, are_tidy, may_be_attribute, may_be_child, has_distinct_names, holds_text, ends_in_hyphen, begins_with_space}
use Rattle.data_model.specs.Trees.{Trees, no_trees, tree, Content, append, is_inner, roots, size, count}
use Rattle.data_model.specs.declared.node.Kind.{Kind}
use Rattle.data_model.specs.declared.node.Kind.TheVariants as kind
use Rattle.data_model.proofs.Weights.{append-append}
use Rattle.node_table.proofs.Copies.{renumbered-within}
use Rattle.fault_codes.specs.declared.code.Code.{Code}
use Rattle.fault_codes.specs.declared.code.Code.TheVariants.{PXQ0002, PXQ0003}
use Rattle.data_model.specs.Limits.{most_bytes}
use Rattle.values.specs.declared.atom.Item.{Item}
use Rattle.values.specs.declared.atom.Item.TheVariants as item
use Rattle.query_grammar.specs.Grammar.{of_list}
use Rattle.query_grammar.specs.declared.ast.Expr.{Expr}
use Rattle.query_grammar.specs.declared.ast.Expr.TheVariants as e
use Rattle.query_grammar.specs.declared.ast.Name.TheVariants.{Written}
use Rattle.query_meaning.specs.Constructors as constructors
use Rattle.query_meaning.specs.Constructors.{assembled, with_text}
use Rattle.query_meaning.specs.Content.{are_all, is_attribute, is_other, attributes, others, has_room, element_fault, document_fault}
use Rattle.data_model.specs.Limits.{most_listed}
use Rattle.query_meaning.specs.Environment.{Environment}
use Rattle.query_meaning.specs.Meaning.{mean}
use Rattle.query_meaning.specs.Running.{Run, trees_of, and_then, ◌>>=◌, most_items}
use Rattle.query_meaning.specs.Operators.{nodes}
use Rattle.query_meaning.specs.Sequences.{Meaning, sequence}
use Rattle.meaning_laws.proofs.Nodes.{two_parts}
use Rattle.printed_trees.specs.Constructors.{constructor_of, tree_expressions, is_tidy_root}
use Rattle.printed_meaning.specs.Made.{anonymous, depths, comma_work, copy_work, work_of, have_room}
use Rattle.printed_meaning.proofs.Anonymous.{carried, same_all, same_copy_work, same_length, same_size, anonymous_renumbered}
use Rattle.printed_meaning.proofs.Copies.{assembled_comes, assembled_fails, assembled_dear, with_text_fails}
use Rattle.printed_meaning.proofs.Depths.{depths_parts, work_append}
use Rattle.printed_meaning.proofs.Forms.{mean_sequence, mean_document, mean_element, mean_attribute, mean_text, mean_comment, mean_instruction, attribute_means, text_means, comment_means, instruction_means, attribute_dear, text_node_dear, comment_dear, instruction_dear, element_means, counts, literal, literal_work}
use Rattle.printed_meaning.proofs.Made.{Remade, MakesBy, Makes, AllMake, both_make, counts_make, leaf_remade, AllRemade, grown_twice, all_remade, all_refused, all_dear}
use Rattle.printed_meaning.proofs.Parts.{AreParts, are_parts, is_no_document, parts_stay, same_attributes, same_others, element_faultless, document_faultless}
use Rattle.printed_meaning.proofs.Runs.{after, after_fault, grown, HasRoom, LacksRoom, room_or_not, spent, HasWork, LacksWork, work_or_not, counted_comes, counted_dear, counted_fails, spent_twice, spent_below, trees_grown, IsBelow, AreBetween, both_between, grown_below, absent, StandsAlone, AllStandAlone, last_stands}
use Rattle.printed_meaning.proofs.Tidy.{HaveShortTexts, tidy_node, fits_as_root, without_attributes, without_children, room_at}

-- what a node needs
pub record IsRuled (k : Kind) (name text : List ℕ) (bs cs : Trees) : Type 0 where
  pub tidy : is_tidy_root k name text ≡ true
  pub distinct : has_distinct_names bs ≡ true
  pub attributes : are_tidy (may_be_attribute k) bs ≡ true
  pub children : are_tidy (may_be_child k) cs ≡ true
  pub short : length text ≤ most_bytes
  pub short_attributes : HaveShortTexts bs
  pub short_children : HaveShortTexts cs
  pub room : has_room (append bs cs) ≡ true

-- Parts, as one expression.

-- a meaning makes these trees, one after the other, by so much work wherever there is room and work for them, and nowhere else
pub record AllComeBy (w : ℕ) (m : Meaning) (ts : Trees) : Type 0 where
  pub made : (env : Environment) (run : Run) → IsBelow run → HasRoom run (depths 1 ts) → HasWork run w → AllRemade w [] ts run (m env run)
  pub refused : (env : Environment) (run : Run) → IsBelow run → HasRoom run 0 → LacksRoom run (depths 1 ts) → HasWork run w → m env run ≡ Err PXQ0003
  pub dear : (env : Environment) (run : Run) → IsBelow run → HasRoom run (depths 1 ts) → LacksWork run w → m env run ≡ Err PXQ0002

-- by the trees' work and that of a comma
abbrev pub AllCome : Meaning → Trees → Type 0
AllCome m ts = AllComeBy (work_of ts + comma_work ts) m ts

alone : (w : ℕ) (c : Content) (bs cs : Trees) (run : Run) (r : Result (List Item × Run) Code) → Remade w c bs cs run r → AllRemade w [] (tree c bs cs no_trees) run r
alone w c bs cs run r one = record {
  stood = one.stood;
  made = tree one.root one.attributes one.children no_trees;
  comes = one.comes;
  between = one.between;
  stand = (one.stands, tt);
  alike = one.alike;
}

-- a part by itself
one_comes : (m : Meaning) (ts : Trees) → AllMake (m ∷ []) ts → AllCome m ts
one_comes m no_trees h = absurd h
one_comes m (tree c bs cs (tree d es ds rest)) h = absurd h.1
one_comes m (tree c bs cs no_trees) h =
    let w = work_of (tree c bs cs no_trees) in
    subst (λ u. AllComeBy u m (tree c bs cs no_trees)) (let e : w ≡ w + 0 = omega arith in e)
    (record { made = λ env run below room work_left. alone w c bs cs run (m env run) (h.0.made env run below room work_left); refused = h.0.refused; dear = h.0.dear })

-- a comma, which is counted
sequence_comes : (ms : List Meaning) (ts : Trees) → length (roots ts) ≤ most_items → AllMake ms ts → AllComeBy (work_of ts + (1 + length (roots ts))) (counts (sequence ms)) ts
sequence_comes ms ts few h = record {
  made = λ env run below room work_left. made env run below room work_left;
  refused = λ env run below room lack work_left. counted_fails (sequence ms env) run
      (all_refused env 0 ms ts h [] run below room lack (omega (arith, work_left)) (omega (arith, few)));
  dear = λ env run below room lack.
      ⊎_elim (λ lacking. counted_fails (sequence ms env) run (all_dear env 0 ms ts h [] run below room lacking (omega (arith, few)))) (λ enough. dear env run below room enough lack)
      (work_or_not run (work_of ts));
}
  where
    -- as many nodes as there are trees
    as_many : (us : Trees) → anonymous us ≡ anonymous ts → length (nodes (roots us)) ≡ length (roots ts)
    as_many us alike = length-map (roots us) (λ i. item.Node i) ∙ carried (λ vs. length (roots vs)) same_length us ts alike

    dear : (env : Environment) (run : Run) → IsBelow run → HasRoom run (depths 1 ts) → HasWork run (work_of ts) → LacksWork run (work_of ts + (1 + length (roots ts)))
        → counts (sequence ms) env run ≡ Err PXQ0002
    dear env run below room enough lack =
        let all = all_remade env 0 ms ts h [] run below room enough (omega (arith, few)) in
        let last = grown run all.stood (run.shelf.own.next + depths 1 ts) in
        let same = as_many all.made all.alike in
        counted_dear (sequence ms env) (nodes (roots all.made)) run (spent last (work_of ts)) all.comes (omega (arith, lack, enough, same))

    made : (env : Environment) (run : Run) → IsBelow run → HasRoom run (depths 1 ts) → HasWork run (work_of ts + (1 + length (roots ts)))
        → AllRemade (work_of ts + (1 + length (roots ts))) [] ts run (counts (sequence ms) env run)
    made env run below room work_left =
        let all = all_remade env 0 ms ts h [] run below room (omega (arith, work_left)) (omega (arith, few)) in
        let items = nodes (roots all.made) in
        let last = grown run all.stood (run.shelf.own.next + depths 1 ts) in
        let same : length items ≡ length (roots ts) = as_many all.made all.alike in
        record {
          stood = all.stood;
          made = all.made;
          comes = counted_comes (sequence ms env) items run (spent last (work_of ts)) all.comes (omega (arith, work_left, same))
              ∙ spent_twice items last (work_of ts) (1 + length items) (work_of ts + (1 + length (roots ts))) (omega (arith, same));
          between = all.between;
          stand = all.stand;
          alike = all.alike;
        }

parts_come : (xs : List Expr) (ts : Trees) → length (roots ts) ≤ most_items → AllMake (map mean xs) ts → AllCome (mean (of_list xs)) ts
parts_come [] no_trees few h = subst (λ m. AllCome m no_trees) (sym (mean_sequence [])) (sequence_comes [] no_trees few h)
parts_come [] (tree c bs cs rest) few h = absurd h
parts_come (x ∷ []) ts few h = one_comes (mean x) ts h
parts_come (x ∷ y ∷ xs) no_trees few h = absurd h
parts_come (x ∷ y ∷ xs) (tree c bs cs no_trees) few h = absurd h.1
parts_come (x ∷ y ∷ xs) (tree c bs cs (tree d es ds rest)) few h =
    let ts = tree c bs cs (tree d es ds rest) in
    subst (λ m. AllCome m ts) (sym (mean_sequence (x ∷ y ∷ xs))) (sequence_comes (map mean (x ∷ y ∷ xs)) ts few h)

few_parts : (ts : Trees) → has_room ts ≡ true → length (roots ts) ≤ most_items
unfolding most_items
few_parts ts h = leb-true (length (roots ts)) most_listed (and_parts _ _ h).0

-- A node with parts.

module _ (k : Kind) (i : ℕ) (name : List ℕ) (has_fault : Trees → Option Code) (bs cs : Trees) (parts : AreParts bs cs)
    (faultless : (ps : Trees) → anonymous ps ≡ anonymous (append bs cs) → has_fault ps ≡ None) where
  abbrev given : Content
  given = record { identity = i; kind = k; name = name; text = [] }

  -- the node with the identity n, and the copies from n + 1 on
  abbrev root : ℕ → Content
  root n = record { identity = n; kind = k; name = name; text = [] }

  abbrev node : ℕ → Trees → Trees
  node n us = tree (root n) (attributes (renumbered (n + 1) us)) (others (renumbered (n + 1) us)) no_trees

  node_between : (n : ℕ) (us : Trees) → AreBetween n (n + 1 + size us) (node n us)
  node_between n us = record { within = λ j there. of j there (two_parts j is_attribute (renumbered (n + 1) us)) (renumbered-within (n + 1) j us) }
    where
      of : (j : ℕ) → 0 < count j (node n us) → count j (attributes (renumbered (n + 1) us)) + count j (others (renumbered (n + 1) us)) ≡ count j (renumbered (n + 1) us)
          → (0 < count j (renumbered (n + 1) us) → (n + 1 ≤ j) × (j < n + 1 + size us)) → (n ≤ j) × (j < n + 1 + size us)
      of j there both within =
          ⊎_elim (λ t. (omega (arith, t.1), omega (arith, t.1)))
          (λ t. (let z = rw t.0 at there in let w = within (omega (arith, z, both)) in (omega (arith, w.0), w.1))) (eqb_tells j n)

  -- the work of the parts, and of their copies
  abbrev parts_work : ℕ
  parts_work = work_of (append bs cs) + comma_work (append bs cs)

  abbrev copies_work : ℕ
  copies_work = copy_work (append bs cs)

  inner_remade : (run : Run) (r : Result (List Item × Run) Code) → IsBelow run → HasRoom run (depths 1 (tree given bs cs no_trees)) → HasWork run (parts_work + copies_work)
      → AllRemade parts_work [] (append bs cs) run r → Remade (parts_work + copies_work) given bs cs run (and_then r (assembled k name has_fault))
  inner_remade run r below room work_left all =
      let us = all.made in
      let n = run.shelf.own.next + depths 1 (append bs cs) in
      let ps = renumbered (n + 1) us in
      let grown_run = grown run all.stood n in
      let between = spent grown_run parts_work in
      let between_below = spent_below grown_run parts_work (grown_below run all.stood n (omega arith) below all.between) in
      let same_work : copy_work us ≡ copies_work = carried copy_work same_copy_work us (append bs cs) all.alike in
      let same : size us ≡ size (append bs cs) = carried size same_size us (append bs cs) all.alike in
      let parts_sum = depths_parts bs cs in
      let sum : n + 1 + size us ≡ run.shelf.own.next + depths 1 (tree given bs cs no_trees) = omega (arith, parts_sum, same) in
      let alike : anonymous ps ≡ anonymous (append bs cs) = anonymous_renumbered (n + 1) us ∙ all.alike in
      record {
        stood = append all.stood (node n us);
        root = root n;
        attributes = attributes ps;
        children = others ps;
        comes =
            after (assembled k name has_fault) all.comes
            ∙ assembled_comes k name has_fault us between (subst (λ ts. AllStandAlone ts us) (sym (trees_grown run all.stood n)) all.stand)
            (carried (are_all is_no_document) (same_all is_no_document) us (append bs cs) all.alike ∙ parts.inner) (omega (arith, room, sum))
            (omega (arith, work_left, same_work)) (parts_stay bs cs ps parts alike) (faultless ps alike)
            ∙ grown_twice (item.Node n ∷ []) run all.stood (node n us) n (n + 1 + size us) (run.shelf.own.next + depths 1 (tree given bs cs no_trees)) parts_work (copy_work us) (parts_work + copies_work) sum (omega (arith, same_work));
        between = both_between run.shelf.own.next n (run.shelf.own.next + depths 1 (tree given bs cs no_trees)) all.stood (node n us) (omega arith) (omega (arith, sum)) all.between
            (subst (λ j. AreBetween n j (node n us)) sum (node_between n us));
        new = omega arith;
        stands = subst (λ ts. StandsAlone ts (root n) (attributes ps) (others ps)) (append-append (trees_of run) all.stood (node n us))
            (last_stands (append (trees_of run) all.stood) (root n) (attributes ps) (others ps) (subst (λ ts. count n ts ≡ 0) (trees_grown run all.stood n) (absent between between_below)));
        alike = ap₂ (λ x y. tree (record given { identity = 0 }) x y no_trees) (same_attributes bs cs ps parts alike) (same_others bs cs ps parts alike);
      }

  inner_refused : (run : Run) (r : Result (List Item × Run) Code) → IsBelow run → LacksRoom run (depths 1 (tree given bs cs no_trees)) → HasWork run (parts_work + copies_work)
      → (HasRoom run (depths 1 (append bs cs)) → AllRemade parts_work [] (append bs cs) run r) → (LacksRoom run (depths 1 (append bs cs)) → r ≡ Err PXQ0003) → and_then r (assembled k name has_fault) ≡ Err PXQ0003
  inner_refused run r below lack work_left made refused = ⊎_elim (λ parts_lack. after_fault (assembled k name has_fault) (refused parts_lack)) of_room (room_or_not run (depths 1 (append bs cs)))
    where
      of_room : HasRoom run (depths 1 (append bs cs)) → and_then r (assembled k name has_fault) ≡ Err PXQ0003
      of_room room =
          let all = made room in
          let us = all.made in
          let n = run.shelf.own.next + depths 1 (append bs cs) in
          let same : size us ≡ size (append bs cs) = carried size same_size us (append bs cs) all.alike in
          let same_work : copy_work us ≡ copies_work = carried copy_work same_copy_work us (append bs cs) all.alike in
          let parts_sum = depths_parts bs cs in
          after (assembled k name has_fault) all.comes
          ∙ assembled_fails k name has_fault us (spent (grown run all.stood n) parts_work) (subst (λ ts. AllStandAlone ts us) (sym (trees_grown run all.stood n)) all.stand)
          (carried (are_all is_no_document) (same_all is_no_document) us (append bs cs) all.alike ∙ parts.inner) (omega (arith, lack, parts_sum, same))
          (omega (arith, work_left, same_work))

  inner_dear : (run : Run) (r : Result (List Item × Run) Code) → IsBelow run → HasRoom run (depths 1 (tree given bs cs no_trees)) → LacksWork run (parts_work + copies_work)
      → (HasWork run parts_work → AllRemade parts_work [] (append bs cs) run r) → (LacksWork run parts_work → r ≡ Err PXQ0002) → and_then r (assembled k name has_fault) ≡ Err PXQ0002
  inner_dear run r below room lack made dear = ⊎_elim (λ lacking. after_fault (assembled k name has_fault) (dear lacking)) of_work (work_or_not run parts_work)
    where
      of_work : HasWork run parts_work → and_then r (assembled k name has_fault) ≡ Err PXQ0002
      of_work enough =
          let all = made enough in
          let us = all.made in
          let n = run.shelf.own.next + depths 1 (append bs cs) in
          let same : size us ≡ size (append bs cs) = carried size same_size us (append bs cs) all.alike in
          let same_work : copy_work us ≡ copies_work = carried copy_work same_copy_work us (append bs cs) all.alike in
          let parts_sum = depths_parts bs cs in
          after (assembled k name has_fault) all.comes
          ∙ assembled_dear k name has_fault us (spent (grown run all.stood n) parts_work) (subst (λ ts. AllStandAlone ts us) (sym (trees_grown run all.stood n)) all.stand)
          (carried (are_all is_no_document) (same_all is_no_document) us (append bs cs) all.alike ∙ parts.inner) (omega (arith, room, parts_sum, same))
          (omega (arith, lack, enough, same_work))

  pub inner_makes : (m : Meaning) → AllCome m (append bs cs) → MakesBy (parts_work + copies_work) (λ env. m env >>= assembled k name has_fault) given bs cs
  inner_makes m all =
      let parts_sum = depths_parts bs cs in
      record {
        made = λ env run below room work_left. inner_remade run (m env run) below room work_left
            (all.made env run below (omega (arith, room, parts_sum)) (omega (arith, work_left)));
        refused = λ env run below room lack work_left. inner_refused run (m env run) below lack work_left
            (λ enough. all.made env run below enough (omega (arith, work_left))) (λ lacking. all.refused env run below room lacking (omega (arith, work_left)));
        dear = λ env run below room lack. inner_dear run (m env run) below room lack
            (λ enough. all.made env run below (omega (arith, room, parts_sum)) enough) (λ lacking. all.dear env run below (omega (arith, room, parts_sum)) lacking);
      }

-- Each kind of node.

-- a node without parts
leaf_makes : (m : Meaning) (c : Content) (bs cs : Trees) → is_inner c.kind ≡ false → bs ≡ no_trees → cs ≡ no_trees
    → ((env : Environment) (run : Run) → HasWork run (literal_work c.text) → m env run ≡ with_text c.kind c.name c.text (spent run (literal_work c.text)))
    → ((env : Environment) (run : Run) → LacksWork run (literal_work c.text) → m env run ≡ Err PXQ0002) → Makes (counts m) c bs cs
leaf_makes m c bs cs leaf a b same dear =
    let w = literal_work c.text in
    let sum : 2 + w ≡ work_of (tree c no_trees no_trees no_trees) = rw leaf (omega arith) in
    let one : MakesBy w m c no_trees no_trees = record {
      made = λ env run below room work_left. leaf_remade w c run (m env run) (same env run work_left) below room;
      refused = λ env run below room lack work_left. same env run work_left ∙ with_text_fails c.kind c.name c.text (spent run w) lack;
      dear = λ env run below room lack. dear env run lack;
    } in
    subst₂ (Makes (counts m) c) (sym a) (sym b) (subst (λ u. MakesBy u (counts m) c no_trees no_trees) sum (counts_make w m c no_trees no_trees one))

-- a meaning that comes to the same
same_makes : (w : ℕ) (m n : Meaning) (c : Content) (bs cs : Trees) → ((env : Environment) (run : Run) → m env run ≡ n env run) → MakesBy w n c bs cs → MakesBy w m c bs cs
same_makes w m n c bs cs same h = record {
  made = λ env run below room work_left. subst (Remade w c bs cs run) (sym (same env run)) (h.made env run below room work_left);
  refused = λ env run below room lack work_left. same env run ∙ h.refused env run below room lack work_left;
  dear = λ env run below room lack. same env run ∙ h.dear env run below room lack;
}

-- a node with parts, whose work is counted
inner_counts : (m : Meaning) (c : Content) (bs cs : Trees) → is_inner c.kind ≡ true
    → MakesBy (work_of (append bs cs) + comma_work (append bs cs) + copy_work (append bs cs)) m c bs cs → Makes (counts m) c bs cs
inner_counts m c bs cs inner h =
    let ps = append bs cs in
    let w = work_of ps + comma_work ps + copy_work ps in
    let sum : 2 + w ≡ work_of (tree c bs cs no_trees) = rw inner (omega (arith, work_append bs cs)) in
    subst (λ u. MakesBy u (counts m) c bs cs) sum (counts_make w m c bs cs h)

module _ (i : ℕ) (name text : List ℕ) (bs cs : Trees) where
  abbrev content : Kind → Content
  content k = record { identity = i; kind = k; name = name; text = text }

  attribute_makes : IsRuled kind.Attribute name text bs cs → Makes (mean (e.Attribute (Written name) (e.String text))) (content kind.Attribute) bs cs
  attribute_makes h =
      let rules = and_parts (is_name name) (is_xml_text text) h.tidy in
      subst (λ m. Makes m (content kind.Attribute) bs cs) (sym (mean_attribute name text))
      (leaf_makes (constructors.attribute (Written name) (literal text)) (content kind.Attribute) bs cs refl (without_attributes kind.Attribute bs (λ j. refl) h.attributes) (without_children kind.Attribute cs refl h.children)
      (λ env run room. attribute_means env run name text rules.0 h.short room) (λ env run lack. attribute_dear env run name text rules.0 lack))

  text_makes : IsRuled kind.Text name text bs cs → Makes (mean (e.Text (e.String text))) (content kind.Text) bs cs
  text_makes h =
      let rules = and_parts (bytes_eq name []) (is_xml_text text) h.tidy in
      subst (λ m. Makes m (content kind.Text) bs cs) (sym (mean_text text))
      (leaf_makes (constructors.text (literal text)) (content kind.Text) bs cs refl (without_attributes kind.Text bs (λ j. refl) h.attributes) (without_children kind.Text cs refl h.children)
      (λ env run room. text_means env run text h.short room ∙ ap (λ none. with_text kind.Text none text (spent run (literal_work text))) (sym ((bytes_eq-Decides name []).0 rules.0)))
      (λ env run lack. text_node_dear env run text lack))

  comment_makes : IsRuled kind.Comment name text bs cs → Makes (mean (e.Comment (e.String text))) (content kind.Comment) bs cs
  comment_makes h =
      let three = and_parts (bytes_eq name [] && is_xml_text text && not (holds_text (codes "--") text)) (not (ends_in_hyphen text)) h.tidy in
      let two = and_parts (bytes_eq name [] && is_xml_text text) (not (holds_text (codes "--") text)) three.0 in
      let one = and_parts (bytes_eq name []) (is_xml_text text) two.0 in
      subst (λ m. Makes m (content kind.Comment) bs cs) (sym (mean_comment text))
      (leaf_makes (constructors.comment (literal text)) (content kind.Comment) bs cs refl (without_attributes kind.Comment bs (λ j. refl) h.attributes) (without_children kind.Comment cs refl h.children)
      (λ env run room. comment_means env run text h.short (not-true (holds_text (codes "--") text) two.1) (not-true (ends_in_hyphen text) three.1) room
      ∙ ap (λ none. with_text kind.Comment none text (spent run (literal_work text))) (sym ((bytes_eq-Decides name []).0 one.0)))
      (λ env run lack. comment_dear env run text lack))

  instruction_makes : IsRuled kind.Instruction name text bs cs → Makes (mean (e.Instruction (Written name) (e.String text))) (content kind.Instruction) bs cs
  instruction_makes h =
      let named = is_name name && not (bytes_eq (str_to_ascii_lowercase name) (codes "xml")) in
      let four = and_parts (named && is_xml_text text && not (holds_text (codes "?>") text)) (not (begins_with_space text)) h.tidy in
      let three = and_parts (named && is_xml_text text) (not (holds_text (codes "?>") text)) four.0 in
      let two = and_parts named (is_xml_text text) three.0 in
      let one = and_parts (is_name name) (not (bytes_eq (str_to_ascii_lowercase name) (codes "xml"))) two.0 in
      subst (λ m. Makes m (content kind.Instruction) bs cs) (sym (mean_instruction name text))
      (leaf_makes (constructors.instruction (Written name) (literal text)) (content kind.Instruction) bs cs refl (without_attributes kind.Instruction bs (λ j. refl) h.attributes) (without_children kind.Instruction cs refl h.children)
      (λ env run room. instruction_means env run name text one.0 (not-true (bytes_eq (str_to_ascii_lowercase name) (codes "xml")) one.1) h.short (not-true (holds_text (codes "?>") text) three.1) (not-true (begins_with_space text) four.1) room)
      (λ env run lack. instruction_dear env run name text one.0 (not-true (bytes_eq (str_to_ascii_lowercase name) (codes "xml")) one.1) lack))

  element_makes : (xs : List Expr) → AllMake (map mean xs) (append bs cs) → IsRuled kind.Element name text bs cs → Makes (mean (e.Element (Written name) (of_list xs))) (content kind.Element) bs cs
  element_makes xs make h =
      let rules = and_parts (is_name name) (bytes_eq text []) h.tidy in
      let parts = are_parts kind.Element bs cs h.attributes h.children h.short_attributes h.short_children in
      let m = mean (of_list xs) in
      let c : Content = record { identity = i; kind = kind.Element; name = name; text = [] } in
      subst (λ t. Makes (mean (e.Element (Written name) (of_list xs))) (record { identity = i; kind = kind.Element; name = name; text = t }) bs cs) (sym ((bytes_eq-Decides text []).0 rules.1))
      (subst (λ w. Makes w c bs cs) (sym (mean_element name (of_list xs)))
      (inner_counts (constructors.element (Written name) m) c bs cs refl
      (same_makes _ (constructors.element (Written name) m) (λ env. m env >>= assembled kind.Element name element_fault) c bs cs (λ env run. element_means env run name m rules.0)
      (inner_makes kind.Element i name element_fault bs cs parts (λ ps alike. element_faultless bs cs ps parts alike h.room h.distinct) m (parts_come xs (append bs cs) (few_parts (append bs cs) h.room) make)))))

  document_makes : (xs : List Expr) → AllMake (map mean xs) (append bs cs) → IsRuled kind.Document name text bs cs → Makes (mean (e.Document (of_list xs))) (content kind.Document) bs cs
  document_makes xs make h =
      let rules = and_parts (bytes_eq name []) (bytes_eq text []) h.tidy in
      let parts = are_parts kind.Document bs cs h.attributes h.children h.short_attributes h.short_children in
      let alone : are_all is_other (append bs cs) ≡ true =
      subst (λ ts. are_all is_other (append ts cs) ≡ true) (sym (without_attributes kind.Document bs (λ j. refl) h.attributes)) parts.others_alone in
      let c : Content = record { identity = i; kind = kind.Document; name = []; text = [] } in
      subst₂ (λ s t. Makes (mean (e.Document (of_list xs))) (record { identity = i; kind = kind.Document; name = s; text = t }) bs cs) (sym ((bytes_eq-Decides name []).0 rules.0)) (sym ((bytes_eq-Decides text []).0 rules.1))
      (subst (λ w. Makes w c bs cs) (sym (mean_document (of_list xs)))
      (inner_counts (constructors.document (mean (of_list xs))) c bs cs refl
      (inner_makes kind.Document i [] document_fault bs cs parts (λ ps alike. document_faultless bs cs ps parts alike h.room alone) (mean (of_list xs)) (parts_come xs (append bs cs) (few_parts (append bs cs) h.room) make))))

pub node_makes : (k : Kind) (i : ℕ) (name text : List ℕ) (bs cs : Trees) (xs : List Expr) → AllMake (map mean xs) (append bs cs) → IsRuled k name text bs cs
    → Makes (mean (constructor_of k name text xs)) (record { identity = i; kind = k; name = name; text = text }) bs cs
node_makes kind.Document i name text bs cs xs make h = document_makes i name text bs cs xs make h
node_makes kind.Element i name text bs cs xs make h = element_makes i name text bs cs xs make h
node_makes kind.Attribute i name text bs cs xs make h = attribute_makes i name text bs cs h
node_makes kind.Text i name text bs cs xs make h = text_makes i name text bs cs h
node_makes kind.Comment i name text bs cs xs make h = comment_makes i name text bs cs h
node_makes kind.Instruction i name text bs cs xs make h = instruction_makes i name text bs cs h

-- a node's parts are its attributes, then its children
pub parts_make : (bs cs : Trees) → AllMake (map mean (tree_expressions bs)) bs → AllMake (map mean (tree_expressions cs)) cs → AllMake (map mean (tree_expressions bs ++ tree_expressions cs)) (append bs cs)
parts_make bs cs h g =
    subst (λ ms. AllMake ms (append bs cs)) (sym (map-append mean (tree_expressions bs) (tree_expressions cs)))
    (both_make (map mean (tree_expressions bs)) (map mean (tree_expressions cs)) bs cs h g)

pub trees_make : (may : Kind → Bool) (ts : Trees) → are_tidy may ts ≡ true → HaveShortTexts ts → have_room ts ≡ true → AllMake (map mean (tree_expressions ts)) ts
trees_make may no_trees h short room = tt
trees_make may (tree c bs cs rest) h short room =
    let n = tidy_node may c bs cs rest h in
    let rooms = room_at c bs cs rest room in
    let attributes_make = trees_make (may_be_attribute c.kind) bs n.attributes short.1 rooms.attributes in
    let children_make = trees_make (may_be_child c.kind) cs n.children short.2 rooms.children in (
      node_makes c.kind c.identity c.name c.text bs cs (tree_expressions bs ++ tree_expressions cs) (parts_make bs cs attributes_make children_make) (record {
        tidy = fits_as_root c.kind c.name c.text n.content;
        distinct = n.distinct;
        attributes = n.attributes;
        children = n.children;
        short = short.0;
        short_attributes = short.1;
        short_children = short.2;
        room = rooms.here;
      }),
      trees_make may rest n.others short.3 rooms.others,
    )
