-- A node whose content goes into it as it is.
use Rattle.std.proofs.Common.{◌≡◌, ℕ, suc, ◌+◌, ◌-◌, ◌/◌, ◌≤◌, Bool, true, false, ◌&&◌, ◌||◌, nat_le, if◌then◌else◌, List, [], ◌∷◌, length, Option, Some, None, Result, Ok, Err, IsSome, refl, ap, ap₂, subst, sym, ◌∙◌, arith, length-append}
use Rattle.std.specs.Prelude.{not}
use Rattle.std.specs.Str.{bytes_eq}
use Rattle.std.proofs.lemmas.Bool.Decides.{nat_tests}
use Rattle.data_model.specs.Changes.{pick, renumbered}
use Rattle.data_model.specs.Limits.{most_bytes, most_listed, most_height}
use Rattle.data_model.specs.Tidy.{is_document, has_distinct_names}
use Rattle.data_model.specs.Tree.{TreeTerm, trees_of_tree}
use Rattle.data_model.specs.Trees.{Trees, no_trees, tree, Content, Place, append, bytes_in, find, height, is_text, roots, size}
use Rattle.data_model.specs.declared.node.Kind.{Kind}
use Rattle.data_model.specs.declared.node.Kind.TheVariants as kind
use Rattle.data_model.proofs.Climbs.{AreDistinct}
use Rattle.data_model.proofs.Weights.{append-append, append-none, roots-append, weigh-append}
use Rattle.node_table.proofs.Copies.{renumbered-append}
use Rattle.copied_rows.specs.Copies.{WhereMade, grown}
use Rattle.trees.specs.Grown.{AllStand, picked, texts_work, with_node}
use Rattle.trees.proofs.CallerLemmas.{picked-place}
use Rattle.fault_codes.specs.declared.code.Code.{Code}
use Rattle.fault_codes.specs.declared.code.Code.TheVariants.{XPTY0004, XQTY0024, XQDY0025, PXQ0002, PXQ0003}
use Rattle.values.specs.declared.atom.Item.{Item}
use Rattle.values.specs.declared.atom.Item.TheVariants as item
use Rattle.query_meaning.specs.Running.{M, Run, trees_of, pure, and_then, ◌>>=◌, come_to, each, new_nodes, most_nodes, work}
use Rattle.query_meaning.specs.Content as meaning
use Rattle.query_meaning.specs.Content.{content, copied, without_adjacent_texts, attributes, others, is_attribute, is_other, are_all, has_attributes_first, has_room, parts_of, source_at, unless_fault}
use Rattle.query_meaning.specs.Constructors.{assembled, rooted}
use Rattle.query_meaning.specs.Operators.{nodes}
use Rattle.evaluation.specs.Gives.{Gives}
use Rattle.copied_content.specs.Copying.{numbered}
use Rattle.copied_content.specs.Merging.{are_apart}
use Rattle.copied_content.proofs.Merging.{apart_stays, both}
use Rattle.query_constructors.proofs.Standing.{rooted_gives}
use Rattle.query_elements.specs.declared.assembled.Parent.{Parent}
use Rattle.query_elements.specs.declared.assembled.Parent.TheVariants.{Document, Element}
use Rattle.query_elements.specs.Assembling.{closed, fault_of, kind_of, tree_with}
use Rattle.query_elements.specs.Whole.{are_whole, go_whole, goes_whole, is_whole, is_whole_at}

-- ---- trees whose roots go into a node's content as they are
abbrev all_whole : Trees → Bool
all_whole no_trees = true
all_whole (tree c bs cs rest) = is_whole c && all_whole rest

record OfKind (k : Kind) : Type 0 where
  no_text : is_text k ≡ false
  no_attribute : is_attribute k ≡ false
  no_document : is_document k ≡ false

of_kind : (k : Kind) → goes_whole k ≡ true → OfKind k
of_kind kind.Document h = cc
of_kind kind.Element h = record { no_text = refl; no_attribute = refl; no_document = refl }
of_kind kind.Attribute h = cc
of_kind kind.Text h = cc
of_kind kind.Comment h = record { no_text = refl; no_attribute = refl; no_document = refl }
of_kind kind.Instruction h = record { no_text = refl; no_attribute = refl; no_document = refl }

of_content : (c : Content) → is_whole c ≡ true → OfKind c.kind
of_content c h = of_kind c.kind (both (goes_whole c.kind) (nat_le (length c.text) most_bytes) h).0

short : (c : Content) → is_whole c ≡ true → nat_le (length c.text) most_bytes ≡ true
short c h = (both (goes_whole c.kind) (nat_le (length c.text) most_bytes) h).1

first_whole : (c : Content) (bs cs rest : Trees) → all_whole (tree c bs cs rest) ≡ true → is_whole c ≡ true
first_whole c bs cs rest h = (both (is_whole c) (all_whole rest) h).0

rest_whole : (c : Content) (bs cs rest : Trees) → all_whole (tree c bs cs rest) ≡ true → all_whole rest ≡ true
rest_whole c bs cs rest h = (both (is_whole c) (all_whole rest) h).1

-- they have nothing to be merged
stay_apart : (w : Bool) (ts : Trees) → all_whole ts ≡ true → are_apart w ts ≡ true
stay_apart w no_trees h = refl
stay_apart w (tree c bs cs rest) h =
    let first = first_whole c bs cs rest h in
    of (nat_le (length c.text) most_bytes) (is_text c.kind) (w || bytes_eq c.text []) (are_apart (is_text c.kind) rest) (short c first) (of_content c first).no_text
    (stay_apart (is_text c.kind) rest (rest_whole c bs cs rest h))
  where
    of : (n t e r : Bool) → n ≡ true → t ≡ false → r ≡ true → (n && not (t && e)) && r ≡ true
    of true false e true f g h = refl
    of true false e false f g h = cc
    of true true e r f g h = cc
    of false t e r f g h = cc

-- they are all children
no_attributes : (ts : Trees) → all_whole ts ≡ true → attributes ts ≡ no_trees
no_attributes no_trees h = refl
no_attributes (tree c bs cs rest) h =
    ap (λ b. if b then tree c bs cs (attributes rest) else attributes rest) (of_content c (first_whole c bs cs rest h)).no_attribute ∙ no_attributes rest (rest_whole c bs cs rest h)

all_stay : (ts : Trees) → all_whole ts ≡ true → others ts ≡ ts
all_stay no_trees h = refl
all_stay (tree c bs cs rest) h =
    ap (λ b. if not b then tree c bs cs (others rest) else others rest) (of_content c (first_whole c bs cs rest h)).no_attribute ∙ ap (tree c bs cs) (all_stay rest (rest_whole c bs cs rest h))

all_others : (ts : Trees) → all_whole ts ≡ true → are_all is_other ts ≡ true
all_others no_trees h = refl
all_others (tree c bs cs rest) h = ap (λ b. not b && are_all is_other rest) (of_content c (first_whole c bs cs rest h)).no_attribute ∙ all_others rest (rest_whole c bs cs rest h)

none_after : (ts : Trees) → all_whole ts ≡ true → has_attributes_first ts ≡ true
none_after no_trees h = refl
none_after (tree c bs cs rest) h =
    ap (λ b. if b then has_attributes_first rest else are_all is_other rest) (of_content c (first_whole c bs cs rest h)).no_attribute ∙ all_others rest (rest_whole c bs cs rest h)

-- they may be the content of either
within : (a m : ℕ) → a ≤ m → nat_le a m ≡ true
within a m h = grind (arith, nat_tests)

room : (ts : Trees) → length (roots ts) ≤ most_listed → height ts + 1 ≤ most_height → has_room ts ≡ true
room ts few low = ap (λ b. b && nat_le (height ts + 1) most_height) (within (length (roots ts)) most_listed few) ∙ within (height ts + 1) most_height low

abbrev of_document : Bool → Bool → Option Code
of_document others room = if not others then Some XPTY0004 else if not room then Some PXQ0003 else None

abbrev of_element : Bool → Bool → Bool → Option Code
of_element first distinct room = if not first then Some XQTY0024 else if not distinct then Some XQDY0025 else if not room then Some PXQ0003 else None

no_fault : (p : Parent) (ts : Trees) → all_whole ts ≡ true → has_room ts ≡ true → fault_of p ts ≡ None
no_fault Document ts h room = ap (λ b. of_document b (has_room ts)) (all_others ts h) ∙ ap (of_document true) room
no_fault Element ts h room =
    ap (λ b. of_element b (has_distinct_names (attributes ts)) (has_room ts)) (none_after ts h)
    ∙ ap (λ us. of_element true (has_distinct_names us) (has_room ts)) (no_attributes ts h)
    ∙ ap (of_element true true) room

-- ---- the trees of nodes
whole_append : (ts us : Trees) → all_whole ts ≡ true → all_whole us ≡ true → all_whole (append ts us) ≡ true
whole_append no_trees us h k = k
whole_append (tree c bs cs rest) us h k = ap (λ b. b && all_whole (append rest us)) (first_whole c bs cs rest h) ∙ whole_append rest us (rest_whole c bs cs rest h) k

record Alone (i : ℕ) (ts : Trees) (o : Option Place) : Type 0 where
  source : source_at i ts o ≡ pick i ts
  whole : all_whole (pick i ts) ≡ true
  one : length (roots (pick i ts)) ≡ 1

alone : (i : ℕ) (ts : Trees) (o : Option Place) → AreDistinct ts → find i ts ≡ o → is_whole_at o ≡ true → Alone i ts o
alone i ts None d found h = cc
alone i ts (Some x) d found h =
    let is : pick i ts ≡ tree x.content x.attributes x.children no_trees = picked-place None i ts x d found in
    record {
      source = ap (λ b. if b then x.children else pick i ts) (of_content x.content h).no_document;
      whole = ap all_whole is ∙ ap (λ b. b && true) h;
      one = ap (λ us. length (roots us)) is;
    }

first_node : (i : ℕ) (is : List ℕ) (ts : Trees) → are_whole ts (nodes (i ∷ is)) ≡ true → is_whole_at (find i ts) ≡ true
first_node i is ts h = (both (is_whole_at (find i ts)) (are_whole ts (nodes is)) h).0

other_nodes : (i : ℕ) (is : List ℕ) (ts : Trees) → are_whole ts (nodes (i ∷ is)) ≡ true → are_whole ts (nodes is) ≡ true
other_nodes i is ts h = (both (is_whole_at (find i ts)) (are_whole ts (nodes is)) h).1

there : (o : Option Place) → is_whole_at o ≡ true → IsSome o
there None h = cc
there (Some x) h = refl

all_stand : (is : List ℕ) (ts : Trees) → are_whole ts (nodes is) ≡ true → AllStand is ts
all_stand [] ts h = tt
all_stand (i ∷ is) ts h = (there (find i ts) (first_node i is ts h), all_stand is ts (other_nodes i is ts h))

picked_whole : (is : List ℕ) (ts : Trees) → AreDistinct ts → are_whole ts (nodes is) ≡ true → all_whole (picked is ts) ≡ true
picked_whole [] ts d h = refl
picked_whole (i ∷ is) ts d h = whole_append (pick i ts) (picked is ts) (alone i ts (find i ts) d refl (first_node i is ts h)).whole (picked_whole is ts d (other_nodes i is ts h))

picked_many : (is : List ℕ) (ts : Trees) → AreDistinct ts → are_whole ts (nodes is) ≡ true → length (roots (picked is ts)) ≡ length is
picked_many [] ts d h = refl
picked_many (i ∷ is) ts d h =
    let one = (alone i ts (find i ts) d refl (first_node i is ts h)).one in
    let more = picked_many is ts d (other_nodes i is ts h) in
    let all = ap length (roots-append (pick i ts) (picked is ts)) ∙ length-append (roots (pick i ts)) (roots (picked is ts)) in
    omega (arith, one, more, all)

-- with other identities
whole_renumbered : (n : ℕ) (ts : Trees) → all_whole (renumbered n ts) ≡ all_whole ts
whole_renumbered n no_trees = refl
whole_renumbered n (tree c bs cs rest) = ap (λ b. is_whole c && b) (whole_renumbered (n + 1 + size bs + size cs) rest)

many_renumbered : (n : ℕ) (ts : Trees) → length (roots (renumbered n ts)) ≡ length (roots ts)
many_renumbered n no_trees = refl
many_renumbered n (tree c bs cs rest) = ap suc (many_renumbered (n + 1 + size bs + size cs) rest)

height_renumbered : (n : ℕ) (ts : Trees) → height (renumbered n ts) ≡ height ts
height_renumbered n no_trees = refl
height_renumbered n (tree c bs cs rest) = omega (arith, height_renumbered (n + 1) bs, height_renumbered (n + 1 + size bs) cs, height_renumbered (n + 1 + size bs + size cs) rest)

-- ---- the steps of their copying
abbrev with_next : (next work : ℕ) → Run → Run
with_next m w run = record run { shelf = record run.shelf { own = record run.shelf.own { next = m } }; work = w }

spent : (n w : ℕ) (run : Run) → w + n ≡ run.work → work n run ≡ Ok (tt, record run { work = w })
spent n w run e =
    ap (λ b. if b then Ok (tt, record run { work = run.work - n }) else Err PXQ0002) (within n run.work (omega (arith, e)))
    ∙ (let left : run.work - n ≡ w = omega (arith, e) in ap (λ k. Ok (tt, record run { work = k })) left)

taken : (n m : ℕ) (run : Run) → run.shelf.own.next + n ≡ m → m ≤ run.shelf.lent.next + most_nodes → new_nodes n run ≡ Ok (run.shelf.own.next, with_next m run.work run)
taken n m run e most =
    ap (λ b. if b then Ok (run.shelf.own.next, with_next (run.shelf.own.next + n) run.work run) else Err PXQ0003) (within (run.shelf.own.next + n) (run.shelf.lent.next + most_nodes) (omega (arith, e, most)))
    ∙ ap (λ k. Ok (run.shelf.own.next, with_next k run.work run)) e

copy_comes : (i m w : ℕ) (run : Run) → source_at i (trees_of run) (find i (trees_of run)) ≡ pick i (trees_of run) → w + bytes_in (pick i (trees_of run)) / 16 ≡ run.work
    → run.shelf.own.next + size (pick i (trees_of run)) ≡ m → m ≤ run.shelf.lent.next + most_nodes → copied i run ≡ Ok (renumbered run.shelf.own.next (pick i (trees_of run)), with_next m w run)
copy_comes i m w run source e next most =
    let us = pick i (trees_of run) in
    let mid = record run { work = w } in
    ap (λ r. and_then r (λ _. (λ (now : Run). numbered (source_at i (trees_of now) (find i (trees_of now))) now))) (spent (bytes_in us / 16) w run e)
    ∙ ap (λ vs. numbered vs mid) source
    ∙ ap (λ r. and_then r (λ n. pure (renumbered n us))) (taken (size us) m mid next most)

abbrev put : ℕ → Trees → meaning.Part → M Trees
put k given x = meaning.made x >>= (λ us. pure (append given us))

parts_come : (is : List ℕ) (k m w : ℕ) (given : Trees) (run : Run) → AreDistinct (trees_of run) → are_whole (trees_of run) (nodes is) ≡ true → w + texts_work is (trees_of run) ≡ run.work
    → run.shelf.own.next + size (picked is (trees_of run)) ≡ m → m ≤ run.shelf.lent.next + most_nodes
    → each put k (parts_of (nodes is)) given run ≡ Ok (append given (renumbered run.shelf.own.next (picked is (trees_of run))), with_next m w run)
parts_come [] k m w given run d h e next most =
    let same : run.work ≡ w = omega (arith, e) in
    let first : run.shelf.own.next ≡ m = omega (arith, next) in
    ap (λ us. Ok (us, run)) (sym (append-none given)) ∙ ap₂ (λ a b. Ok (append given no_trees, with_next a b run)) first same
parts_come (i ∷ is) k m w given run d h e next most =
    let ts = trees_of run in
    let us = pick i ts in
    let vs = picked is ts in
    let n = run.shelf.own.next in
    let sum : size (append us vs) ≡ size us + size vs = weigh-append (λ _. 1) us vs in
    let left : (w + texts_work is ts) + bytes_in us / 16 ≡ run.work = omega (arith, e) in
    let below : n + size us ≤ run.shelf.lent.next + most_nodes = omega (arith, next, most, sum) in
    let last : (n + size us) + size vs ≡ m = omega (arith, next, sum) in
    ap (λ r. and_then (and_then r (λ xs. pure (append given xs))) (each put (suc k) (parts_of (nodes is))))
    (copy_comes i (n + size us) (w + texts_work is ts) run (alone i ts (find i ts) d refl (first_node i is ts h)).source left refl below)
    ∙ parts_come is (suc k) m w (append given (renumbered n us)) (with_next (n + size us) (w + texts_work is ts) run) d (other_nodes i is ts h) refl last most
    ∙ ap (λ xs. Ok (xs, with_next m w run)) (append-append given (renumbered n us) (renumbered (n + size us) vs) ∙ ap (append given) (sym (renumbered-append n us vs)))

-- ---- the new node
abbrev with_grown : Kind → (name : List ℕ) → Trees → (work : ℕ) → Run → Run
with_grown k name us w run = record run { shelf = record run.shelf { own = with_node k name us run.shelf.own }; work = w }

-- what it takes
record HasRoom (is : List ℕ) (w : ℕ) (run : Run) : Type 0 where
  whole : are_whole (trees_of run) (nodes is) ≡ true
  few : length is ≤ most_listed
  low : height (picked is (trees_of run)) + 1 ≤ most_height
  paid : w + texts_work is (trees_of run) ≡ run.work
  most : run.shelf.own.next + 1 + size (picked is (trees_of run)) ≤ run.shelf.lent.next + most_nodes

abbrev node_of : Parent → (name : List ℕ) → (identity : ℕ) → Content
node_of p name n = record { identity = n; kind = kind_of p; name = name; text = [] }

all_fits : (p : Parent) (n w : ℕ) (is : List ℕ) (run : Run) → AreDistinct (trees_of run) → HasRoom is w run → fault_of p (renumbered n (picked is (trees_of run))) ≡ None
all_fits p n w is run d h =
    let us = picked is (trees_of run) in
    let many = many_renumbered n us in
    let count = picked_many is (trees_of run) d h.whole in
    let high = height_renumbered n us in
    let few = h.few in
    let low = h.low in
    no_fault p (renumbered n us) (whole_renumbered n us ∙ picked_whole is (trees_of run) d h.whole) (room (renumbered n us) (omega (arith, many, count, few)) (omega (arith, high, low)))

node_comes : (p : Parent) (name : List ℕ) (w : ℕ) (is : List ℕ) (old : Run) → AreDistinct (trees_of old) → HasRoom is w old
    → assembled (kind_of p) name (fault_of p) (nodes is) old ≡ rooted old.shelf.own.next (grown (node_of p name old.shelf.own.next) (picked is (trees_of old))) (with_next (old.shelf.own.next + 1 + size (picked is (trees_of old))) w old)
node_comes p name w is old d h =
    let ts = trees_of old in
    let n = old.shelf.own.next in
    let us = renumbered (n + 1) (picked is ts) in
    let m = n + 1 + size (picked is ts) in
    let most = h.most in
    let whole : all_whole us ≡ true = whole_renumbered (n + 1) (picked is ts) ∙ picked_whole is ts d h.whole in
    let mid = with_next (n + 1) old.work old in
    let late = with_next m w old in
    ap (λ r. and_then r (λ j. content (nodes is) >>= (λ vs. come_to (without_adjacent_texts vs) >>= closed p name j))) (taken 1 (n + 1) old refl (omega (arith, most)))
    ∙ ap (λ r. and_then r (λ vs. come_to (without_adjacent_texts vs) >>= closed p name n)) (parts_come is 0 m w no_trees mid d h.whole h.paid refl most)
    ∙ ap (λ r. and_then (come_to r late) (closed p name n)) (apart_stays us (stay_apart false us whole))
    ∙ ap (λ o. and_then (come_to (unless_fault o (tree_with p name n us)) late) (rooted n)) (all_fits p (n + 1) w is old d h)
    ∙ ap₂ (λ bs cs. rooted n (tree (node_of p name n) bs cs no_trees) late) (no_attributes us whole) (all_stay us whole)

gives : (p : Parent) (name : List ℕ) (w : ℕ) (is : List ℕ) (old : Run) → AreDistinct (trees_of old) → HasRoom is w old
    → Gives (assembled (kind_of p) name (fault_of p) (nodes is)) old (Ok (item.Node old.shelf.own.next ∷ [])) (with_grown (kind_of p) name (picked is (trees_of old)) w old)
gives p name w is old d h =
    let n = old.shelf.own.next in
    let us = renumbered (n + 1) (picked is (trees_of old)) in
    let late = with_next (n + 1 + size (picked is (trees_of old))) w old in
    let new = with_grown (kind_of p) name (picked is (trees_of old)) w old in
    let t : TreeTerm = record { content = node_of p name n; attributes = no_trees; children = us } in
    let g : Gives (rooted n (trees_of_tree t)) late (Ok (item.Node n ∷ [])) new = rooted_gives t n late new (item.Node n ∷ []) refl refl refl in
    (node_comes p name w is old d h ∙ g.0, (record { kept = g.1.0.kept }, g.1.1))

grown_gives : (p : Parent) (name : List ℕ) (is : List ℕ) (items : List Item) (root : ℕ) (old new : Run) → AreDistinct (trees_of old) → true ≡ go_whole (trees_of old) items → nodes is ≡ items
    → root ≡ old.shelf.own.next → new ≡ with_grown (kind_of p) name (picked is (trees_of old)) new.work old → new.work + texts_work is (trees_of old) ≡ old.work → new.shelf.own.next ≤ old.shelf.lent.next + most_nodes
    → height (picked is (trees_of old)) + 1 ≤ most_height → Gives (assembled (kind_of p) name (fault_of p) items) old (Ok (item.Node root ∷ [])) new
grown_gives p name is items root old new d go same first made paid most low =
    let P : List Item → Type 0 = λ xs. Gives (assembled (kind_of p) name (fault_of p) xs) old (Ok (item.Node root ∷ [])) new in
    let Q : ℕ → Type 0 = λ i. Gives (assembled (kind_of p) name (fault_of p) (nodes is)) old (Ok (item.Node i ∷ [])) new in
    let R : Run → Type 0 = λ run. Gives (assembled (kind_of p) name (fault_of p) (nodes is)) old (Ok (item.Node old.shelf.own.next ∷ [])) run in
    let ends : new.shelf.own.next ≡ old.shelf.own.next + 1 + size (picked is (trees_of old)) = ap (λ (run : Run). run.shelf.own.next) made in
    let all = both (nat_le (length (nodes is)) most_listed) (are_whole (trees_of old) (nodes is)) (ap (go_whole (trees_of old)) same ∙ sym go) in
    subst P same (subst Q (sym first) (subst R (sym made) (gives p name new.work is old d (record { whole = all.1; few = count is all.0; low = low; paid = paid; most = omega (arith, most, ends) }))))
  where
    many : (is : List ℕ) → length (nodes is) ≡ length is
    many [] = refl
    many (i ∷ is) = ap suc (many is)

    count : (is : List ℕ) → nat_le (length (nodes is)) most_listed ≡ true → length is ≤ most_listed
    count is h = let e = many is in grind (arith, nat_tests)

-- from what the calls ensure
pub grown_ensures : {E : Type 0} (r : Result (Option ℕ) E) (p : Parent) (k : Kind) (name : List ℕ) (is js : List ℕ) (items : List Item) (old new : Run) → AreDistinct (trees_of old) → true ≡ go_whole (trees_of old) items → is ≡ js → nodes js ≡ items → k ≡ kind_of p
    → WhereMade r (λ root. root ≡ old.shelf.own.next) → WhereMade r (λ _. new ≡ with_grown k name (picked is (trees_of old)) new.work old) → WhereMade r (λ _. new.work + texts_work is (trees_of old) ≡ old.work)
    → WhereMade r (λ _. new.shelf.own.next ≤ old.shelf.lent.next + most_nodes) → WhereMade r (λ _. height (picked is (trees_of old)) + 1 ≤ most_height)
    → WhereMade r (λ root. Gives (assembled (kind_of p) name (fault_of p) items) old (Ok (item.Node root ∷ [])) new)
grown_ensures (Ok (Some root)) p k name is js items old new d go same are by first made paid most low = grown_gives p name is items root old new d go (ap nodes same ∙ are) first (made ∙ ap (λ l. with_grown l name (picked is (trees_of old)) new.work old) by) paid most low
grown_ensures (Ok None) p k name is js items old new d go same are by first made paid most low = tt
grown_ensures (Err e) p k name is js items old new d go same are by first made paid most low = tt

-- where they may be grown
pub may_grow : (is js : List ℕ) (items : List Item) (ts : Trees) → true ≡ go_whole ts items → is ≡ js → nodes js ≡ items → AllStand is ts
may_grow is js items ts go same are =
    all_stand is ts (both (nat_le (length (nodes is)) most_listed) (are_whole ts (nodes is)) (ap (go_whole ts) (ap nodes same ∙ are) ∙ sym go)).1
