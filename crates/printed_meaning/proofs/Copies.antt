-- Copied content of nodes without parents, and the node that takes it.
use Rattle.std.proofs.Common.{◌≡◌, ℕ, suc, ◌+◌, ◌-◌, ◌/◌, true, if◌then◌else◌, List, [], ◌∷◌, Option, None, Result, Ok, Err, refl, ap, ap₂, sym, ◌∙◌, ⊎_elim, arith}
use Rattle.std.proofs.lemmas.Bool.{and_parts, not-true}
use Rattle.data_model.specs.Changes.{pick, renumbered}
use Rattle.data_model.specs.Tidy.{is_document}
use Rattle.data_model.specs.Trees.{Trees, no_trees, tree, leaf, Content, append, bytes_in, roots, size, find}
use Rattle.data_model.specs.declared.node.Kind.{Kind}
use Rattle.data_model.proofs.Weights.{append-append, append-none}
use Rattle.fault_codes.specs.declared.code.Code.{Code}
use Rattle.fault_codes.specs.declared.code.Code.TheVariants.{PXQ0002, PXQ0003}
use Rattle.values.specs.declared.atom.Item.{Item}
use Rattle.values.specs.declared.atom.Item.TheVariants as item
use Rattle.query_meaning.specs.Running.{Run, M, trees_of, pure, ◌>>=◌, come_to, seen, each, new_nodes, work}
use Rattle.query_meaning.specs.Operators.{nodes}
use Rattle.query_meaning.specs.Content.{Part, made, parts_of, copied, source_at, content, are_all, attributes, others, without_adjacent_texts, unless_fault}
use Rattle.query_meaning.specs.Constructors.{assembled, rooted, with_text}
use Rattle.printed_meaning.specs.Made.{copy_work}
use Rattle.printed_meaning.proofs.Parts.{is_no_document}
use Rattle.printed_meaning.proofs.Runs.{after, after_fault, comes, grown, numbered, HasRoom, LacksRoom, room_or_not, new_nodes_come, new_nodes_fail, spent, HasWork, LacksWork, work_or_not, spent_twice, work_comes, work_fails, StandsAlone, AllStandAlone}

-- a node with a text
pub with_text_comes : (kind : Kind) (name text : List ℕ) (run : Run) → HasRoom run 1
    → with_text kind name text run ≡ Ok (item.Node run.shelf.own.next ∷ [], grown run (leaf (record { identity = run.shelf.own.next; kind = kind; name = name; text = text })) (run.shelf.own.next + 1))
with_text_comes kind name text run h = after (λ i. rooted i (leaf (record { identity = i; kind = kind; name = name; text = text }))) (new_nodes_come 1 run h)

pub with_text_fails : (kind : Kind) (name text : List ℕ) (run : Run) → LacksRoom run 1 → with_text kind name text run ≡ Err PXQ0003
with_text_fails kind name text run h = after_fault (λ i. rooted i (leaf (record { identity = i; kind = kind; name = name; text = text }))) (new_nodes_fail 1 run h)

-- what is copied of a node that is no document: its tree
source : (ts : Trees) (d : Content) (es ds : Trees) → StandsAlone ts d es ds → is_no_document d.kind ≡ true → source_at d.identity ts (find d.identity ts) ≡ tree d es ds no_trees
source ts d es ds h k = ap (source_at d.identity ts) h.found ∙ ap (λ b. if b then ds else pick d.identity ts) (not-true (is_document d.kind) k) ∙ h.picked

numbered_copy : Trees → M Trees
numbered_copy us = new_nodes (size us) >>= (λ n. pure (renumbered n us))

-- the run once the work of a tree's copy is taken
abbrev begun : Run → Trees → Run
begun run us = spent run (bytes_in us / 16)

abbrev copy_seen : ℕ → M Trees
copy_seen i = seen (λ ts. source_at i ts (find i ts)) >>= numbered_copy

copied_begins : (run : Run) (d : Content) (es ds : Trees) → StandsAlone (trees_of run) d es ds → is_no_document d.kind ≡ true → HasWork run (bytes_in (tree d es ds no_trees) / 16)
    → copied d.identity run ≡ numbered_copy (tree d es ds no_trees) (begun run (tree d es ds no_trees))
unfolding numbered_copy
copied_begins run d es ds h k room =
    let t = tree d es ds no_trees in
    ap (λ us. (work (bytes_in us / 16) >>= (λ _. copy_seen d.identity)) run) h.picked
    ∙ after (λ _. copy_seen d.identity) (work_comes (bytes_in t / 16) run room)
    ∙ ap (λ us. numbered_copy us (begun run t)) (source (trees_of run) d es ds h k)

copied_comes : (run : Run) (d : Content) (es ds : Trees) → StandsAlone (trees_of run) d es ds → is_no_document d.kind ≡ true → HasRoom run (size (tree d es ds no_trees))
    → HasWork run (bytes_in (tree d es ds no_trees) / 16)
    → copied d.identity run ≡ Ok (renumbered run.shelf.own.next (tree d es ds no_trees), numbered (begun run (tree d es ds no_trees)) (run.shelf.own.next + size (tree d es ds no_trees)))
unfolding numbered_copy
copied_comes run d es ds h k room work_left =
    let t = tree d es ds no_trees in
    copied_begins run d es ds h k work_left ∙ after (λ n. pure (renumbered n t)) (new_nodes_come (size t) (begun run t) room)

copied_fails : (run : Run) (d : Content) (es ds : Trees) → StandsAlone (trees_of run) d es ds → is_no_document d.kind ≡ true → LacksRoom run (size (tree d es ds no_trees))
    → HasWork run (bytes_in (tree d es ds no_trees) / 16) → copied d.identity run ≡ Err PXQ0003
unfolding numbered_copy
copied_fails run d es ds h k lack work_left =
    let t = tree d es ds no_trees in
    copied_begins run d es ds h k work_left ∙ after_fault (λ n. pure (renumbered n t)) (new_nodes_fail (size t) (begun run t) lack)

-- without the work for it
copied_dear : (run : Run) (d : Content) (es ds : Trees) → StandsAlone (trees_of run) d es ds → LacksWork run (bytes_in (tree d es ds no_trees) / 16) → copied d.identity run ≡ Err PXQ0002
unfolding numbered_copy
copied_dear run d es ds h lack =
    ap (λ us. (work (bytes_in us / 16) >>= (λ _. copy_seen d.identity)) run) h.picked
    ∙ after_fault (λ _. copy_seen d.identity) (work_fails (bytes_in (tree d es ds no_trees) / 16) run lack)

abbrev put : ℕ → Trees → Part → M Trees
put j given p = made p >>= (λ us. pure (append given us))

-- a tree before others, numbered on
numbered_on : (n : ℕ) (d : Content) (es ds rest : Trees) → append (renumbered n (tree d es ds no_trees)) (renumbered (n + size (tree d es ds no_trees)) rest) ≡ renumbered n (tree d es ds rest)
numbered_on n d es ds rest = ap (λ m. tree (record d { identity = n }) (renumbered (n + 1) es) (renumbered (n + 1 + size es) ds) (renumbered m rest)) (omega arith)

-- the copies are numbered from the left
copies_come : (j : ℕ) (us given : Trees) (run : Run) → AllStandAlone (trees_of run) us → are_all is_no_document us ≡ true → HasRoom run (size us) → HasWork run (copy_work us)
    → each put j (parts_of (nodes (roots us))) given run ≡ Ok (append given (renumbered run.shelf.own.next us), numbered (spent run (copy_work us)) (run.shelf.own.next + size us))
copies_come j no_trees given run h k room work_left =
    ap₂ (λ us n. let r : Result (Trees × Run) Code = Ok (us, numbered run n) in r) (sym (append-none given)) (let e : run.shelf.own.next ≡ run.shelf.own.next + 0 = omega arith in e)
    ∙ ap (λ w. let r : Result (Trees × Run) Code = Ok (append given no_trees, record (numbered run (run.shelf.own.next + 0)) { work = w }) in r) (let e : run.work ≡ run.work - 0 = omega arith in e)
copies_come j (tree d es ds rest) given run h k room work_left =
    let n = run.shelf.own.next in
    let one = tree d es ds no_trees in
    let kinds = and_parts (is_no_document d.kind) (are_all is_no_document rest) k in
    after (each put (suc j) (parts_of (nodes (roots rest)))) (after (λ us. pure (append given us)) (copied_comes run d es ds h.0 kinds.0 (omega (arith, room)) (omega (arith, work_left))))
    ∙ copies_come (suc j) rest (append given (renumbered n one)) (numbered (begun run one) (n + size one)) h.1 kinds.1 (omega (arith, room)) (omega (arith, work_left))
    ∙ ap₂ (λ us m. let r : Result (Trees × Run) Code = Ok (us, numbered (spent (begun run one) (copy_work rest)) m) in r)
    (append-append given (renumbered n one) (renumbered (n + size one) rest) ∙ ap (append given) (numbered_on n d es ds rest)) (omega arith)
    ∙ spent_twice (append given (renumbered n (tree d es ds rest))) (numbered run (n + size (tree d es ds rest))) (bytes_in one / 16) (copy_work rest) (copy_work (tree d es ds rest)) refl

-- up to the copy that there is no room for
copies_fail : (j : ℕ) (us given : Trees) (run : Run) → AllStandAlone (trees_of run) us → are_all is_no_document us ≡ true → HasRoom run 0 → LacksRoom run (size us) → HasWork run (copy_work us)
    → each put j (parts_of (nodes (roots us))) given run ≡ Err PXQ0003
copies_fail j no_trees given run h k room lack work_left = absurd (omega (arith, room, lack))
copies_fail j (tree d es ds rest) given run h k room lack work_left =
    let n = run.shelf.own.next in
    let first = tree d es ds no_trees in
    let kinds = and_parts (is_no_document d.kind) (are_all is_no_document rest) k in
    let others = each put (suc j) (parts_of (nodes (roots rest))) in
    let given_first = λ (us : Trees). pure (append given us) in
    ⊎_elim (λ one. after_fault others (after_fault given_first (copied_fails run d es ds h.0 kinds.0 one (omega (arith, work_left)))))
    (λ one. after others (after given_first (copied_comes run d es ds h.0 kinds.0 one (omega (arith, work_left))))
    ∙ copies_fail (suc j) rest (append given (renumbered n first)) (numbered (begun run first) (n + size first)) h.1 kinds.1 (omega (arith, one)) (omega (arith, lack)) (omega (arith, work_left)))
    (room_or_not run (size first))

-- up to the copy that there is no work for
copies_dear : (j : ℕ) (us given : Trees) (run : Run) → AllStandAlone (trees_of run) us → are_all is_no_document us ≡ true → HasRoom run (size us) → LacksWork run (copy_work us)
    → each put j (parts_of (nodes (roots us))) given run ≡ Err PXQ0002
copies_dear j no_trees given run h k room lack = absurd (omega (arith, lack))
copies_dear j (tree d es ds rest) given run h k room lack =
    let n = run.shelf.own.next in
    let first = tree d es ds no_trees in
    let kinds = and_parts (is_no_document d.kind) (are_all is_no_document rest) k in
    let others = each put (suc j) (parts_of (nodes (roots rest))) in
    let given_first = λ (us : Trees). pure (append given us) in
    ⊎_elim (λ lacking. after_fault others (after_fault given_first (copied_dear run d es ds h.0 lacking)))
    (λ enough. after others (after given_first (copied_comes run d es ds h.0 kinds.0 (omega (arith, room)) enough))
    ∙ copies_dear (suc j) rest (append given (renumbered n first)) (numbered (begun run first) (n + size first)) h.1 kinds.1 (omega (arith, room)) (omega (arith, lack, enough)))
    (work_or_not run (bytes_in first / 16))

pub content_comes : (us : Trees) (run : Run) → AllStandAlone (trees_of run) us → are_all is_no_document us ≡ true → HasRoom run (size us) → HasWork run (copy_work us)
    → content (nodes (roots us)) run ≡ Ok (renumbered run.shelf.own.next us, numbered (spent run (copy_work us)) (run.shelf.own.next + size us))
content_comes us run h k room work_left = copies_come 0 us no_trees run h k room work_left

module _ (kind : Kind) (name : List ℕ) (has_fault : Trees → Option Code) where
  abbrev pub node_of : ℕ → Trees → Trees
  node_of i ps = tree (record { identity = i; kind = kind; name = name; text = [] }) (attributes ps) (others ps) no_trees

  abbrev checked : ℕ → Trees → M (List Item)
  checked i ps = come_to (unless_fault (has_fault ps) (node_of i ps)) >>= rooted i

  abbrev separate : ℕ → Trees → M (List Item)
  separate i us = come_to (without_adjacent_texts us) >>= checked i

  -- the node comes first, then the copies
  pub assembled_comes : (us : Trees) (run : Run) → AllStandAlone (trees_of run) us → are_all is_no_document us ≡ true → HasRoom run (1 + size us) → HasWork run (copy_work us)
      → without_adjacent_texts (renumbered (run.shelf.own.next + 1) us) ≡ Ok (renumbered (run.shelf.own.next + 1) us) → has_fault (renumbered (run.shelf.own.next + 1) us) ≡ None
      → assembled kind name has_fault (nodes (roots us)) run ≡ Ok (item.Node run.shelf.own.next ∷ [], spent (grown run (node_of run.shelf.own.next (renumbered (run.shelf.own.next + 1) us)) (run.shelf.own.next + 1 + size us)) (copy_work us))
  assembled_comes us run h k room work_left stay faultless =
      let n = run.shelf.own.next in
      let ps = renumbered (n + 1) us in
      after (λ i. content (nodes (roots us)) >>= separate i) (new_nodes_come 1 run (omega (arith, room)))
      ∙ after (separate n) (content_comes us (numbered run (n + 1)) h k (omega (arith, room)) work_left)
      ∙ after (checked n) (comes (numbered (spent run (copy_work us)) (n + 1 + size us)) stay)
      ∙ after (rooted n) (comes (numbered (spent run (copy_work us)) (n + 1 + size us)) (ap (λ o. unless_fault o (node_of n ps)) faultless))

  pub assembled_fails : (us : Trees) (run : Run) → AllStandAlone (trees_of run) us → are_all is_no_document us ≡ true → LacksRoom run (1 + size us) → HasWork run (copy_work us)
      → assembled kind name has_fault (nodes (roots us)) run ≡ Err PXQ0003
  assembled_fails us run h k lack work_left = ⊎_elim of_lacking of_room (room_or_not run 1)
    where
      of_lacking : LacksRoom run 1 → assembled kind name has_fault (nodes (roots us)) run ≡ Err PXQ0003
      of_lacking one = after_fault (λ i. content (nodes (roots us)) >>= separate i) (new_nodes_fail 1 run one)

      of_room : HasRoom run 1 → assembled kind name has_fault (nodes (roots us)) run ≡ Err PXQ0003
      of_room one =
          let n = run.shelf.own.next in
          after (λ i. content (nodes (roots us)) >>= separate i) (new_nodes_come 1 run one)
          ∙ after_fault (separate n) (copies_fail 0 us no_trees (numbered run (n + 1)) h k (omega (arith, one)) (omega (arith, lack)) work_left)

  pub assembled_dear : (us : Trees) (run : Run) → AllStandAlone (trees_of run) us → are_all is_no_document us ≡ true → HasRoom run (1 + size us) → LacksWork run (copy_work us)
      → assembled kind name has_fault (nodes (roots us)) run ≡ Err PXQ0002
  assembled_dear us run h k room lack =
      let n = run.shelf.own.next in
      after (λ i. content (nodes (roots us)) >>= separate i) (new_nodes_come 1 run (omega (arith, room)))
      ∙ after_fault (separate n) (copies_dear 0 us no_trees (numbered run (n + 1)) h k (omega (arith, room)) lack)
