use Prim.Native.Nat.{suc}
use Rattle.std.proofs.Common.{◌≡◌, ◌∙◌, ◌++◌, ◌∷◌, [], ℕ, ◌+◌, ◌-◌, ◌≤◌, ◌<◌, ◌≢◌, Some, option_map, ap, sym, refl, arith, add-one, length, subst}
use Rattle.data_model.specs.Trees.{Trees, bytes_in, height, roots, size, tree, no_trees}
use Rattle.data_model.specs.Changes.{renumbered}
use Rattle.data_model.proofs.Weights.{roots-append}
use Rattle.node_table.specs.Flat.{Entry, entry_of, Holds, read_trees, both}
use Rattle.node_table.specs.Rows.{entry_of_row, table_of}
use Rattle.node_table.proofs.Tables.{Sets}
use Rattle.node_table.proofs.Copies.{first_trees, first-zero, first-all, turn, size-turn, Holds-copied, renumbered-append}
use Rattle.copied_rows.specs.declared.copying.Copying.{Copying}
use Rattle.copied_rows.proofs.Turns.{apart-kept, attributes-read, attributes-there, bytes-turned, children-read, children-there, height-turned, if-some, kept-rest, put-says, took, turn-missing, turn-says}
use Rattle.copied_rows.proofs.copies.+copy_all.Goals as goal

pub loop-id-init : goal.loop-id-init
loop-id-init t c =
    let n = c.args.copying.now.next in
    let zero = first-zero (read_trees c.args.deep (both (table_of c.args.copying.now.lent) (table_of c.args.rows.now)) c.args.ids.now) in
    let P : Trees → Type 0 = λ us. (n ≡ n + size us) × (c.args.copying.now.bytes + bytes_in us ≡ c.args.copying.now.bytes) × (height us ≤ c.args.copying.now.levels) × (c.new-copies.result.items ≡ roots (renumbered n us)) × Holds (table_of c.args.rows.now) c.args.parent (renumbered n us) in
    let z = subst P (sym zero) (omega arith, omega arith, omega arith, c.new-copies.ensures, tt) in
    record { lent = refl; first = refl; end = refl; levels = refl; next = z.0; within = λ l. l; bytes = z.1; high = z.2; copies = z.3; copied = z.4; same = λ i l. refl; fresh = c.requires.fresh; places = refl }

pub row-requires : goal.row-requires
row-requires t c =
    let inv = c.loop-id.invariant in
    record { apart = rw (inv.first, inv.lent) (apart-kept c.args.copying.now.first c.args.copying.now.next (table_of c.args.copying.now.lent) (table_of c.args.rows.now) (table_of c.loop-id.rows) c.requires.apart c.requires.first inv.same) }

pub copy_all-requires : goal.copy_all-requires
copy_all-requires t c =
    let lent = table_of c.args.copying.now.lent in
    let own = table_of c.args.rows.now in
    let deep = c.args.deep in
    let n0 = c.args.copying.now.next in
    let i = c.loop-id.id-index in
    let x = c.id-item.result in
    let ids = c.args.ids.now in
    let there = c.requires.there in
    let test = c.loop-id-test.true in
    let item = c.id-item.is in
    let inv = c.loop-id.invariant in
    let node = turn (both lent own) deep n0 i x ids there test item in
    let says = turn-says lent own deep n0 i x ids there test item (table_of c.loop-id.copying.lent) (table_of c.loop-id.rows) (ap table_of inv.lent) inv.same (entry_of_row c.in-Some.row) (sym c.in_ok-row.ensures.row ∙ ap (option_map entry_of_row) c.in-Some.is) in
    let some = c.if-deep-eq0.false in
    let enough : deep ≤ deep - 1 + 1 = omega arith in
    let took = took c.loop-id.copying c.row.new.self c.take.new.self c.in_ok-row.ensures.same (c.if-not-take.ensures.taken refl) in
    let is_lent = ap table_of (took.lent ∙ inv.lent) in
    let list1 : c.deref.result.now ≡ roots node.attributes = c.deref.ensures.value ∙ ap (λ (e : Entry). e.attributes) says in
    let next0 = inv.next in
    let next1 = took.next in
    let first1 = took.first ∙ inv.first in
    let end1 = took.end ∙ inv.end in
    let low = c.requires.first in
    let high = c.requires.end in
    let less = c.decreases in (
      omega arith,
      (
        attributes-there lent own deep n0 i x ids there test item (table_of c.take.new.self.lent) (table_of c.loop-id.rows) is_lent inv.same (deep - 1) enough c.deref.result.now list1 c.take.new.self.next (omega arith),
        (
          rw (first1, is_lent) (apart-kept c.args.copying.now.first n0 lent own (table_of c.loop-id.rows) c.requires.apart low inv.same),
          (omega arith, ((λ j l. inv.fresh j (omega arith)), omega arith)),
        ),
      ),
    )

pub copy_all-requires-in-loop-id : goal.copy_all-requires-in-loop-id
copy_all-requires-in-loop-id t c =
    let lent = table_of c.args.copying.now.lent in
    let own = table_of c.args.rows.now in
    let deep = c.args.deep in
    let n0 = c.args.copying.now.next in
    let i = c.loop-id.id-index in
    let x = c.id-item.result in
    let ids = c.args.ids.now in
    let there = c.requires.there in
    let test = c.loop-id-test.true in
    let item = c.id-item.is in
    let inv = c.loop-id.invariant in
    let node = turn (both lent own) deep n0 i x ids there test item in
    let says = turn-says lent own deep n0 i x ids there test item (table_of c.loop-id.copying.lent) (table_of c.loop-id.rows) (ap table_of inv.lent) inv.same (entry_of_row c.in-Some.row) (sym c.in_ok-row.ensures.row ∙ ap (option_map entry_of_row) c.in-Some.is) in
    let some = c.if-deep-eq0.false in
    let enough : deep ≤ deep - 1 + 1 = omega arith in
    let took = took c.loop-id.copying c.row.new.self c.take.new.self c.in_ok-row.ensures.same (c.if-not-take.ensures.taken refl) in
    let is_lent = ap table_of (took.lent ∙ inv.lent) in
    let list1 : c.deref.result.now ≡ roots node.attributes = c.deref.ensures.value ∙ ap (λ (e : Entry). e.attributes) says in
    let next0 = inv.next in
    let next1 = took.next in
    let first1 = took.first ∙ inv.first in
    let end1 = took.end ∙ inv.end in
    let low = c.requires.first in
    let high = c.requires.end in
    let less = c.decreases in
    let read1 = attributes-read lent own deep n0 i x ids there test item (table_of c.take.new.self.lent) (table_of c.loop-id.rows) is_lent inv.same (deep - 1) enough c.deref.result.now list1 in
    let n = c.loop-id.copying.next in
    let made1 = c.in-Some-2.is in
    let ensures1 = c.in_ok-attributes.ensures in
    let kept1 = kept-rest c.take.new.self c.copy_all.new.copying (if-some _ _ _ made1 ensures1.rest) in
    let next2 : c.copy_all.new.copying.next ≡ c.take.new.self.next + size node.attributes = rw read1 at (if-some _ _ _ made1 ensures1.next) in
    let same1 : (j : ℕ) → j < n0 → table_of c.copy_all.new.rows j ≡ own j = λ j l. c.copy_all.ensures.same j (omega arith) ∙ inv.same j l in
    let is_lent2 = ap table_of (kept1.lent ∙ took.lent ∙ inv.lent) in
    let first2 = kept1.first ∙ first1 in
    let end2 = kept1.end ∙ end1 in
    let list2 : c.deref-in-loop-id.result.now ≡ roots node.children = c.deref-in-loop-id.ensures.value ∙ ap (λ (e : Entry). e.children) says in (
      omega arith,
      (
        children-there lent own deep n0 i x ids there test item (table_of c.copy_all.new.copying.lent) (table_of c.copy_all.new.rows) is_lent2 same1 (deep - 1) enough c.deref-in-loop-id.result.now list2 c.copy_all.new.copying.next (omega arith),
        (
          rw (first2, is_lent2) (apart-kept c.args.copying.now.first n0 lent own (table_of c.copy_all.new.rows) c.requires.apart low same1),
          (omega arith, ((λ j l. c.copy_all.ensures.fresh j l), omega arith)),
        ),
      ),
    )

pub loop-id-preserved : goal.loop-id-preserved
loop-id-preserved t c =
    let lent = table_of c.args.copying.now.lent in
    let own = table_of c.args.rows.now in
    let deep = c.args.deep in
    let n0 = c.args.copying.now.next in
    let i = c.loop-id.id-index in
    let x = c.id-item.result in
    let ids = c.args.ids.now in
    let there = c.requires.there in
    let test = c.loop-id-test.true in
    let item = c.id-item.is in
    let inv = c.loop-id.invariant in
    let node = turn (both lent own) deep n0 i x ids there test item in
    let says = turn-says lent own deep n0 i x ids there test item (table_of c.loop-id.copying.lent) (table_of c.loop-id.rows) (ap table_of inv.lent) inv.same (entry_of_row c.in-Some.row) (sym c.in_ok-row.ensures.row ∙ ap (option_map entry_of_row) c.in-Some.is) in
    let some = c.if-deep-eq0.false in
    let enough : deep ≤ deep - 1 + 1 = omega arith in
    let took = took c.loop-id.copying c.row.new.self c.take.new.self c.in_ok-row.ensures.same (c.if-not-take.ensures.taken refl) in
    let is_lent = ap table_of (took.lent ∙ inv.lent) in
    let list1 : c.deref.result.now ≡ roots node.attributes = c.deref.ensures.value ∙ ap (λ (e : Entry). e.attributes) says in
    let next0 = inv.next in
    let next1 = took.next in
    let first1 = took.first ∙ inv.first in
    let end1 = took.end ∙ inv.end in
    let low = c.requires.first in
    let high = c.requires.end in
    let less = c.decreases in
    let read1 = attributes-read lent own deep n0 i x ids there test item (table_of c.take.new.self.lent) (table_of c.loop-id.rows) is_lent inv.same (deep - 1) enough c.deref.result.now list1 in
    let n = c.loop-id.copying.next in
    let made1 = c.in-Some-2.is in
    let ensures1 = c.in_ok-attributes.ensures in
    let kept1 = kept-rest c.take.new.self c.copy_all.new.copying (if-some _ _ _ made1 ensures1.rest) in
    let next2 : c.copy_all.new.copying.next ≡ c.take.new.self.next + size node.attributes = rw read1 at (if-some _ _ _ made1 ensures1.next) in
    let same1 : (j : ℕ) → j < n0 → table_of c.copy_all.new.rows j ≡ own j = λ j l. c.copy_all.ensures.same j (omega arith) ∙ inv.same j l in
    let is_lent2 = ap table_of (kept1.lent ∙ took.lent ∙ inv.lent) in
    let first2 = kept1.first ∙ first1 in
    let end2 = kept1.end ∙ end1 in
    let list2 : c.deref-in-loop-id.result.now ≡ roots node.children = c.deref-in-loop-id.ensures.value ∙ ap (λ (e : Entry). e.children) says in
    let read2 = children-read lent own deep n0 i x ids there test item (table_of c.copy_all.new.copying.lent) (table_of c.copy_all.new.rows) is_lent2 same1 (deep - 1) enough c.deref-in-loop-id.result.now list2 in
    let n1 = c.copy_all.new.copying.next in
    let made2 = c.in-Some-3.is in
    let ensures2 = c.in_ok-children.ensures in
    let kept2 = kept-rest c.copy_all.new.copying c.copy_all-in-loop-id.new.copying (if-some _ _ _ made2 ensures2.rest) in
    let g = table_of c.loop-id.rows in
    let g1 = table_of c.copy_all.new.rows in
    let g2 = table_of c.copy_all-in-loop-id.new.rows in
    let g3 = table_of c.put_copy.new.rows in
    let next3 : c.copy_all-in-loop-id.new.copying.next ≡ n1 + size node.children = rw read2 at (if-some _ _ _ made2 ensures2.next) in
    let copy : c.new-copy.result ≡ n = (let is = c.new-copy.ensures in omega arith) in
    let bytes1 : c.copy_all.new.copying.bytes + bytes_in node.attributes ≡ c.take.new.self.bytes = rw read1 at (if-some _ _ _ made1 ensures1.bytes) in
    let bytes2 : c.copy_all-in-loop-id.new.copying.bytes + bytes_in node.children ≡ c.copy_all.new.copying.bytes = rw read2 at (if-some _ _ _ made2 ensures2.bytes) in
    let text : length c.as_str.result.now ≡ length node.content.text = ap length (c.as_str.ensures ∙ ap (λ (e : Entry). e.text) says) in
    let taken = c.if-not-take.ensures.bytes refl in
    let bytes0 = inv.bytes in
    let was = c.in_ok-row.ensures.same in
    let had : c.row.new.self.bytes ≡ c.loop-id.copying.bytes = ap (λ (x : Copying). x.bytes) was in
    let was_high : c.row.new.self.levels ≡ c.loop-id.copying.levels = ap (λ (x : Copying). x.levels) was in
    let was_next : c.row.new.self.next ≡ n = ap (λ (x : Copying). x.next) was in
    let was_end : c.row.new.self.end ≡ c.loop-id.copying.end = ap (λ (x : Copying). x.end) was in
    let all_bytes = bytes-turned lent own deep n0 i x ids there test item in
    let one_less = c.if-not-take.ensures.levels refl in
    let levels0 = inv.levels in
    let levels1 = kept1.levels in
    let high1 : height node.attributes ≤ c.take.new.self.levels = rw read1 at (if-some _ _ _ made1 ensures1.high) in
    let high2 : height node.children ≤ c.copy_all.new.copying.levels = rw read2 at (if-some _ _ _ made2 ensures2.high) in
    let room = c.if-not-take.ensures.next refl in
    let within1 : n1 ≤ c.take.new.self.end = if-some _ _ _ made1 ensures1.within (omega arith) in
    let within2 : c.copy_all-in-loop-id.new.copying.next ≤ c.copy_all.new.copying.end = if-some _ _ _ made2 ensures2.within (omega arith) in
    let holds1 : Holds g1 (Some n) (renumbered (n + 1) node.attributes) = rw (read1, copy, next1) at (if-some _ _ _ made1 ensures1.copied) in
    let holds2 : Holds g2 (Some n) (renumbered n1 node.children) = rw (read2, copy) at (if-some _ _ _ made2 ensures2.copied) in
    let roots1 : c.in-Some-2.attributes.items ≡ roots (renumbered (n + 1) node.attributes) = rw (read1, next1) at (if-some _ _ _ made1 ensures1.roots) in
    let roots2 : c.in-Some-3.children.items ≡ roots (renumbered n1 node.children) = rw read2 at (if-some _ _ _ made2 ensures2.roots) in
    let says3 = put-says (entry_of_row c.in-Some.row) node.content there.parent c.args.parent _ n _ _ (roots (renumbered (n + 1) node.attributes)) (roots (renumbered n1 node.children)) _ _ says c.as_in_row-has_parent.ensures roots1 roots2 in
    let apart : (j : ℕ) → j ≢ n → g3 j ≡ g2 j = λ j ne. c.put_copy.ensures.same j (λ same. ne (same ∙ copy)) in
    let sets : Sets g2 g3 n (entry_of (record node.content { identity = n }) c.args.parent (roots (renumbered (n + 1) node.attributes)) (roots (renumbered n1 node.children))) = record { here = ap g3 (sym copy) ∙ c.in_ok-put_copy.ensures.put ∙ ap Some says3; apart = apart } in
    let same2 : (j : ℕ) → j < n0 → g2 j ≡ own j = λ j l. c.copy_all-in-loop-id.ensures.same j (omega arith) ∙ same1 j l in
    let us = read_trees deep (both lent own) ids in
    let front = first_trees i us in
    let one = tree node.content node.attributes node.children no_trees in
    let size1 = size-turn (both lent own) deep n0 i x ids there test item in
    let succ : i + 1 ≡ suc i = add-one i in
    let P : Trees → Type 0 = λ ts. Holds g3 c.args.parent (renumbered n0 ts) in
    let copied = Holds-copied g g1 g2 g3 c.args.parent n0 n n1 node.content front node.attributes node.children next0 (omega arith) inv.copied (λ j l. c.copy_all.ensures.same j (omega arith)) holds1 c.copy_all-in-loop-id.ensures.same holds2 sets in
    let listed : roots (renumbered n0 (first_trees (suc i) us)) ≡ roots (renumbered n0 front) ++ n ∷ [] =
    ap (λ ts. roots (renumbered n0 ts)) node.more ∙ ap roots (renumbered-append n0 front one) ∙ roots-append (renumbered n0 front) (renumbered (n0 + size front) one) ∙ ap (λ m. roots (renumbered n0 front) ++ m ∷ []) (sym next0) in
    rw succ
    (record {
      lent = kept2.lent ∙ kept1.lent ∙ took.lent ∙ inv.lent;
      first = kept2.first ∙ first2;
      end = kept2.end ∙ end2;
      levels = was_high ∙ levels0;
      next = omega arith;
      within = λ l. omega arith;
      bytes = omega arith;
      high = height-turned lent own deep n0 i x ids there test item c.args.copying.now.levels inv.high (omega arith) (omega arith);
      copies = c.in_ok-push.ensures ∙ rw (copy, inv.copies) (sym listed);
      copied = subst P (sym node.more) copied;
      same = λ j l. apart j (λ same. absurd (omega arith)) ∙ same2 j l;
      fresh = λ j l. apart j (λ same. absurd (omega arith)) ∙ c.copy_all-in-loop-id.ensures.fresh j l;
      places = c.put_copy.ensures.places ∙ c.copy_all-in-loop-id.ensures.places ∙ c.copy_all.ensures.places ∙ inv.places;
    })

-- at the end all are copied
whole : (t : ℕ) (c : goal.After-loop-id t) → first_trees c.loop-id.id-index (read_trees c.args.deep (both (table_of c.args.copying.now.lent) (table_of c.args.rows.now)) c.args.ids.now) ≡ read_trees c.args.deep (both (table_of c.args.copying.now.lent) (table_of c.args.rows.now)) c.args.ids.now
whole t c =
    let listed = ap length c.requires.there.listed in
    let done = c.loop-id-test.false in
    first-all c.loop-id.id-index (read_trees c.args.deep (both (table_of c.args.copying.now.lent) (table_of c.args.rows.now)) c.args.ids.now) (omega arith)

pub returns-clause-roots : goal.returns-clause-roots
returns-clause-roots t c = rw (whole t c) at c.loop-id.invariant.copies

pub returns-clause-copied : goal.returns-clause-copied
returns-clause-copied t c = rw (whole t c) at c.loop-id.invariant.copied

pub returns-clause-next : goal.returns-clause-next
returns-clause-next t c = rw (whole t c) at c.loop-id.invariant.next

pub returns-clause-bytes : goal.returns-clause-bytes
returns-clause-bytes t c = rw (whole t c) at c.loop-id.invariant.bytes

pub returns-clause-high : goal.returns-clause-high
returns-clause-high t c = rw (whole t c) at c.loop-id.invariant.high

-- a node that is there has a row
pub returns-in_default-clause-roots : goal.returns-in_default-clause-roots
returns-in_default-clause-roots t c = absurd (turn-missing (table_of c.args.copying.now.lent) (table_of c.args.rows.now) c.args.deep c.args.copying.now.next c.loop-id.id-index c.id-item.result c.args.ids.now c.requires.there c.loop-id-test.true c.id-item.is (table_of c.loop-id.copying.lent) (table_of c.loop-id.rows) (ap table_of c.loop-id.invariant.lent) c.loop-id.invariant.same (sym c.in_ok-row.ensures.row ∙ ap (option_map entry_of_row) c.in_default.is))

pub returns-in_default-clause-copied : goal.returns-in_default-clause-copied
returns-in_default-clause-copied t c = absurd (turn-missing (table_of c.args.copying.now.lent) (table_of c.args.rows.now) c.args.deep c.args.copying.now.next c.loop-id.id-index c.id-item.result c.args.ids.now c.requires.there c.loop-id-test.true c.id-item.is (table_of c.loop-id.copying.lent) (table_of c.loop-id.rows) (ap table_of c.loop-id.invariant.lent) c.loop-id.invariant.same (sym c.in_ok-row.ensures.row ∙ ap (option_map entry_of_row) c.in_default.is))

pub returns-in_default-clause-next : goal.returns-in_default-clause-next
returns-in_default-clause-next t c = absurd (turn-missing (table_of c.args.copying.now.lent) (table_of c.args.rows.now) c.args.deep c.args.copying.now.next c.loop-id.id-index c.id-item.result c.args.ids.now c.requires.there c.loop-id-test.true c.id-item.is (table_of c.loop-id.copying.lent) (table_of c.loop-id.rows) (ap table_of c.loop-id.invariant.lent) c.loop-id.invariant.same (sym c.in_ok-row.ensures.row ∙ ap (option_map entry_of_row) c.in_default.is))

pub returns-in_default-clause-bytes : goal.returns-in_default-clause-bytes
returns-in_default-clause-bytes t c = absurd (turn-missing (table_of c.args.copying.now.lent) (table_of c.args.rows.now) c.args.deep c.args.copying.now.next c.loop-id.id-index c.id-item.result c.args.ids.now c.requires.there c.loop-id-test.true c.id-item.is (table_of c.loop-id.copying.lent) (table_of c.loop-id.rows) (ap table_of c.loop-id.invariant.lent) c.loop-id.invariant.same (sym c.in_ok-row.ensures.row ∙ ap (option_map entry_of_row) c.in_default.is))

pub returns-in_default-clause-high : goal.returns-in_default-clause-high
returns-in_default-clause-high t c = absurd (turn-missing (table_of c.args.copying.now.lent) (table_of c.args.rows.now) c.args.deep c.args.copying.now.next c.loop-id.id-index c.id-item.result c.args.ids.now c.requires.there c.loop-id-test.true c.id-item.is (table_of c.loop-id.copying.lent) (table_of c.loop-id.rows) (ap table_of c.loop-id.invariant.lent) c.loop-id.invariant.same (sym c.in_ok-row.ensures.row ∙ ap (option_map entry_of_row) c.in_default.is))
