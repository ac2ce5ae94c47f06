use Prim.Native.Nat.{suc}
use Rattle.std.proofs.Common.{◌≡◌, ◌∙◌, ◌∷◌, [], ◌+◌, ◌*◌, ◌≤◌, Some, ap, sym, arith, add-one, subst, take}
use Rattle.std.proofs.lemmas.List.{take_all}
use Rattle.data_model.specs.Trees.{Trees, bytes_in, height, roots, size}
use Rattle.data_model.specs.Changes.{renumbered}
use Rattle.data_model.proofs.Weights.{weigh-append}
use Rattle.node_table.specs.Flat.{Holds, both, read_trees}
use Rattle.node_table.specs.Rows.{table_of}
use Rattle.node_table.proofs.Copies.{both-same}
use Rattle.copied_rows.specs.Copies.{read_each}
use Rattle.copied_rows.proofs.Each.{Holds-above, Holds-more, all-there-at, each-turned, read-kept, roots-more, there-kept, units, work-turned}
use Rattle.copied_rows.proofs.Turns.{height-append, if-some, kept-rest}
use Rattle.copied_rows.proofs.grown.add_grown.Goals as goal

pub copy_all-requires-clause-there : goal.copy_all-requires-clause-there
copy_all-requires-clause-there c =
    let lent = table_of c.args.copying.now.lent in
    let own = table_of c.args.rows.now in
    let f = both lent own in
    let n = c.args.node.identity in
    let x = c.id-item.result in
    let inv = c.loop-id.invariant in
    let next = inv.next in
    let is_lent = ap table_of inv.lent in
    let list : c.from_ref-tree.result.now ≡ x ∷ [] = c.from_ref-tree.ensures.value in
    let there = all-there-at f n n c.loop-id.id-index x c.args.ids.now c.requires.there c.loop-id-test.true c.id-item.is in
    rw (is_lent, list, c.number-deep.ensures) (there-kept f (both lent (table_of c.loop-id.rows)) n n (x ∷ []) there (λ j l. both-same lent own (table_of c.loop-id.rows) j (inv.same j (omega arith))) c.loop-id.copying.next (omega arith))

pub loop-id-preserved : goal.loop-id-preserved
loop-id-preserved c =
    let lent = table_of c.args.copying.now.lent in
    let own = table_of c.args.rows.now in
    let f = both lent own in
    let n = c.args.node.identity in
    let x = c.id-item.result in
    let i = c.loop-id.id-index in
    let ids = c.args.ids.now in
    let test = c.loop-id-test.true in
    let item = c.id-item.is in
    let inv = c.loop-id.invariant in
    let next = inv.next in
    let m = c.loop-id.copying.next in
    let is_lent = ap table_of inv.lent in
    let list : c.from_ref-tree.result.now ≡ x ∷ [] = c.from_ref-tree.ensures.value in
    let there = all-there-at f n n i x ids c.requires.there test item in
    let g = table_of c.loop-id.rows in
    let h = table_of c.copy_all.new.rows in
    let us = read_each n f (take i ids) in
    let one = read_trees n f (x ∷ []) in
    let read : read_trees c.number-deep.result (both (table_of c.loop-id.copying.lent) g) c.from_ref-tree.result.now ≡ one = rw (is_lent, list, c.number-deep.ensures) (read-kept f (both lent g) n n (x ∷ []) there (λ j l. both-same lent own g j (inv.same j (omega arith)))) in
    let made = c.in-Some.is in
    let ensures = c.in_ok-copy_all.ensures in
    let kept = kept-rest c.loop-id.copying c.copy_all.new.copying (if-some _ _ _ made ensures.rest) in
    let next1 : c.copy_all.new.copying.next ≡ m + size one = rw read at (if-some _ _ _ made ensures.next) in
    let bytes1 : c.copy_all.new.copying.bytes + bytes_in one ≡ c.loop-id.work * 16 + 15 = rw read at (if-some _ _ _ made ensures.bytes) in
    let high1 : height one ≤ c.loop-id.copying.levels = rw read at (if-some _ _ _ made ensures.high) in
    let end0 = inv.end in
    let within0 = inv.within in
    let levels0 = inv.levels in
    let work0 = inv.work in
    let within1 : c.copy_all.new.copying.next ≤ c.loop-id.copying.end = if-some _ _ _ made ensures.within (omega arith) in
    let holds1 : Holds h (Some n) (renumbered m one) = rw read at (if-some _ _ _ made ensures.copied) in
    let more = each-turned f n i x ids test item in
    let sized = ap size more ∙ weigh-append (λ _. 1) us one in
    let worked = work-turned f n i x ids test item in
    let paid = units c.copy_all.new.copying.bytes (bytes_in one) c.loop-id.work bytes1 in
    let listed : roots one ≡ x ∷ [] = there.listed in
    let P : Trees → Type 0 = λ ts. Holds h (Some n) (renumbered (n + 1) ts) in
    let H : Trees → Type 0 = λ ts. height ts ≤ c.args.copying.now.levels in
    let succ : i + 1 ≡ suc i = add-one i in
    rw succ
    (record {
      lent = kept.lent ∙ inv.lent;
      first = kept.first ∙ inv.first;
      end = kept.end ∙ inv.end;
      levels = kept.levels ∙ inv.levels;
      next = omega arith;
      within = omega arith;
      work = omega arith;
      high = subst H (sym more) (height-append c.args.copying.now.levels us one inv.high (omega arith));
      children = c.in_ok-push.ensures ∙ rw (c.new-copy.ensures, inv.children) (sym (roots-more x (n + 1) m us one next listed)) ∙ ap (λ ts. roots (renumbered (n + 1) ts)) (sym more);
      copied = subst P (sym more) (Holds-more g h (Some n) (n + 1) m us one next inv.copied c.copy_all.ensures.same holds1);
      same = λ j l. c.copy_all.ensures.same j (omega arith) ∙ inv.same j l;
      fresh = c.copy_all.ensures.fresh;
      places = c.copy_all.ensures.places ∙ inv.places;
    })

pub returns-clause-grown : goal.returns-clause-grown
returns-clause-grown c =
    let f = both (table_of c.args.copying.now.lent) (table_of c.args.rows.now) in
    let n = c.args.node.identity in
    let ids = c.args.ids.now in
    let inv = c.loop-id.invariant in
    let all : take c.loop-id.id-index ids ≡ ids = take_all c.loop-id.id-index ids (let done = c.loop-id-test.false in omega arith) in
    let children : c.loop-id.children.items ≡ roots (renumbered (n + 1) (read_each n f ids)) = rw all at inv.children in
    let holds : Holds (table_of c.loop-id.rows) (Some n) (renumbered (n + 1) (read_each n f ids)) = rw all at inv.copied in (
      rw children at c.in_ok-put_node.ensures.put,
      tt,
      Holds-above (table_of c.loop-id.rows) (table_of c.put_node.new.rows) (Some n) (n + 1) (read_each n f ids) (λ j l. c.put_node.ensures.same j (λ same. absurd (omega arith))) holds,
      tt,
    )
