use Rattle.std.proofs.Common.{◌≤◌, ◌∙◌, refl, arith}
use Rattle.std.specs.Vec.{with_items}
use Rattle.std.proofs.lemmas.List.{with_items_is}
use Rattle.row_pages.specs.Rows.{spare}
use Rattle.node_table.specs.Plans.{all_places}
use Rattle.node_table.proofs.Plans.{places-most}
use Rattle.node_table.proofs.Rows.{rows-table, rows-places}
use Rattle.trees.specs.Drafted.{forest_of}
use Rattle.trees.proofs.Forests.{sound-same, term-same}
use Rattle.trees.proofs.Drafts.{before-is}
use Rattle.trees.proofs.Undone.{undo-sound, undo-before, undo-after}
use Rattle.trees.proofs.draft.Prepared.settle_with_undo.Goals as goal

pub exchange-requires : goal.exchange-requires
exchange-requires c =
    let ps = c.in-Ok.back.items in
    let room : all_places ps ≤ spare c.changes_with_room.new.rows = omega (arith, places-most ps, c.in-Ok.ensures.room) in
    record { room = rw c.deref_mut.ensures.value room }

pub invariant_of-result : goal.invariant_of-result
invariant_of-result c =
    let lent = c.deref_mut.ensures in
    let made = rw lent.value at c.exchange.ensures in
    let plan = with_items_is c.in-Ok.back c.exchange.new.plan (omega (arith, c.exchange.auto.plan, lent.len)) ∙ made.plan in
    undo-sound c.self.inside.parts c.args.self c.self.view_is c.self.invariant.drafted c.in-Ok.back.items c.changes_with_room.new.rows c.exchange.new.rows (with_items c.in-Ok.back c.exchange.new.plan) c.in-Ok.ensures.changes c.changes_with_room.ensures.same made.rows plan c.self.invariant.named c.in-Ok.ensures.room made.spare

pub returns-in-Ok-clause-before : goal.returns-in-Ok-clause-before
returns-in-Ok-clause-before c =
    let lent = c.deref_mut.ensures in
    let made = rw lent.value at c.exchange.ensures in
    let plan = with_items_is c.in-Ok.back c.exchange.new.plan (omega (arith, c.exchange.auto.plan, lent.len)) ∙ made.plan in
    undo-before c.self.inside.parts c.args.self c.self.view_is c.self.invariant.drafted c.in-Ok.back.items c.changes_with_room.new.rows c.exchange.new.rows (with_items c.in-Ok.back c.exchange.new.plan) c.in-Ok.ensures.changes c.changes_with_room.ensures.same made.rows plan

pub returns-in-Ok-clause-after : goal.returns-in-Ok-clause-after
returns-in-Ok-clause-after c =
    let lent = c.deref_mut.ensures in
    let made = rw lent.value at c.exchange.ensures in
    let plan = with_items_is c.in-Ok.back c.exchange.new.plan (omega (arith, c.exchange.auto.plan, lent.len)) ∙ made.plan in
    undo-after c.self.inside.parts c.args.self c.self.view_is c.self.invariant.drafted c.in-Ok.back.items c.changes_with_room.new.rows c.exchange.new.rows (with_items c.in-Ok.back c.exchange.new.plan) c.in-Ok.ensures.changes c.changes_with_room.ensures.same made.rows plan

pub invariant_of-result-in-Err : goal.invariant_of-result-in-Err
invariant_of-result-in-Err c =
    let a = c.self.inside.parts in
    let m = c.changes_with_room.new.rows in
    let same = c.changes_with_room.ensures.same in
    sound-same (forest_of a) (record (forest_of a) { rows = m }) (rows-table a.rows m same) (rows-places a.rows m same) refl refl refl refl c.self.invariant.drafted.before

pub returns-in-Err-clause-refused : goal.returns-in-Err-clause-refused
returns-in-Err-clause-refused c =
    let a = c.self.inside.parts in
    let m = c.changes_with_room.new.rows in
    term-same (forest_of a) (record (forest_of a) { rows = m }) (rows-table a.rows m c.changes_with_room.ensures.same) refl refl ∙ before-is a c.args.self c.self.view_is c.self.invariant.drafted
