use Rattle.std.proofs.Common.{◌≡◌, ℕ, ◌+◌, ◌<◌, Option, Some, IfSome, option_map, ap, sym, ◌∙◌, arith, subst, add-one}
use Rattle.std.specs.List.{slice_get}
use Rattle.node_table.specs.Flat.{Table}
use Rattle.data_model.specs.Walks.{held}
use Rattle.node_table.specs.Rows.{table_of}
use Rattle.node_table.specs.Labels.{place_of, lists_in, get_before, HasNumbers, RisesBut}
use Rattle.node_table.proofs.Numbers.{gap-filled, gap-node, listed-there, settled, held-at}
use Rattle.node_table.proofs.order.settle.Goals as goal

pub set_place-requires : goal.set_place-requires
set_place-requires c = listed-there (table_of c.args.rows.now) c.args.parent c.position-at.result c.in-Some.node c.requires.listed (sym c.listed.ensures ∙ c.in-Some.is)

pub returns-in-Some-between-clause-numbered : goal.returns-in-Some-between-clause-numbered
returns-in-Some-between-clause-numbered c =
    let f = table_of c.args.rows.now in
    let w = place_of c.args.rows.now in
    let v = place_of c.set_place.new.rows in
    let p = c.args.parent in
    let at = c.position-at.result in
    let xs = lists_in (f p) in
    let x = c.in-Some.node in
    let P : ℕ → Type 0 = λ n. RisesBut w n xs in
    let gap : RisesBut w at xs = subst P (sym c.position-at.ensures) c.requires.here in
    let read : slice_get xs at ≡ Some x = sym c.listed.ensures ∙ c.in-Some.is in
    let is : x ≡ gap.node = gap-node w at xs gap x read in
    let set = c.set_place.ensures in
    let between = c.in-Some-between.ensures in
    let L : Option ℕ → Type 0 = λ o. IfSome o (λ l. l < c.in-Some-between.place) in
    let H : Option ℕ → Type 0 = λ o. IfSome o (λ h. c.in-Some-between.place < h) in
    let low : L (option_map w (get_before xs at)) = subst L c.place_before-low.ensures between.0 in
    let high : H (option_map w (slice_get xs (at + 1))) = subst H c.place_at.ensures between.1 in
    let now : v gap.node ≡ c.in-Some-between.place = ap v (sym is) ∙ set.here in
    let Q : Table → Type 0 = HasNumbers v in
    subst Q (sym set.same)
    (settled w v f p c.requires.listed (λ i h. set.others i (λ same. (let z : held i xs ≡ held x xs = ap (λ j. held j xs) same in let y = held-at xs at x read in absurd (omega arith)))) c.requires.others
    (gap-filled w v at xs gap (c.requires.listed.once p) (λ i ne. set.others i (λ same. ne (same ∙ is))) (rw now low) (rw (now, ← add-one) high)))

pub returns-in-None-clause-numbered : goal.returns-in-None-clause-numbered
returns-in-None-clause-numbered c =
    let f = table_of c.args.rows.now in
    let w = place_of c.args.rows.now in
    let v = place_of c.renumber.new.rows in
    let Q : Table → Type 0 = HasNumbers v in
    subst Q (sym c.renumber.ensures.same) (settled w v f c.args.parent c.requires.listed c.renumber.ensures.others c.requires.others c.renumber.ensures.rises)
