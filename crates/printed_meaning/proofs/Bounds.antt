-- How much work making trees takes at most.
use Rattle.std.proofs.Common.{◌≡◌, ℕ, zero, suc, ◌+◌, ◌*◌, ◌≤◌, Bool, true, false, if◌then◌else◌, nat_le, length, arith}
use Rattle.std.proofs.lemmas.Bool.{and_parts, leb-true}
use Rattle.data_model.specs.Trees.{Trees, no_trees, tree, Content, append, bytes_in, height, is_inner, roots, size}
use Rattle.data_model.specs.Limits.{most_listed, most_height}
use Rattle.query_meaning.specs.Running.{most_nodes, most_work}
use Rattle.values.specs.Work.{text_work}
use Rattle.printed_meaning.specs.Made.{comma_work, content_work, copy_work, depths, have_room, work_of}
use Rattle.printed_meaning.proofs.Depths.{depths_deeper}
use Rattle.printed_meaning.proofs.Tidy.{room_at}

-- Parts.

roots_append : (ts us : Trees) → length (roots (append ts us)) ≡ length (roots ts) + length (roots us)
roots_append no_trees us = omega arith
roots_append (tree c bs cs rest) us = let r = roots_append rest us in omega (arith, r)

bytes_append : (ts us : Trees) → bytes_in (append ts us) ≡ bytes_in ts + bytes_in us
bytes_append no_trees us = omega arith
bytes_append (tree c bs cs rest) us = let r = bytes_append rest us in omega (arith, r)

height_append : (ts us : Trees) → (height ts ≤ height (append ts us)) × (height us ≤ height (append ts us))
height_append no_trees us = (omega arith, omega arith)
height_append (tree c bs cs rest) us = let r = height_append rest us in (omega (arith, r.0), omega (arith, r.1))

comma_few : (ts : Trees) → comma_work ts ≤ 1 + length (roots ts)
comma_few no_trees = omega arith
comma_few (tree c bs cs no_trees) = omega arith
comma_few (tree c bs cs (tree d es ds rest)) = omega arith

copies_few : (ts : Trees) → 16 * copy_work ts ≤ bytes_in ts
copies_few no_trees = omega arith
copies_few (tree c bs cs rest) = let r = copies_few rest in omega (arith, r)

-- a node's content: 48 units for 16 nodes, and the bytes of its own text and of its parts
content_few : (c : Content) (bs cs : Trees) → 16 * content_work c (append bs cs) ≤ 32 + 16 * length (roots (append bs cs)) + length c.text + bytes_in (append bs cs)
content_few c bs cs = of (is_inner c.kind)
  where
    of : (b : Bool) → 16 * (if b then comma_work (append bs cs) + copy_work (append bs cs) else 2 + text_work c.text) ≤ 32 + 16 * length (roots (append bs cs)) + length c.text + bytes_in (append bs cs)
    of true = omega (arith, comma_few (append bs cs), copies_few (append bs cs))
    of false = omega arith

-- Trees of at most h levels: 5 units for each node, of which one is its own in a comma.
work_few : (h : ℕ) (ts : Trees) → height ts ≤ h → 16 * work_of ts + 16 * length (roots ts) ≤ 80 * size ts + h * bytes_in ts
work_few h no_trees low = omega arith
work_few zero (tree c bs cs rest) low = absurd (omega (arith, low))
work_few (suc h) (tree c bs cs rest) low =
    let b = work_few h bs (omega (arith, low)) in
    let d = work_few h cs (omega (arith, low)) in
    let r = work_few (suc h) rest (omega (arith, low)) in
    let own = content_few c bs cs in
    omega (arith, b, d, r, own, roots_append bs cs, bytes_append bs cs)

low_trees : (ts : Trees) → have_room ts ≡ true → height ts ≤ 60
low_trees no_trees h = omega arith
low_trees (tree c bs cs rest) h =
    let at = room_at c bs cs rest h in
    let low = leb-true (height (append bs cs) + 1) most_height (and_parts (nat_le (length (roots (append bs cs))) most_listed) (nat_le (height (append bs cs) + 1) most_height) at.here).1 in
    let inner = height_append bs cs in
    omega (arith, low, inner.0, inner.1, low_trees rest at.others)

pub bound : (t : Trees) → have_room t ≡ true → 16 * work_of t ≤ 80 * size t + 60 * bytes_in t
bound t h = omega (arith, work_few 60 t (low_trees t h))

pub enough : (t : Trees) → have_room t ≡ true → depths 1 t ≤ most_nodes → bytes_in t ≤ 25000000 → work_of t ≤ most_work
unfolding most_nodes most_work
enough t h few short = omega (arith, bound t h, depths_deeper 0 t, few, short)
