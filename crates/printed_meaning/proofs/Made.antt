-- What meanings make: for each tree a new node, whose tree is that tree but for identities.
use Rattle.std.proofs.Common.{◌≡◌, ℕ, suc, ◌+◌, ◌-◌, ◌≤◌, ◌<◌, List, [], ◌∷◌, ◌++◌, length, Result, Ok, Err, Bool, if◌then◌else◌, refl, ap, ap₂, sym, ◌∙◌, subst, append-nil, append_assoc, ⊎_elim, arith}
use Rattle.std.proofs.lemmas.Bool.{le-leb}
use Rattle.std.proofs.lemmas.List.{length-append}
use Rattle.data_model.specs.Trees.{Trees, no_trees, tree, leaf, Content, append, roots, count}
use Rattle.data_model.proofs.Weights.{append-append, append-none}
use Rattle.fault_codes.specs.declared.code.Code.{Code}
use Rattle.fault_codes.specs.declared.code.Code.TheVariants.{PXQ0002, PXQ0003}
use Rattle.values.specs.declared.atom.Item.{Item}
use Rattle.values.specs.declared.atom.Item.TheVariants as item
use Rattle.query_meaning.specs.Constructors.{with_text}
use Rattle.query_meaning.specs.Environment.{Environment}
use Rattle.query_meaning.specs.Operators.{nodes}
use Rattle.query_meaning.specs.Running.{Run, M, trees_of, and_then, each, joined, most_items}
use Rattle.query_meaning.specs.Sequences.{Meaning, and_items}
use Rattle.printed_meaning.specs.Made.{anonymous, depths, work_of}
use Rattle.printed_meaning.proofs.Copies.{with_text_comes}
use Rattle.printed_meaning.proofs.Forms.{counts}
use Rattle.printed_meaning.proofs.Runs.{after, after_fault, comes, holding, grown, HasRoom, LacksRoom, room_or_not, spent, HasWork, LacksWork, work_or_not, counted_comes, counted_dear, counted_fails, spent_twice, spent_below, trees_grown, IsBelow, AreBetween, none_between, both_between, leaf_between, grown_below, absent, absent_between, StandsAlone, AllStandAlone, there, last_stands, still_stands}

-- A result is one new node, and with it stand new trees; so many identities are taken as its tree's depths add up to, and so much work is done.
pub record Remade (w : ℕ) (c : Content) (bs cs : Trees) (run : Run) (r : Result (List Item × Run) Code) : Type 0 where
  pub stood : Trees
  pub root : Content
  pub attributes : Trees
  pub children : Trees
  pub comes : r ≡ Ok (item.Node root.identity ∷ [], spent (grown run stood (run.shelf.own.next + depths 1 (tree c bs cs no_trees))) w)
  pub between : AreBetween run.shelf.own.next (run.shelf.own.next + depths 1 (tree c bs cs no_trees)) stood
  pub new : run.shelf.own.next ≤ root.identity
  pub stands : StandsAlone (append (trees_of run) stood) root attributes children
  pub alike : anonymous (tree root attributes children no_trees) ≡ anonymous (tree c bs cs no_trees)

-- a meaning makes that tree by so much work wherever there is room and work for it, and nowhere else
pub record MakesBy (w : ℕ) (m : Meaning) (c : Content) (bs cs : Trees) : Type 0 where
  pub made : (env : Environment) (run : Run) → IsBelow run → HasRoom run (depths 1 (tree c bs cs no_trees)) → HasWork run w → Remade w c bs cs run (m env run)
  pub refused : (env : Environment) (run : Run) → IsBelow run → HasRoom run 0 → LacksRoom run (depths 1 (tree c bs cs no_trees)) → HasWork run w → m env run ≡ Err PXQ0003
  pub dear : (env : Environment) (run : Run) → IsBelow run → HasRoom run (depths 1 (tree c bs cs no_trees)) → LacksWork run w → m env run ≡ Err PXQ0002

-- by the tree's work
abbrev pub Makes : Meaning → Content → Trees → Trees → Type 0
Makes m c bs cs = MakesBy (work_of (tree c bs cs no_trees)) m c bs cs

-- counting takes one unit, and one for the node
pub counts_make : (w : ℕ) (m : Meaning) (c : Content) (bs cs : Trees) → MakesBy w m c bs cs → MakesBy (2 + w) (counts m) c bs cs
counts_make w m c bs cs h = record {
  made = λ env run below room work_left. made env run below room work_left;
  refused = λ env run below room lack work_left. counted_fails (m env) run (h.refused env run below room lack (omega (arith, work_left)));
  dear = λ env run below room lack. ⊎_elim (λ lacking. counted_fails (m env) run (h.dear env run below room lacking)) (λ enough. dear env run below room enough lack) (work_or_not run w);
}
  where
    dear : (env : Environment) (run : Run) → IsBelow run → HasRoom run (depths 1 (tree c bs cs no_trees)) → HasWork run w → LacksWork run (2 + w) → counts m env run ≡ Err PXQ0002
    dear env run below room enough lack =
        let one = h.made env run below room enough in
        let last = grown run one.stood (run.shelf.own.next + depths 1 (tree c bs cs no_trees)) in
        counted_dear (m env) (item.Node one.root.identity ∷ []) run (spent last w) one.comes (omega (arith, enough, lack))

    made : (env : Environment) (run : Run) → IsBelow run → HasRoom run (depths 1 (tree c bs cs no_trees)) → HasWork run (2 + w) → Remade (2 + w) c bs cs run (counts m env run)
    made env run below room work_left =
        let one = h.made env run below room (omega (arith, work_left)) in
        let items = item.Node one.root.identity ∷ [] in
        let last = grown run one.stood (run.shelf.own.next + depths 1 (tree c bs cs no_trees)) in
        record {
          stood = one.stood;
          root = one.root;
          attributes = one.attributes;
          children = one.children;
          comes = counted_comes (m env) items run (spent last w) one.comes (omega (arith, work_left)) ∙ spent_twice items last w 2 (2 + w) (omega arith);
          between = one.between;
          new = one.new;
          stands = one.stands;
          alike = one.alike;
        }

-- each meaning makes its tree
abbrev pub AllMake : List Meaning → Trees → Type 0
AllMake [] no_trees = Unit {0}
AllMake [] (tree c bs cs rest) = ⊥
AllMake (m ∷ ms) no_trees = ⊥
AllMake (m ∷ ms) (tree c bs cs rest) = Makes m c bs cs × AllMake ms rest

pub both_make : (ms ns : List Meaning) (ts us : Trees) → AllMake ms ts → AllMake ns us → AllMake (ms ++ ns) (append ts us)
both_make [] ns no_trees us h g = g
both_make [] ns (tree c bs cs rest) us h g = absurd h
both_make (m ∷ ms) ns no_trees us h g = absurd h
both_make (m ∷ ms) ns (tree c bs cs rest) us h g = (h.0, both_make ms ns rest us h.1 g)

-- a node with a text, which takes work before it
pub leaf_remade : (w : ℕ) (c : Content) (run : Run) (r : Result (List Item × Run) Code) → r ≡ with_text c.kind c.name c.text (spent run w) → IsBelow run → HasRoom run 1
    → Remade w c no_trees no_trees run r
leaf_remade w c run r e h room =
    let d : Content = record c { identity = run.shelf.own.next } in
    record {
      stood = leaf d;
      root = d;
      attributes = no_trees;
      children = no_trees;
      comes = e ∙ with_text_comes c.kind c.name c.text (spent run w) room;
      between = leaf_between d;
      new = omega arith;
      stands = last_stands (trees_of run) d no_trees no_trees (absent run h);
      alike = refl;
    }

-- Results after given items: the new nodes, one for each tree.
pub record AllRemade (w : ℕ) (given : List Item) (ts : Trees) (run : Run) (r : Result (List Item × Run) Code) : Type 0 where
  pub stood : Trees
  pub made : Trees
  pub comes : r ≡ Ok (given ++ nodes (roots made), spent (grown run stood (run.shelf.own.next + depths 1 ts)) w)
  pub between : AreBetween run.shelf.own.next (run.shelf.own.next + depths 1 ts) stood
  pub stand : AllStandAlone (append (trees_of run) stood) made
  pub alike : anonymous made ≡ anonymous ts

abbrev Value : Type 0
Value = Result (List Item × Run) Code

abbrev if_few : List Item → Bool → Result (List Item) Code
if_few items b = if b then Ok items else Err PXQ0002

joined_comes : (given items : List Item) (run : Run) → length (given ++ items) ≤ most_items → joined given items run ≡ Ok (given ++ items, run)
joined_comes given items run h = comes run (ap (if_few (given ++ items)) (le-leb (length (given ++ items)) most_items h))

-- runs that grow twice
pub grown_twice : (items : List Item) (run : Run) (us vs : Trees) (n m k : ℕ) (w v u : ℕ) → m ≡ k → w + v ≡ u
    → (let r : Value = Ok (items, spent (grown (spent (grown run us n) w) vs m) v) in r) ≡ Ok (items, spent (grown run (append us vs) k) u)
grown_twice items run us vs n m k w v u e work_e =
    ap₂ (λ ts i. let r : Value = Ok (items, spent (spent (holding run ts i) w) v) in r) (append-append run.shelf.own.trees us vs) e
    ∙ spent_twice items (grown run (append us vs) k) w v u work_e

none_made : (given : List Item) (run : Run) → AllRemade 0 given no_trees run (Ok (given, run))
none_made given run = record {
  stood = no_trees;
  made = no_trees;
  comes =
      ap₂ (λ items k. let r : Value = Ok (items, holding run run.shelf.own.trees k) in r) (sym (append-nil given)) (let e : run.shelf.own.next ≡ run.shelf.own.next + 0 = omega arith in e)
      ∙ ap (λ ts. let r : Value = Ok (given ++ [], holding run ts (run.shelf.own.next + 0)) in r) (sym (append-none run.shelf.own.trees))
      ∙ ap (λ w. let r : Value = Ok (given ++ [], record (grown run no_trees (run.shelf.own.next + 0)) { work = w }) in r) (let e : run.work ≡ run.work - 0 = omega arith in e);
  between = none_between run.shelf.own.next (run.shelf.own.next + 0);
  stand = tt;
  alike = refl;
}

-- one more, before the rest
one_more : (w v : ℕ) (given : List Item) (c : Content) (bs cs rest : Trees) (run : Run) (r : Value) (next : List Item → M (List Item)) → IsBelow run
    → (one : Remade w c bs cs run r) → length given + 1 ≤ most_items
    → ((next_run : Run) → IsBelow next_run → next_run.shelf.own.next ≡ run.shelf.own.next + depths 1 (tree c bs cs no_trees) → next_run.shelf.lent.next ≡ run.shelf.lent.next → next_run.work ≡ run.work - w
    → AllRemade v (given ++ item.Node one.root.identity ∷ []) rest next_run (next (given ++ item.Node one.root.identity ∷ []) next_run))
    → AllRemade (w + v) given (tree c bs cs rest) run (and_then (and_then r (joined given)) next)
one_more w v given c bs cs rest run r next below one few more =
    let n = run.shelf.own.next in
    let d = depths 1 (tree c bs cs no_trees) in
    let i = one.root.identity in
    let next_run = spent (grown run one.stood (n + d)) w in
    let next_below = spent_below (grown run one.stood (n + d)) w (grown_below run one.stood (n + d) (omega arith) below one.between) in
    let others = more next_run next_below refl refl refl in
    let sum : n + d + depths 1 rest ≡ n + depths 1 (tree c bs cs rest) = omega arith in
    let known : i < n + d = next_below.below i (subst (λ ts. 0 < count i ts) (sym (trees_grown run one.stood (n + d))) (there (append (trees_of run) one.stood) one.root one.attributes one.children one.stands)) in
    let grown_trees : append (trees_of next_run) others.stood ≡ append (append (trees_of run) one.stood) others.stood = ap (λ ts. append ts others.stood) (trees_grown run one.stood (n + d)) in
    let together : append (append (trees_of run) one.stood) others.stood ≡ append (trees_of run) (append one.stood others.stood) = append-append (trees_of run) one.stood others.stood in
    let room : length (given ++ item.Node i ∷ []) ≤ most_items = omega (arith, few, length-append given (item.Node i ∷ [])) in
    record {
      stood = append one.stood others.stood;
      made = tree one.root one.attributes one.children others.made;
      comes =
          after next (after (joined given) one.comes ∙ joined_comes given (item.Node i ∷ []) next_run room)
          ∙ others.comes
          ∙ ap (λ items. let r : Value = Ok (items, spent (grown next_run others.stood (n + d + depths 1 rest)) v) in r) (append_assoc given (item.Node i ∷ []) (nodes (roots others.made)))
          ∙ grown_twice (given ++ item.Node i ∷ nodes (roots others.made)) run one.stood others.stood (n + d) (n + d + depths 1 rest) (n + depths 1 (tree c bs cs rest)) w v (w + v) sum refl;
      between = both_between n (n + d) (n + depths 1 (tree c bs cs rest)) one.stood others.stood (omega arith) (omega (arith, sum)) one.between (subst (λ k. AreBetween (n + d) k others.stood) sum others.between);
      stand = (
        subst (λ ts. StandsAlone ts one.root one.attributes one.children) together
            (still_stands (append (trees_of run) one.stood) others.stood one.root one.attributes one.children one.stands (absent_between (n + d) (n + d + depths 1 rest) i others.stood known others.between)),
        subst (λ ts. AllStandAlone ts others.made) (grown_trees ∙ together) others.stand,
      );
      alike = joined_alike one.root one.attributes one.children others.made c bs cs rest one.alike others.alike;
    }
  where
    joined_alike : (d : Content) (es ds us : Trees) (c : Content) (bs cs ts : Trees) → anonymous (tree d es ds no_trees) ≡ anonymous (tree c bs cs no_trees) → anonymous us ≡ anonymous ts → anonymous (tree d es ds us) ≡ anonymous (tree c bs cs ts)
    joined_alike d es ds us c bs cs ts h g =
        sym (split d es ds us) ∙ ap₂ append h g ∙ split c bs cs ts
      where
        split : (c : Content) (bs cs ts : Trees) → append (anonymous (tree c bs cs no_trees)) (anonymous ts) ≡ anonymous (tree c bs cs ts)
        split c bs cs ts = refl

-- the comma's parts, one after the other
pub all_remade : (env : Environment) (j : ℕ) (ms : List Meaning) (ts : Trees) → AllMake ms ts → (given : List Item) (run : Run) → IsBelow run → HasRoom run (depths 1 ts) → HasWork run (work_of ts) → length given + length (roots ts) ≤ most_items
    → AllRemade (work_of ts) given ts run (each (λ _. and_items env) j ms given run)
all_remade env j [] no_trees h given run below room work_left few = none_made given run
all_remade env j [] (tree c bs cs rest) h given run below room work_left few = absurd h
all_remade env j (m ∷ ms) no_trees h given run below room work_left few = absurd h
all_remade env j (m ∷ ms) (tree c bs cs rest) h given run below room work_left few =
    let d = depths 1 (tree c bs cs no_trees) in
    let w = work_of (tree c bs cs no_trees) in
    let sum : d + depths 1 rest ≡ depths 1 (tree c bs cs rest) = omega arith in
    let work_sum : w + work_of rest ≡ work_of (tree c bs cs rest) = omega arith in
    let one = h.0.made env run below (omega (arith, room, sum)) (omega (arith, work_left, work_sum)) in
    let i = one.root.identity in
    subst (λ u. AllRemade u given (tree c bs cs rest) run (each (λ _. and_items env) j (m ∷ ms) given run)) work_sum
    (one_more w (work_of rest) given c bs cs rest run (m env run) (each (λ _. and_items env) (suc j) ms) below one (omega (arith, few))
    (λ next_run next_below next lent left. all_remade env (suc j) ms rest h.1 (given ++ item.Node i ∷ []) next_run next_below
    (omega (arith, room, sum, next, lent)) (omega (arith, work_left, work_sum, left)) (omega (arith, few, length-append given (item.Node i ∷ [])))))

-- up to the part that there is no room for
pub all_refused : (env : Environment) (j : ℕ) (ms : List Meaning) (ts : Trees) → AllMake ms ts → (given : List Item) (run : Run) → IsBelow run → HasRoom run 0 → LacksRoom run (depths 1 ts) → HasWork run (work_of ts)
    → length given + length (roots ts) ≤ most_items → each (λ _. and_items env) j ms given run ≡ Err PXQ0003
all_refused env j [] no_trees h given run below room lack work_left few = absurd (omega (arith, room, lack))
all_refused env j [] (tree c bs cs rest) h given run below room lack work_left few = absurd h
all_refused env j (m ∷ ms) no_trees h given run below room lack work_left few = absurd h
all_refused env j (m ∷ ms) (tree c bs cs rest) h given run below room lack work_left few =
    let n = run.shelf.own.next in
    let d = depths 1 (tree c bs cs no_trees) in
    let w = work_of (tree c bs cs no_trees) in
    let sum : d + depths 1 rest ≡ depths 1 (tree c bs cs rest) = omega arith in
    let work_sum : w + work_of rest ≡ work_of (tree c bs cs rest) = omega arith in
    let first_left : HasWork run w = omega (arith, work_left, work_sum) in
    let others = each (λ _. and_items env) (suc j) ms in
    ⊎_elim (λ lacking. after_fault others (after_fault (joined given) (h.0.refused env run below room lacking first_left)))
    (λ enough. (
    let one = h.0.made env run below enough first_left in
    let items = given ++ item.Node one.root.identity ∷ [] in
    let grown_run = grown run one.stood (n + d) in
    let next_run = spent grown_run w in
    let fit : length items + length (roots rest) ≤ most_items = omega (arith, few, length-append given (item.Node one.root.identity ∷ [])) in
    after others (after (joined given) one.comes ∙ joined_comes given (item.Node one.root.identity ∷ []) next_run (omega (arith, fit)))
    ∙ all_refused env (suc j) ms rest h.1 items next_run (spent_below grown_run w (grown_below run one.stood (n + d) (omega arith) below one.between))
    (omega (arith, enough)) (omega (arith, lack, sum)) (omega (arith, work_left, work_sum)) fit))
    (room_or_not run d)

-- up to the part that there is no work for
pub all_dear : (env : Environment) (j : ℕ) (ms : List Meaning) (ts : Trees) → AllMake ms ts → (given : List Item) (run : Run) → IsBelow run → HasRoom run (depths 1 ts) → LacksWork run (work_of ts)
    → length given + length (roots ts) ≤ most_items → each (λ _. and_items env) j ms given run ≡ Err PXQ0002
all_dear env j [] no_trees h given run below room lack few = absurd (omega (arith, lack))
all_dear env j [] (tree c bs cs rest) h given run below room lack few = absurd h
all_dear env j (m ∷ ms) no_trees h given run below room lack few = absurd h
all_dear env j (m ∷ ms) (tree c bs cs rest) h given run below room lack few =
    let n = run.shelf.own.next in
    let d = depths 1 (tree c bs cs no_trees) in
    let w = work_of (tree c bs cs no_trees) in
    let sum : d + depths 1 rest ≡ depths 1 (tree c bs cs rest) = omega arith in
    let work_sum : w + work_of rest ≡ work_of (tree c bs cs rest) = omega arith in
    let first_room : HasRoom run d = omega (arith, room, sum) in
    let others = each (λ _. and_items env) (suc j) ms in
    ⊎_elim (λ lacking. after_fault others (after_fault (joined given) (h.0.dear env run below first_room lacking)))
    (λ enough. (
    let one = h.0.made env run below first_room enough in
    let items = given ++ item.Node one.root.identity ∷ [] in
    let grown_run = grown run one.stood (n + d) in
    let next_run = spent grown_run w in
    let fit : length items + length (roots rest) ≤ most_items = omega (arith, few, length-append given (item.Node one.root.identity ∷ [])) in
    after others (after (joined given) one.comes ∙ joined_comes given (item.Node one.root.identity ∷ []) next_run (omega (arith, fit)))
    ∙ all_dear env (suc j) ms rest h.1 items next_run (spent_below grown_run w (grown_below run one.stood (n + d) (omega arith) below one.between))
    (omega (arith, room, sum)) (omega (arith, lack, work_sum, enough)) fit))
    (work_or_not run w)
