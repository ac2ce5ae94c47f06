-- A node with parts among the others.
use Rattle.std.proofs.Common.{◌≡◌, ℕ, zero, suc, ◌+◌, ◌<◌, ◌≤◌, eqb, cond, Bool, true, false, nat_le, if◌then◌else◌, List, [], Option, Some, None, Result, Ok, Err, refl, ap, subst, sym, ◌∙◌, arith}
use Rattle.std.specs.Prelude.{not}
use Rattle.data_model.specs.Tree.{TreeTerm, trees_of_tree}
use Rattle.data_model.specs.Trees.{Trees, no_trees, tree, Content, count}
use Rattle.data_model.specs.declared.node.Kind.{Kind}
use Rattle.node_table.proofs.Ups.{same-ids}
use Rattle.shelves.specs.Shelf.{ShelfTerm, IsShelf}
use Rattle.fault_codes.specs.declared.code.Code.{Code}
use Rattle.fault_codes.specs.declared.code.Code.TheVariants.{PXQ0003}
use Rattle.values.specs.declared.atom.Item.{Item}
use Rattle.values.specs.declared.fault.ValueFault.{ValueFault}
use Rattle.values.specs.declared.fault.ValueFault.TheVariants as fault
use Rattle.query_meaning.specs.Running.{M, Run, and_then, ◌>>=◌, come_to, new_nodes, most_nodes}
use Rattle.query_meaning.specs.Content.{content, without_adjacent_texts, those, is_attribute, attributes, others, unless_fault}
use Rattle.query_meaning.specs.Constructors.{assembled, rooted}
use Rattle.evaluation.specs.Gives.{Any, Fails, Gives, GivesIn, Grows, Says, Stand}
use Rattle.evaluation.proofs.Each.{then_gives}
use Rattle.copied_content.specs.New.{IsNew}
use Rattle.copied_content.proofs.Merging.{few}
use Rattle.copied_content.proofs.Sources.{still_there}
use Rattle.query_elements.specs.declared.assembled.Parent.{Parent}
use Rattle.query_elements.specs.Assembling.{IsBeside, closed, fault_of, kind_of, parts, tree_with}

-- the same of what is equal
gives_same : {A : Type 0} (P : A → Run → Type 0) (m q : M A) (old new : Run) (r : Result A ValueFault) → m old ≡ q old → GivesIn P q old r new → GivesIn P m old r new
gives_same P m q old new (Ok a) e g = (e ∙ g.0, g.1)
gives_same P m q old new (Err fault.Memory) e g = tt
gives_same P m q old new (Err (fault.Code code)) e g = e ∙ g

-- items still stand
pub still_stand : (items : List Item) (old new : Run) → Grows old new → Stand items old → Stand items new
still_stand items old new h stand k d below = still_there _ old new h (stand k d below)

-- content that is merged is new
pub parts_give : (items : List Item) (old new : Run) (us : Trees) (r : Result Trees ValueFault)
    → GivesIn (IsNew old) (content items) old (Ok us) new → Says (without_adjacent_texts us) r → GivesIn (IsNew old) (parts items) old r new
parts_give items old new us (Ok ps) g e = (
  ap (λ o. and_then o (λ vs. come_to (without_adjacent_texts vs))) g.0 ∙ ap (λ o. come_to o new) e,
  (
    g.1.0,
    record {
      lent = g.1.1.lent;
      own = g.1.1.own;
      next = g.1.1.next;
      distinct = λ i. (let n = few us ps e i in let d = g.1.1.distinct i in omega (arith, n, d));
      later = λ i there. g.1.1.later i (let n = few us ps e i in omega (arith, n, there));
      below = λ i there. g.1.1.below i (let n = few us ps e i in omega (arith, n, there));
    },
  ),
)
parts_give items old new us (Err fault.Memory) g e = tt
parts_give items old new us (Err (fault.Code code)) g e = ap (λ o. and_then o (λ vs. come_to (without_adjacent_texts vs))) g.0 ∙ ap (λ o. come_to o new) e

pub parts_fail : (items : List Item) (old : Run) (f : ValueFault) → Fails (content items old) f → Fails (parts items old) f
parts_fail items old fault.Memory e = tt
parts_fail items old (fault.Code code) e = ap (λ o. and_then o (λ vs. come_to (without_adjacent_texts vs))) e

-- one node was taken
abbrev with_next : Run → Run
with_next old = record old { shelf = record old.shelf { own = record old.shelf.own { next = old.shelf.own.next + 1 } } }

record IsTaken (i : ℕ) (old mid : Run) : Type 0 where
  first : i ≡ old.shelf.own.next
  run : mid ≡ with_next old

abbrev Comes : {A : Type 0} → Result A Code → A → Type 0
Comes r a = r ≡ Ok a

same_value : {A : Type 0} (a b : A) → Comes (Ok a) b → a ≡ b
same_value a b e = cc

no_value : {A : Type 0} (code : Code) (a : A) → Comes (Err code) a → ⊥
no_value code a e = cc

taken : (i : ℕ) (old mid : Run) → new_nodes 1 old ≡ Ok (i, mid) → IsTaken i old mid
taken i old mid e = of (nat_le (old.shelf.own.next + 1) (old.shelf.lent.next + most_nodes)) e
  where
    of : (b : Bool) → Comes {A = ℕ × Run} (if b then Ok (old.shelf.own.next, with_next old) else Err PXQ0003) (i, mid) → IsTaken i old mid
    of true e = let same = same_value (old.shelf.own.next, with_next old) (i, mid) e in record { first = ap (λ (q : ℕ × Run). q.0) (sym same); run = ap (λ (q : ℕ × Run). q.1) (sym same) }
    of false e = absurd (no_value PXQ0003 (i, mid) e)

pub beside : (i : ℕ) (old mid late : Run) (us : Trees) (s : ShelfTerm) → s ≡ old.shelf → IsShelf s → new_nodes 1 old ≡ Ok (i, mid) → IsNew mid us late → IsBeside i us late
beside i old mid late us s same facts is new = record {
  distinct = new.distinct;
  later = λ j there. (let l = new.later j there in omega (arith, l, past, t.first));
  below = new.below;
  taken = (let n = new.next in omega (arith, n, past, t.first));
  after = λ j there. (let b = shelf.own.below j (subst (λ ts. 0 < count j ts) (new.own ∙ ap (λ (r : Run). r.shelf.own.trees) t.run) there) in omega (arith, b, t.first));
  lent = (let l = shelf.after.later in let e = ap (λ f. f.next) (new.lent ∙ ap (λ (r : Run). r.shelf.lent) t.run) in omega (arith, l, e, t.first));
}
  where
    t : IsTaken i old mid
    t = taken i old mid is

    shelf : IsShelf old.shelf
    shelf = subst IsShelf same facts

    past : mid.shelf.own.next ≡ old.shelf.own.next + 1
    past = ap (λ (r : Run). r.shelf.own.next) t.run

pub assembled_gives : (p : Parent) (name : List ℕ) (items : List Item) (i : ℕ) (us : Trees) (old mid late new : Run) (r : Result (List Item) ValueFault)
    → GivesIn Any (new_nodes 1) old (Ok i) mid → GivesIn (IsNew mid) (parts items) mid (Ok us) late → Gives (closed p name i us) late r new → Gives (assembled (kind_of p) name (fault_of p) items) old r new
assembled_gives p name items i us old mid late new r g h k =
    then_gives Any Stand (new_nodes 1) (λ j. content items >>= (λ vs. come_to (without_adjacent_texts vs) >>= closed p name j)) old mid new i r g
    (gives_same Stand (content items >>= (λ vs. come_to (without_adjacent_texts vs) >>= closed p name i)) (parts items >>= closed p name i) mid new r (in_turn (content items mid))
    (then_gives (IsNew mid) Stand (parts items) (closed p name i) mid late new us r h k))
  where
    in_turn : (o : Result (Trees × Run) Code) → and_then o (λ vs. come_to (without_adjacent_texts vs) >>= closed p name i) ≡ and_then (and_then o (λ vs. come_to (without_adjacent_texts vs))) (closed p name i)
    in_turn (Ok q) = refl
    in_turn (Err code) = refl

pub assembled_fails : (p : Parent) (name : List ℕ) (items : List Item) (i : ℕ) (old mid : Run) (f : ValueFault)
    → GivesIn Any (new_nodes 1) old (Ok i) mid → Fails (parts items mid) f → Fails (assembled (kind_of p) name (fault_of p) items old) f
assembled_fails p name items i old mid fault.Memory g e = tt
assembled_fails p name items i old mid (fault.Code code) g e =
    ap (λ o. and_then o (λ j. content items >>= (λ vs. come_to (without_adjacent_texts vs) >>= closed p name j))) g.0 ∙ in_turn (content items mid) ∙ ap (λ o. and_then o (closed p name i)) e
  where
    in_turn : (o : Result (Trees × Run) Code) → and_then o (λ vs. come_to (without_adjacent_texts vs) >>= closed p name i) ≡ and_then (and_then o (λ vs. come_to (without_adjacent_texts vs))) (closed p name i)
    in_turn (Ok q) = refl
    in_turn (Err code) = refl

-- the node's tree

two_parts : (i : ℕ) (f : Kind → Bool) (ts : Trees) → count i (those f ts) + count i (those (λ k. not (f k)) ts) ≡ count i ts
two_parts i f no_trees = refl
two_parts i f (tree c bs cs rest) = of (f c.kind) (those f rest) (those (λ k. not (f k)) rest) (two_parts i f rest)
  where
    of : (b : Bool) (us vs : Trees) → count i us + count i vs ≡ count i rest → count i (if b then tree c bs cs us else us) + count i (if not b then tree c bs cs vs else vs) ≡ count i (tree c bs cs rest)
    of true us vs h = omega (arith, h)
    of false us vs h = omega (arith, h)

-- what `stand` asks of it
pub record CanStand (t : Trees) (i : ℕ) (run : Run) : Type 0 where
  pub distinct : (j : ℕ) → count j t ≤ 1
  pub first : (j : ℕ) → 0 < count j t → i ≤ j
  pub below : (j : ℕ) → 0 < count j t → j < run.shelf.own.next
  pub after : (j : ℕ) → 0 < count j run.shelf.own.trees → j < i
  pub lent : run.shelf.lent.next ≤ i

pub can_stand : (p : Parent) (name : List ℕ) (i : ℕ) (us : Trees) (run : Run) → IsBeside i us run → CanStand (tree_with p name i us) i run
can_stand p name i us run h = record { distinct = λ j. distinct j (eqb j i) refl; first = λ j. first j (eqb j i) refl; below = λ j. below j (eqb j i) refl; after = h.after; lent = h.lent }
  where
    distinct : (j : ℕ) (b : Bool) → eqb j i ≡ b → cond b 1 0 + count j (attributes us) + count j (others us) + 0 ≤ 1
    distinct j true e =
        let s = same-ids j i e in let t = two_parts j is_attribute us in
        of (count j us) t (λ there. let l = h.later j there in omega (arith, l, s))
      where
        of : (n : ℕ) → count j (attributes us) + count j (others us) ≡ n → (0 < n → ⊥) → 1 + count j (attributes us) + count j (others us) + 0 ≤ 1
        of zero t none = omega (arith, t)
        of (suc n) t none = absurd (none (omega arith))
    distinct j false e = let t = two_parts j is_attribute us in let d = h.distinct j in omega (arith, t, d)

    first : (j : ℕ) (b : Bool) → eqb j i ≡ b → 0 < cond b 1 0 + count j (attributes us) + count j (others us) + 0 → i ≤ j
    first j true e there = let s = same-ids j i e in omega (arith, s)
    first j false e there = let t = two_parts j is_attribute us in let l = h.later j (omega (arith, t, there)) in omega (arith, l)

    below : (j : ℕ) (b : Bool) → eqb j i ≡ b → 0 < cond b 1 0 + count j (attributes us) + count j (others us) + 0 → j < run.shelf.own.next
    below j true e there = let s = same-ids j i e in let t = h.taken in omega (arith, s, t)
    below j false e there = let t = two_parts j is_attribute us in h.below j (omega (arith, t, there))

-- a tree that stands for these
pub stands_for : (t : TreeTerm) (p : Parent) (name : List ℕ) (i : ℕ) (us : Trees) → trees_of_tree t ≡ tree_with p name i us → t.content.identity ≡ i
stands_for t p name i us e = let same : t.content ≡ record { identity = i; kind = kind_of p; name = name; text = [] } = cc in ap (λ (c : Content). c.identity) same

pub tree_can_stand : (t : TreeTerm) (p : Parent) (name : List ℕ) (i : ℕ) (us : Trees) (run : Run) → trees_of_tree t ≡ tree_with p name i us → IsBeside i us run → CanStand (trees_of_tree t) t.content.identity run
tree_can_stand t p name i us run e h =
    let P : Trees → Type 0 = λ v. CanStand v t.content.identity run in
    let Q : ℕ → Type 0 = λ j. CanStand (tree_with p name i us) j run in
    subst P (sym e) (subst Q (sym (stands_for t p name i us e)) (can_stand p name i us run h))

-- the node with parts that may be its content
abbrev judged : Option Code → Result (Unit {0}) Code
judged o = unless_fault o tt

pub closed_gives : (t : TreeTerm) (p : Parent) (name : List ℕ) (i : ℕ) (us : Trees) (u : Unit {0}) (old new : Run) (r : Result (List Item) ValueFault)
    → judged (fault_of p us) ≡ Ok u → trees_of_tree t ≡ tree_with p name i us → Gives (rooted t.content.identity (trees_of_tree t)) old r new → Gives (closed p name i us) old r new
closed_gives t p name i us u old new r fine e g =
    gives_same Stand (closed p name i us) (rooted t.content.identity (trees_of_tree t)) old new r
    (of (fault_of p us) fine ∙ ap (λ v. rooted i v old) (sym e) ∙ ap (λ j. rooted j (trees_of_tree t) old) (sym (stands_for t p name i us e))) g
  where
    of : (o : Option Code) → judged o ≡ Ok u → and_then (come_to (unless_fault o (tree_with p name i us)) old) (rooted i) ≡ rooted i (tree_with p name i us) old
    of None fine = refl
    of (Some code) fine = cc

pub closed_fails : (p : Parent) (name : List ℕ) (i : ℕ) (us : Trees) (old : Run) (f : ValueFault) → Fails (judged (fault_of p us)) f → Fails (closed p name i us old) f
closed_fails p name i us old fault.Memory e = tt
closed_fails p name i us old (fault.Code code) e = of (fault_of p us) e
  where
    of : (o : Option Code) → judged o ≡ Err code → and_then (come_to (unless_fault o (tree_with p name i us)) old) (rooted i) ≡ Err code
    of None e = cc
    of (Some other) e = let same : other ≡ code = cc in ap Err same
