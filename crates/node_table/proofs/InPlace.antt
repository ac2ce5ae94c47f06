-- Values that stand in one text.
use Prim.Native.Nat.{zero, suc}
use Rattle.std.proofs.Common.{◌≡◌, ℕ, ◌+◌, ◌<◌, ◌≤◌, List, [], ◌∷◌, length, get_or, cond, refl, ap, sym, ◌∙◌, arith, append-nil, Some, Bool, true, false}
use Rattle.std.specs.Prelude.{◌==◌}
use Rattle.std.proofs.lemmas.Bool.Decides.{nat_tests}
use Rattle.data_model.specs.Trees.{size, text_of, is_inner, is_text}
use Rattle.data_model.specs.declared.node.Kind.{Kind}
use Rattle.data_model.specs.declared.node.Kind.TheVariants.{Document, Element, Attribute, Text, Comment, Instruction}
use Rattle.node_table.specs.Flat.{Entry, Table, read_trees}
use Rattle.node_table.specs.Plain.{IsLeafText, IsTextBelow}
use Rattle.node_table.specs.declared.plain.TextBelow.{TextBelow}
use Rattle.node_table.proofs.Texts.{size-turn}

-- a text has no texts below it
text-outer : (k : Kind) (xs ys : List ℕ) → is_text k ≡ true → cond (is_inner k) xs (cond (is_text k) ys []) ≡ ys
text-outer Document xs ys h = cc
text-outer Element xs ys h = cc
text-outer Attribute xs ys h = cc
text-outer Text xs ys h = refl
text-outer Comment xs ys h = cc
text-outer Instruction xs ys h = cc

size-none : (n : ℕ) (f : Table) → size (read_trees n f []) ≡ 0
size-none zero f = refl
size-none (suc n) f = refl

-- the tree of one node
pub size-single : (f : Table) (n i : ℕ) (e : Entry) → f i ≡ Some e → size (read_trees (suc n) f (i ∷ [])) ≡ 1 + size (read_trees n f e.attributes) + size (read_trees n f e.children)
size-single f n i e h = (let z = size-turn f (read_trees n f) (i ∷ []) 0 i e (omega arith) refl h in omega (arith, z))

only-text : (n : ℕ) (f : Table) (k : ℕ) (s : List ℕ) → 1 ≤ n → IsLeafText f k s → text_of (read_trees n f (k ∷ [])) ≡ s
only-text zero f k s l h = absurd (omega (arith, l))
only-text (suc n) f k s l h = rw (h.there, text-outer h.entry.kind _ h.entry.text h.kind) (append-nil h.entry.text ∙ h.text)

only-size : (n : ℕ) (f : Table) (k : ℕ) (s : List ℕ) → 1 ≤ n → IsLeafText f k s → 1 ≡ size (read_trees n f (k ∷ []))
only-size zero f k s l h = absurd (omega (arith, l))
only-size (suc n) f k s l h =
    let z = size-single f n k h.entry h.there in
    let a : size (read_trees n f h.entry.attributes) ≡ 0 = ap (λ xs. size (read_trees n f xs)) h.attributes ∙ size-none n f in
    let b : size (read_trees n f h.entry.children) ≡ 0 = ap (λ xs. size (read_trees n f xs)) h.children ∙ size-none n f in
    omega (arith, z, a, b)

one-item : (xs : List ℕ) (x : ℕ) → 1 ≤ length xs → length xs < 2 → x ≡ get_or xs 0 x → xs ≡ x ∷ []
one-item [] x h k e = absurd (omega (arith, h))
one-item (y ∷ []) x h k e = ap (λ z. z ∷ []) (sym e)
one-item (y ∷ z ∷ zs) x h k e = absurd (omega (arith, k))

-- an entry with one child, which is a text
pub text-of-only : (f : Table) (e : Entry) (t : TextBelow) (xs : List ℕ) (k : ℕ) → is_inner e.kind ≡ true → xs ≡ e.children → 1 ≤ length xs → length xs < 2 → k ≡ get_or xs 0 k → t.nodes ≡ 1 → IsLeafText f k t.text.now → IsTextBelow f e t
text-of-only f e t xs k inner is l m at one h =
    let only : e.children ≡ k ∷ [] = sym is ∙ one-item xs k l m at in
    record {
      text = λ n le. rw (inner, only) (sym (only-text n f k t.text.now le h));
      nodes = λ n le. one ∙ only-size n f k t.text.now le h ∙ ap (λ ys. size (read_trees n f ys)) (sym only);
    }

-- a list that was found empty
pub empty-list : (xs ys : List ℕ) (b : Bool) → b ≡ (length xs == 0) → b ≡ true → xs ≡ ys → ys ≡ []
empty-list [] ys b is t e = sym e
empty-list (x ∷ xs) ys b is t e = (let z : (suc (length xs) == 0) ≡ true = sym is ∙ t in let w : (suc (length xs) == 0) ≡ false = grind (arith, nat_tests) in absurd (let u : true ≡ false = sym z ∙ w in cc))

pub plus-one : (n : ℕ) → n + 1 ≡ suc n
plus-one n = omega arith
