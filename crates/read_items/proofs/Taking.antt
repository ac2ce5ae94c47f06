-- Steps that take turns and work, and the values of items that are texts.
use Rattle.std.proofs.Common.{◌≡◌, ◌∙◌, ℕ, ◌+◌, ◌-◌, nat_le, Bool, true, false, if◌then◌else◌, List, Option, Some, Result, Ok, Err, refl, ap, sym, arith}
use Rattle.std.proofs.lemmas.Bool.Decides.{nat_tests}
use Rattle.data_model.specs.Trees.{Trees}
use Rattle.fault_codes.specs.declared.code.Code.{Code}
use Rattle.fault_codes.specs.declared.code.Code.TheVariants.{PXQ0002}
use Rattle.values.specs.Atoms as values
use Rattle.values.specs.Comparisons.{as_string}
use Rattle.values.specs.LentTexts.{IsLentText}
use Rattle.values.specs.Paid.{nodes_in}
use Rattle.values.specs.Work.{text_of, text_work}
use Rattle.values.specs.declared.atom.Atom.{Atom}
use Rattle.values.specs.declared.atom.Atom.TheVariants.{String, Boolean, Untyped, Integer}
use Rattle.values.specs.declared.atom.Item.{Item}
use Rattle.values.specs.declared.atom.Item.TheVariants as item
use Rattle.values.specs.declared.lent.LentText.{LentText}
use Rattle.query_meaning.specs.Running.{M, Run, and_then, ◌>>=◌, atom as atom_at, come_to, nodes_of, pure, trees_of, turns, work}
use Rattle.read_items.specs.Pairs.{text}
use Rattle.read_items.specs.Texts.{text_paid}

-- ---- values that are texts
pub text_atom : (r : Result Atom Code) (t : List ℕ) → values.◌>>=◌ r (λ a. Ok (as_string a)) ≡ Ok (String t) → (a : Atom) × ((r ≡ Ok a) × (as_string a ≡ String t))
text_atom (Ok a) t h = (a, (refl, cc))
text_atom (Err code) t h = absurd cc

pub text_in : (a : Atom) (t : List ℕ) → as_string a ≡ String t → text_of a ≡ t
text_in (String s) t h = cc
text_in (Untyped s) t h = cc
text_in (Boolean b) t h = absurd cc
text_in (Integer z) t h = absurd cc

text_told : (a : Atom) (t : List ℕ) → as_string a ≡ String t → text (Ok a) ≡ Some t
text_told (String s) t h = let p : s ≡ t = cc in ap Some p
text_told (Untyped s) t h = let p : s ≡ t = cc in ap Some p
text_told (Boolean b) t h = absurd cc
text_told (Integer z) t h = absurd cc

pub text_is : (r : Result Atom Code) (t : List ℕ) → text r ≡ Some t → (a : Atom) × ((r ≡ Ok a) × (as_string a ≡ String t))
text_is (Ok (String s)) t h = let p : s ≡ t = cc in (String s, (refl, ap String p))
text_is (Ok (Untyped s)) t h = let p : s ≡ t = cc in (Untyped s, (refl, ap String p))
text_is (Ok (Boolean b)) t h = absurd cc
text_is (Ok (Integer z)) t h = absurd cc
text_is (Err code) t h = absurd cc

pub its_text : (ts : Trees) (x : Item) (s : LentText) → IsLentText ts x s → text (values.atom_of ts x) ≡ Some s.text.now
its_text ts x s h = let a = text_atom (values.atom_of ts x) s.text.now h.text in ap text a.1.0 ∙ text_told a.0 s.text.now a.1.1

-- ---- steps that take
pub together : {A B C : Type 0} (r : Result (A × Run) Code) (f : A → M B) (g : B → M C) → and_then (and_then r f) g ≡ and_then r (λ a. f a >>= g)
together (Ok p) f g = refl
together (Err code) f g = refl

-- what follows is the same wherever the first step ends
pub then_same : {A B : Type 0} (r : Result (A × Run) Code) (f g : A → M B) → ((a : A) (now : Run) → f a now ≡ g a now) → and_then r f ≡ and_then r g
then_same (Ok p) f g same = same p.0 p.1
then_same (Err code) f g same = refl

-- or with other work left
pub then_same_after : {A : Type 0} (n : ℕ) (f g : M A) (run : Run) → ((left : ℕ) → f (record run { work = left }) ≡ g (record run { work = left })) → and_then (work n run) (λ _. f) ≡ and_then (work n run) (λ _. g)
then_same_after n f g run same = of (nat_le n run.work)
  where
    of : (b : Bool) → and_then (if b then Ok (tt {0}, record run { work = run.work - n }) else Err PXQ0002) (λ _. f) ≡ and_then (if b then Ok (tt {0}, record run { work = run.work - n }) else Err PXQ0002) (λ _. g)
    of true = same (run.work - n)
    of false = refl

pub no_work : (run : Run) → work 0 run ≡ Ok (tt, run)
no_work run = grind (arith, nat_tests)

pub works : (m n : ℕ) (run : Run) → and_then (work m run) (λ _. work n) ≡ work (m + n) run
works m n run = of (nat_le (m + n) run.work) refl
  where
    short : (c : Bool) → nat_le m run.work ≡ c → nat_le (m + n) run.work ≡ false → and_then (work m run) (λ _. work n) ≡ work (m + n) run
    short true p e = let q : nat_le n (run.work - m) ≡ false = grind (arith, nat_tests, p, e) in rw (p, q, e) refl
    short false p e = rw (p, e) refl

    of : (d : Bool) → nat_le (m + n) run.work ≡ d → and_then (work m run) (λ _. work n) ≡ work (m + n) run
    of true e =
        let p : nat_le m run.work ≡ true = grind (arith, nat_tests, e) in
        let q : nat_le n (run.work - m) ≡ true = grind (arith, nat_tests, e) in
        let l : (run.work - m) - n ≡ run.work - (m + n) = omega arith in
        rw (p, q, e, l) refl
    of false e = short (nat_le m run.work) refl e

pub turns_first : (m n : ℕ) (run : Run) → and_then (work m run) (λ _. turns n) ≡ and_then (turns n run) (λ _. work m)
turns_first m n run = of (nat_le m run.work) refl (nat_le n run.turns) refl
  where
    of : (b : Bool) → nat_le m run.work ≡ b → (c : Bool) → nat_le n run.turns ≡ c → and_then (work m run) (λ _. turns n) ≡ and_then (turns n run) (λ _. work m)
    of true p true q = let e : work m (record run { turns = run.turns - n }) ≡ Ok (tt, record run { turns = run.turns - n; work = run.work - m }) = rw p refl in rw (p, q) (sym e)
    of true p false q = rw (p, q) refl
    of false p true q = let e : work m (record run { turns = run.turns - n }) ≡ Err PXQ0002 = rw p refl in rw (p, q) (sym e)
    of false p false q = rw (p, q) refl

-- ---- the value of an item with a text
same_nodes : (x : Item) (run : Run) → nodes_of (trees_of run) x ≡ nodes_in (trees_of run) x
same_nodes (item.Node i) run = refl
same_nodes (item.Atomic a) run = refl

pub atom_paid : (x : Item) (a : Atom) (n u : ℕ) (run : Run) → values.atom_of (trees_of run) x ≡ Ok a → text_work (text_of a) ≡ u → n ≡ nodes_in (trees_of run) x → atom_at x run ≡ and_then (text_paid n u run) (λ _. pure a)
atom_paid x a n u run is units nodes =
    ap (λ r. and_then (work (nodes_of (trees_of run) x) run) (λ _. come_to r >>= (λ a. work (text_work (text_of a)) >>= (λ _. pure a)))) is
    ∙ ap (λ m. and_then (work m run) (λ _. work (text_work (text_of a)) >>= (λ _. pure a))) (same_nodes x run ∙ sym nodes)
    ∙ ap (λ v. and_then (work n run) (λ _. work v >>= (λ _. pure a))) units ∙ sym (together (work n run) (λ _. work u) (λ _. pure a))

pub atom_taken : (x : Item) (a : Atom) (n u : ℕ) (run : Run) → values.atom_of (trees_of run) x ≡ Ok a → text_work (text_of a) ≡ u → n ≡ nodes_in (trees_of run) x → atom_at x run ≡ and_then (work (n + u) run) (λ _. pure a)
atom_taken x a n u run is units nodes = atom_paid x a n u run is units nodes ∙ ap (λ r. and_then r (λ _. pure a)) (works n u run)
