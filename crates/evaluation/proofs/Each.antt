-- Steps that are taken one after the other.
use Rattle.std.proofs.Common.{◌≡◌, ℕ, zero, suc, ◌<◌, ◌≤◌, ◌+◌, List, [], ◌∷◌, length, map, drop, slice_index_or, refl, sym, ap, ◌∙◌, arith, Result, Ok, Err, add-one}
use Rattle.fault_codes.specs.declared.code.Code.{Code}
use Rattle.values.specs.declared.fault.ValueFault.{ValueFault}
use Rattle.values.specs.declared.fault.ValueFault.TheVariants as fault
use Rattle.query_meaning.specs.Running.{M, Run, and_then, ◌>>=◌, each}
use Rattle.evaluation.specs.Gives.{Grows, GivesIn, Fails}

-- what is left of a list from an index on
pub drop_at : {A : Type 0} (xs : List A) (k : ℕ) (d : A) → k < length xs → drop k xs ≡ slice_index_or xs k d ∷ drop (suc k) xs
drop_at [] k d h = absurd (omega (arith, h))
drop_at (x ∷ xs) zero d h = refl
drop_at (x ∷ xs) (suc k) d h = drop_at xs k d (omega (arith, h))

pub drop_all : {A : Type 0} (xs : List A) (k : ℕ) → length xs ≤ k → drop k xs ≡ []
drop_all [] zero h = refl
drop_all [] (suc k) h = refl
drop_all (x ∷ xs) zero h = absurd (omega (arith, h))
drop_all (x ∷ xs) (suc k) h = drop_all xs k (omega (arith, h))

pub drop_item : {A : Type 0} (xs : List A) (k : ℕ) (x : A) → k < length xs → x ≡ slice_index_or xs k x → drop k xs ≡ x ∷ drop (suc k) xs
drop_item xs k x below here = drop_at xs k x below ∙ ap (λ y. y ∷ drop (suc k) xs) (sym here)

-- no node is lost over two parts
pub grows_then : (a b c : Run) → Grows a b → Grows b c → Grows a c
grows_then a b c h k = record { kept = λ i there. k.kept i (h.kept i there) }

pub grows_refl : (a : Run) → Grows a a
grows_refl a = record { kept = λ i there. there }

-- A loop that goes over a list: what is left of the steps comes to what all of them come to
pub record Goes {A S : Type 0} (P : S → Run → Type 0) (f : ℕ → S → A → M S) (xs : List A) (first : S) (start : Run) (k : ℕ) (s : S) (now : Run) : Type 0 where
  pub left : each f k (drop k xs) s now ≡ each f 0 xs first start
  pub grown : Grows start now
  pub fine : P s now

pub begins : {A S : Type 0} (P : S → Run → Type 0) (f : ℕ → S → A → M S) (xs : List A) (s : S) (start : Run) → P s start → Goes P f xs s start 0 s start
begins P f xs s start fine = record { left = refl; grown = grows_refl start; fine = fine }

-- a step
pub goes_on : {A S : Type 0} (P : S → Run → Type 0) (f : ℕ → S → A → M S) (xs : List A) (first : S) (start : Run) (k : ℕ) (s t : S) (now new : Run) (x : A)
    → Goes P f xs first start k s now → k < length xs → x ≡ slice_index_or xs k x → GivesIn P (f k s x) now (Ok t) new → Goes P f xs first start (k + 1) t new
goes_on P f xs first start k s t now new x h below here g = record {
  left = sym (ap (λ ys. each f k ys s now) (drop_item xs k x below here) ∙ ap (λ r. and_then r (each f (suc k) (drop (suc k) xs))) g.0 ∙ ap (λ n. each f n (drop n xs) t new) (sym (add-one k))) ∙ h.left;
  grown = grows_then start now new h.grown g.1.0;
  fine = g.1.1;
}

-- a fault in it is one of all
fault_of : {A S : Type 0} (f : ℕ → S → A → M S) (xs : List A) (first : S) (start : Run) (k : ℕ) (s : S) (now : Run) (x : A) (found : ValueFault)
    → each f k (drop k xs) s now ≡ each f 0 xs first start → k < length xs → x ≡ slice_index_or xs k x → Fails (f k s x now) found → Fails (each f 0 xs first start) found
fault_of f xs first start k s now x fault.Memory left below here g = tt
fault_of f xs first start k s now x (fault.Code code) left below here g =
    sym left ∙ ap (λ ys. each f k ys s now) (drop_item xs k x below here) ∙ ap (λ r. and_then r (each f (suc k) (drop (suc k) xs))) g

pub stops : {A S : Type 0} (P : S → Run → Type 0) (f : ℕ → S → A → M S) (xs : List A) (first : S) (start : Run) (k : ℕ) (s : S) (now new : Run) (x : A) (found : ValueFault)
    → Goes P f xs first start k s now → k < length xs → x ≡ slice_index_or xs k x → GivesIn P (f k s x) now (Err found) new → Fails (each f 0 xs first start) found
stops P f xs first start k s now new x found h below here g = fault_of f xs first start k s now x found h.left below here g

-- the end
pub ends : {A S : Type 0} (P : S → Run → Type 0) (f : ℕ → S → A → M S) (xs : List A) (first : S) (start : Run) (k : ℕ) (s : S) (now : Run)
    → Goes P f xs first start k s now → length xs ≤ k → GivesIn P (each f 0 xs first) start (Ok s) now
ends P f xs first start k s now h past = (sym h.left ∙ ap (λ ys. each f k ys s now) (drop_all xs k past), (h.grown, h.fine))

-- steps over a mapped list
pub each_map : {A B S : Type 0} (f : ℕ → S → B → M S) (g : A → B) (n : ℕ) (xs : List A) (s : S) (run : Run) → each f n (map g xs) s run ≡ each (λ i t a. f i t (g a)) n xs s run
each_map f g n [] s run = refl
each_map f g n (x ∷ xs) s run = over (f n s (g x) run) (each_map f g (suc n) xs)
  where
    over : (r : Result (_ × Run) Code) → ((t : _) (now : Run) → each f (suc n) (map g xs) t now ≡ each (λ i t a. f i t (g a)) (suc n) xs t now)
        → and_then r (each f (suc n) (map g xs)) ≡ and_then r (each (λ i t a. f i t (g a)) (suc n) xs)
    over (Ok p) same = same p.0 p.1
    over (Err code) same = refl

-- the end and a fault of a loop whose list is mapped
pub ends_mapped : {A B S : Type 0} (P : S → Run → Type 0) (f : ℕ → S → B → M S) (h : A → B) (xs : List A) (first : S) (start : Run) (k : ℕ) (s : S) (now : Run)
    → Goes P (λ i t a. f i t (h a)) xs first start k s now → length xs ≤ k → GivesIn P (each f 0 (map h xs) first) start (Ok s) now
ends_mapped P f h xs first start k s now goes past =
    (each_map f h 0 xs first start ∙ sym goes.left ∙ ap (λ ys. each (λ i t a. f i t (h a)) k ys s now) (drop_all xs k past), (goes.grown, goes.fine))

fails_same : {A : Type 0} (r q : Result A Code) (found : ValueFault) → q ≡ r → Fails r found → Fails q found
fails_same r q fault.Memory e h = tt
fails_same r q (fault.Code code) e h = e ∙ h

pub stops_mapped : {A B S : Type 0} (P : S → Run → Type 0) (f : ℕ → S → B → M S) (h : A → B) (xs : List A) (first : S) (start : Run) (k : ℕ) (s : S) (now new : Run) (x : A) (found : ValueFault)
    → Goes P (λ i t a. f i t (h a)) xs first start k s now → k < length xs → x ≡ slice_index_or xs k x → GivesIn P (f k s (h x)) now (Err found) new → Fails (each f 0 (map h xs) first start) found
stops_mapped P f h xs first start k s now new x found goes below here g =
    fails_same _ _ found (each_map f h 0 xs first start) (stops P (λ i t a. f i t (h a)) xs first start k s now new x found goes below here g)

-- one after the other
pub then_gives : {A B : Type 0} (P : A → Run → Type 0) (Q : B → Run → Type 0) (m : M A) (f : A → M B) (old mid new : Run) (a : A) (r : Result B ValueFault)
    → GivesIn P m old (Ok a) mid → GivesIn Q (f a) mid r new → GivesIn Q (m >>= f) old r new
then_gives P Q m f old mid new a (Ok b) g h = (ap (λ o. and_then o f) g.0 ∙ h.0, (grows_then old mid new g.1.0 h.1.0, h.1.1))
then_gives P Q m f old mid new a (Err fault.Memory) g h = tt
then_gives P Q m f old mid new a (Err (fault.Code code)) g h = ap (λ o. and_then o f) g.0 ∙ h
