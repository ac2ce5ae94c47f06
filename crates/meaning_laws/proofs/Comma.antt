-- A sequence within a sequence.
use Rattle.std.proofs.Common.{◌≡◌, ℕ, suc, ◌≤◌, Bool, true, false, nat_le, if◌then◌else◌, List, [], ◌∷◌, ◌++◌, length, Result, Ok, Err, refl, ap, sym, subst, ◌∙◌, arith}
use Rattle.std.proofs.lemmas.Bool.{leb-true, le-leb}
use Rattle.std.proofs.lemmas.List.{append-nil, append_assoc, length-append}
use Rattle.fault_codes.specs.declared.code.Code.{Code}
use Rattle.fault_codes.specs.declared.code.Code.TheVariants.{PXQ0002}
use Rattle.values.specs.declared.atom.Item.{Item}
use Rattle.query_meaning.specs.Running.{Run, M, and_then, ◌>>=◌, come_to, each, joined, within, most_items}
use Rattle.query_meaning.specs.Environment.{Environment}
use Rattle.query_meaning.specs.Sequences.{Meaning, and_items, sequence}
use Rattle.meaning_laws.proofs.Keeps.{Comes, no_value}

-- the same comes of the same values
alike : {A B : Type 0} (f g : A → M B) → ((a : A) (run : Run) → f a run ≡ g a run) → (r : Result (A × Run) Code) → and_then r f ≡ and_then r g
alike f g same (Ok p) = same p.0 p.1
alike f g same (Err e) = refl

regrouped : {A B C : Type 0} (f : A → M B) (g : B → M C) (r : Result (A × Run) Code) → and_then (and_then r f) g ≡ and_then r (λ a. f a >>= g)
regrouped f g (Ok p) = refl
regrouped f g (Err e) = refl

-- Whether items are not too many.

abbrev split : Bool → Type 0
split true = Unit {0}
split false = ⊥

abbrev Fits : List Item → Type 0
Fits items = length items ≤ most_items

judged : List Item → Bool → Result (List Item) Code
judged items b = if b then Ok items else Err PXQ0002

fits : (items : List Item) (b : Bool) → nat_le (length items) most_items ≡ b → Fits items → within items ≡ Ok items
unfolding judged
fits items true e h = ap (judged items) e
fits items false e h = absurd (subst split (sym (le-leb (length items) most_items h) ∙ e) tt)

within_fits : (items : List Item) → Fits items → within items ≡ Ok items
within_fits items = fits items (nat_le (length items) most_items) refl

-- a value, with its run
abbrev Value : Type 0
Value = List Item × Run

abbrev value_of : Value → Result Value Code → Value
value_of p (Ok q) = q
value_of p (Err e) = p

same_value : (p q : Value) → Comes (Ok p) q → p ≡ q
same_value p q h = ap (value_of p) h

-- what is judged to fit goes on
going_on : (items : List Item) (run : Run) (f : List Item → M (List Item)) (p : Value) (b : Bool) → nat_le (length items) most_items ≡ b → Comes (and_then (come_to (within items) run) f) p → Fits items × Comes (f items run) p
unfolding judged
going_on items run f p true e h = (leb-true (length items) most_items e, sym (ap (λ w. and_then (come_to w run) f) (ap (judged items) e)) ∙ h)
going_on items run f p false e h = absurd (no_value PXQ0002 p (sym (ap (λ w. and_then (come_to w run) f) (ap (judged items) e)) ∙ h))

goes_on : (items : List Item) (run : Run) (f : List Item → M (List Item)) (p : Value) → Comes (and_then (come_to (within items) run) f) p → Fits items × Comes (f items run) p
goes_on items run f p h = going_on items run f p (nat_le (length items) most_items) refl h

went_on : (items : List Item) (run : Run) (f : List Item → M (List Item)) → Fits items → and_then (come_to (within items) run) f ≡ f items run
went_on items run f h = ap (λ w. and_then (come_to w run) f) (within_fits items h)

-- the steps of a sequence with one part more
after_part : (r : Result Value Code) (given : List Item) (f : List Item → M (List Item)) (p : Value) → Comes (and_then (and_then r (joined given)) f) p → (q : Value) × (r ≡ Ok q) × Fits (given ++ q.0) × Comes (f (given ++ q.0) q.1) p
after_part (Ok q) given f p h = let g = goes_on (given ++ q.0) q.1 f p h in (q, refl, g.0, g.1)
after_part (Err e) given f p h = absurd (no_value e p h)

to_part : (r : Result Value Code) (q : Value) → r ≡ Ok q → (given : List Item) (f : List Item → M (List Item)) → Fits (given ++ q.0) → and_then (and_then r (joined given)) f ≡ f (given ++ q.0) q.1
to_part r q e given f h = ap (λ x. and_then (and_then x (joined given)) f) e ∙ went_on (given ++ q.0) q.1 f h

module _ (env : Environment) where
  -- what comes of more parts after the items that there are
  abbrev pub rest : ℕ → List Meaning → List Item → M (List Item)
  rest n ms given = each (λ _. and_items env) n ms given

  -- the number of the part does not matter
  any_number : (n k : ℕ) (ms : List Meaning) (given : List Item) (run : Run) → rest n ms given run ≡ rest k ms given run
  any_number n k [] given run = refl
  any_number n k (m ∷ ms) given run = alike (rest (suc n) ms) (rest (suc k) ms) (any_number (suc n) (suc k) ms) (and_items env given m run)

  -- parts after others
  in_two : (n : ℕ) (ls ms : List Meaning) (given : List Item) (run : Run) → rest n (ls ++ ms) given run ≡ and_then (rest n ls given run) (rest n ms)
  in_two n [] ms given run = refl
  in_two n (l ∷ ls) ms given run =
      alike (rest (suc n) (ls ++ ms)) (λ items. rest (suc n) ls items >>= rest n ms)
      (λ items after. in_two (suc n) ls ms items after ∙ alike (rest (suc n) ms) (rest n ms) (any_number (suc n) n ms) (rest (suc n) ls items after))
      (and_items env given l run)
      ∙ sym (regrouped (rest (suc n) ls) (rest n ms) (and_items env given l run))

  -- items only come after those that there are
  grows : (n : ℕ) (ms : List Meaning) (given : List Item) (run : Run) (p : Value) → Comes (rest n ms given run) p → length given ≤ length p.0
  grows n [] given run p h = omega (arith, ap (λ (q : Value). length q.0) (same_value (given, run) p h))
  grows n (m ∷ ms) given run p h =
      let a = after_part (m env run) given (rest (suc n) ms) p h in
      omega (arith, grows (suc n) ms (given ++ a.0.0) a.0.1 p a.3, length-append given a.0.0)

  -- and are never too many
  held : (n : ℕ) (ms : List Meaning) (given : List Item) (run : Run) (p : Value) → Comes (rest n ms given run) p → Fits given → Fits p.0
  held n [] given run p h fit = subst (λ (q : Value). Fits q.0) (same_value (given, run) p h) fit
  held n (m ∷ ms) given run p h fit = let a = after_part (m env run) given (rest (suc n) ms) p h in held (suc n) ms (given ++ a.0.0) a.0.1 p a.3 a.2

  -- what comes after some items comes after more
  fronted : (n : ℕ) (ms : List Meaning) (before given : List Item) (run : Run) (q : Value) → Comes (rest n ms given run) q → Fits (before ++ q.0) → Comes (rest n ms (before ++ given) run) (before ++ q.0, q.1)
  fronted n [] before given run q h fit = ap (λ (v : Value). let r : Result Value Code = Ok (before ++ v.0, v.1) in r) (same_value (given, run) q h)
  fronted n (m ∷ ms) before given run q h fit =
      let a = after_part (m env run) given (rest (suc n) ms) q h in
      let room : Fits ((before ++ given) ++ a.0.0) = omega (arith, fit, grows (suc n) ms (given ++ a.0.0) a.0.1 q a.3, length-append (before ++ given) a.0.0, length-append before given, length-append given a.0.0, length-append before q.0) in
      to_part (m env run) a.0 a.1 (before ++ given) (rest (suc n) ms) room
      ∙ ap (λ items. rest (suc n) ms items a.0.1) (append_assoc before given a.0.0)
      ∙ fronted (suc n) ms before (given ++ a.0.0) a.0.1 q a.3 fit

  -- and what comes after more came after some
  unfronted : (n : ℕ) (ms : List Meaning) (before given : List Item) (run : Run) (p : Value) → Comes (rest n ms (before ++ given) run) p → (q : Value) × Comes (rest n ms given run) q × (p ≡ (before ++ q.0, q.1))
  unfronted n [] before given run p h = ((given, run), refl, sym (same_value (before ++ given, run) p h))
  unfronted n (m ∷ ms) before given run p h =
      let a = after_part (m env run) (before ++ given) (rest (suc n) ms) p h in
      let b = unfronted (suc n) ms before (given ++ a.0.0) a.0.1 p (sym (ap (λ items. rest (suc n) ms items a.0.1) (append_assoc before given a.0.0)) ∙ a.3) in
      let room : Fits (given ++ a.0.0) = omega (arith, a.2, length-append (before ++ given) a.0.0, length-append before given, length-append given a.0.0) in
      (b.0, to_part (m env run) a.0 a.1 given (rest (suc n) ms) room ∙ b.1, b.2)

  -- a result that is some value, or a fault
  flattened : (r : Result Value Code) (ms ns : List Meaning) (given : List Item) (run : Run) (p : Value) → rest 0 ms [] run ≡ r → Comes (and_then (and_then r (joined given)) (rest 1 ns)) p → Comes (and_then (rest 0 ms given run) (rest 0 ns)) p
  flattened r ms ns given run p e h =
      let a = after_part r given (rest 1 ns) p h in
      ap (λ x. and_then x (rest 0 ns)) (ap (λ items. rest 0 ms items run) (sym (append-nil given)) ∙ fronted 0 ms given [] run a.0 (e ∙ a.1) a.2)
      ∙ any_number 0 1 ns (given ++ a.0.0) a.0.1
      ∙ a.3

  nested : (r : Result Value Code) (ms ns : List Meaning) (given : List Item) (run : Run) (p : Value) → rest 0 ms given run ≡ r → Fits given → Comes (and_then r (rest 0 ns)) p → Comes (and_then (and_then (rest 0 ms [] run) (joined given)) (rest 1 ns)) p
  nested (Err e) ms ns given run p is fit h = absurd (no_value e p h)
  nested (Ok k) ms ns given run p is fit h =
      let b = unfronted 0 ms given [] run k (ap (λ items. rest 0 ms items run) (append-nil given) ∙ is) in
      let room : Fits (given ++ b.0.0) = subst (λ (q : Value). Fits q.0) b.2 (held 0 ms given run k is fit) in
      to_part (rest 0 ms [] run) b.0 b.1 given (rest 1 ns) room
      ∙ any_number 1 0 ns (given ++ b.0.0) b.0.1
      ∙ sym (ap (λ (q : Value). rest 0 ns q.0 q.1) b.2)
      ∙ h

  -- after what comes first
  after_first : (f g : List Item → M (List Item)) → ((given : List Item) (run : Run) (p : Value) → Fits given → Comes (f given run) p → Comes (g given run) p)
      → (r : Result Value Code) (p : Value) → ((q : Value) → r ≡ Ok q → Fits q.0) → Comes (and_then r f) p → Comes (and_then r g) p
  after_first f g to (Ok q) p fit h = to q.0 q.1 p (fit q refl) h
  after_first f g to (Err e) p fit h = absurd (no_value e p h)

  abbrev first : List Meaning → Run → Result Value Code
  first ls run = rest 0 ls [] run

  first_fits : (ls : List Meaning) (run : Run) (q : Value) → first ls run ≡ Ok q → Fits q.0
  first_fits ls run q h = held 0 ls [] run q h (omega arith)

  -- a sequence within a sequence
  abbrev within_one : List Meaning → List Meaning → List Item → M (List Item)
  within_one ms ns = rest 0 (sequence ms ∷ ns)

  pub to_flat : (ls ms ns : List Meaning) (run : Run) (p : Value) → Comes (sequence (ls ++ (sequence ms ∷ ns)) env run) p → Comes (sequence (ls ++ (ms ++ ns)) env run) p
  to_flat ls ms ns run p h =
      in_two 0 ls (ms ++ ns) [] run
      ∙ after_first (within_one ms ns) (rest 0 (ms ++ ns)) (λ given run p fit g. in_two 0 ms ns given run ∙ flattened (rest 0 ms [] run) ms ns given run p refl g) (first ls run) p (first_fits ls run)
      (sym (in_two 0 ls (sequence ms ∷ ns) [] run) ∙ h)

  pub to_nested : (ls ms ns : List Meaning) (run : Run) (p : Value) → Comes (sequence (ls ++ (ms ++ ns)) env run) p → Comes (sequence (ls ++ (sequence ms ∷ ns)) env run) p
  to_nested ls ms ns run p h =
      in_two 0 ls (sequence ms ∷ ns) [] run
      ∙ after_first (rest 0 (ms ++ ns)) (within_one ms ns) (λ given run p fit g. nested (rest 0 ms given run) ms ns given run p refl fit (sym (in_two 0 ms ns given run) ∙ g)) (first ls run) p (first_fits ls run)
      (sym (in_two 0 ls (ms ++ ns) [] run) ∙ h)
