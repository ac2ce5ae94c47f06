-- Labels that are read upwards, and lists of nodes with their labels.
use Rattle.std.proofs.Common.{◌≡◌, ℕ, ◌+◌, ◌<◌, Bool, true, false, List, [], ◌∷◌, ◌++◌, length, take, drop, get_or, cond, map, filter, reverse, ap, sym, ◌∙◌, arith, append-nil}
use Rattle.std.proofs.lemmas.List.{take_all, drop_all, append_assoc, reverse-append, map_push}
use Rattle.std.proofs.lemmas.List.Elements.{filter_more}
use Rattle.node_table.specs.declared.label.Labelled.{Labelled}

-- ---- numbers that are read from the last to the first
pub read-back : (front xs ys : List ℕ) (x : ℕ) → ys ≡ xs ++ x ∷ [] → (front ++ x ∷ []) ++ reverse xs ≡ front ++ reverse ys
read-back front xs ys x is = append_assoc front (x ∷ []) (reverse xs) ∙ ap (λ l. front ++ l) (sym (reverse-append xs (x ∷ [])) ∙ ap reverse (sym is))

-- a slice that was written over as a whole
pub whole-write : (xs ys : List ℕ) → length ys ≡ length xs → take (length xs) (ys ++ drop (length ys) xs) ≡ ys
whole-write xs ys same = ap (λ l. take (length xs) (ys ++ l)) (drop_all (length ys) xs (omega arith)) ∙ ap (take (length xs)) (append-nil ys) ∙ take_all (length xs) ys (omega arith)

-- ---- a node more, or none
pub one-more : (p : ℕ → Bool) (ids : List ℕ) (i id : ℕ) (xs ys : List Labelled) (x : Labelled) → i < length ids → id ≡ get_or ids i id → ys ≡ xs ++ x ∷ [] → x.node ≡ id → p id ≡ true → map (λ y. y.node) xs ≡ filter p (take i ids)
    → map (λ y. y.node) ys ≡ filter p (take (i + 1) ids)
one-more p ids i id xs ys x in_range is pushed own passes h =
    ap (map (λ y. y.node)) pushed ∙ map_push (λ y. y.node) xs x ∙ ap (λ l. l ++ x.node ∷ []) h ∙ ap (λ j. filter p (take i ids) ++ j ∷ []) own
    ∙ sym (filter_more p ids i id in_range ∙ ap (λ j. filter p (take i ids) ++ cond (p j) (j ∷ []) []) (sym is) ∙ ap (λ b. filter p (take i ids) ++ cond b (id ∷ []) []) passes)

pub none-more : (p : ℕ → Bool) (ids : List ℕ) (i id : ℕ) (ns : List ℕ) → i < length ids → id ≡ get_or ids i id → p id ≡ false → ns ≡ filter p (take i ids) → ns ≡ filter p (take (i + 1) ids)
none-more p ids i id ns in_range is fails h =
    h ∙ sym (filter_more p ids i id in_range ∙ ap (λ j. filter p (take i ids) ++ cond (p j) (j ∷ []) []) (sym is) ∙ ap (λ b. filter p (take i ids) ++ cond b (id ∷ []) []) fails ∙ append-nil (filter p (take i ids)))
