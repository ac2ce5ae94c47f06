-- Lines, added one after the other.
use Rattle.std.proofs.Common.{◌≡◌, ℕ, ◌+◌, ◌<◌, List, [], ◌∷◌, ◌++◌, length, map, take, drop, get_or, None, refl, ap, sym, ◌∙◌, add-one, append-nil, append_assoc, take-append-drop}
use Rattle.std.proofs.Math.Seq.{take-suc}
use Rattle.std.specs.List.{flat_map, join_with_byte}
use Rattle.values.specs.Limited.{LimitedTerm, added}
use Rattle.values.proofs.Limits.{added-none, added-twice}

-- a line feed and a text
abbrev pub line : List ℕ → List ℕ
line t = 10 ∷ t

joined-lines : (t : List ℕ) (ts : List (List ℕ)) → join_with_byte 10 (t ∷ ts) ≡ t ++ flat_map line ts
joined-lines t [] = sym (append-nil t)
joined-lines t (u ∷ ts) = ap (λ l. t ++ 10 ∷ l) (joined-lines u ts)

-- the texts of items, with a line feed before each
module _ {X : Type 0} (text : X → List ℕ) where
  abbrev pub lines_of : List X → List ℕ
  lines_of xs = flat_map line (map text xs)

  lines-append : (xs ys : List X) → lines_of (xs ++ ys) ≡ lines_of xs ++ lines_of ys
  lines-append [] ys = refl
  lines-append (x ∷ xs) ys = ap (λ l. line (text x) ++ l) (lines-append xs ys) ∙ sym (append_assoc (line (text x)) (lines_of xs) (lines_of ys))

  lines-more : (xs : List X) (i : ℕ) (x : X) → i < length xs → x ≡ get_or xs i x → lines_of (take (i + 1) xs) ≡ lines_of (take i xs) ++ line (text x)
  lines-more xs i x k e = rw (add-one, take-suc xs i x k, ← e) (lines-append (take i xs) (x ∷ []) ∙ ap (λ l. lines_of (take i xs) ++ l) (append-nil (line (text x))))

  -- one item more
  pub one-more : (l before now : LimitedTerm) (first : List ℕ) (xs : List X) (i : ℕ) (x : X) → i < length xs → x ≡ get_or xs i x
      → before ≡ added l (first ++ lines_of (take i xs)) → now ≡ added before (line (text x)) → now ≡ added l (first ++ lines_of (take (i + 1) xs))
  one-more l before now first xs i x k e was is =
      is ∙ ap (λ (b : LimitedTerm). added b (line (text x))) was ∙ added-twice l (first ++ lines_of (take i xs)) (line (text x))
      ∙ ap (added l) (append_assoc first (lines_of (take i xs)) (line (text x)) ∙ ap (λ t. first ++ t) (sym (lines-more xs i x k e)))

  -- all lines, where the first ones are too long already
  pub too-long : (l now : LimitedTerm) (first : List ℕ) (xs : List X) (i : ℕ) → now ≡ added l (first ++ lines_of (take i xs)) → now.text ≡ None
      → now ≡ added l (join_with_byte 10 (first ∷ map text xs))
  too-long l now first xs i is none =
      sym (added-none now (lines_of (drop i xs)) none) ∙ ap (λ (b : LimitedTerm). added b (lines_of (drop i xs))) is ∙ added-twice l (first ++ lines_of (take i xs)) (lines_of (drop i xs))
      ∙ ap (added l) (append_assoc first (lines_of (take i xs)) (lines_of (drop i xs)) ∙ ap (λ t. first ++ t) (sym (lines-append (take i xs) (drop i xs)) ∙ ap lines_of (take-append-drop i xs)) ∙ sym (joined-lines first (map text xs)))

  -- all lines, where all were added
  pub all-lines : (l now : LimitedTerm) (first : List ℕ) (xs : List X) → now ≡ added l (first ++ lines_of xs) → now ≡ added l (join_with_byte 10 (first ∷ map text xs))
  all-lines l now first xs is = is ∙ ap (added l) (sym (joined-lines first (map text xs)))
