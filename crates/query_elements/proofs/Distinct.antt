-- Distinct names of attributes, by what was met before.
use Rattle.std.proofs.Common.{◌≡◌, ℕ, suc, Bool, true, false, ◌&&◌, ◌||◌, if◌then◌else◌, List, [], ◌∷◌, ◌++◌, length, map, Bor, refl, sym, ap, ◌∙◌, ◌+◌, arith}
use Rattle.std.specs.Prelude.{not, nat_le}
use Rattle.std.specs.List.{list_any}
use Rattle.std.specs.Str.{bytes_eq}
use Rattle.std.proofs.lemmas.Bool.Decides.{nat_tests}
use Rattle.std.proofs.lemmas.Slice.Eq.{bytes_eq-Decides}
use Rattle.data_model.specs.Tidy.{lacks_name, has_distinct_names}
use Rattle.data_model.specs.Tree.{TreeTerm, all_of}
use Rattle.data_model.specs.Trees.{Trees, no_trees, tree, roots, height}
use Rattle.query_meaning.specs.Content.{attributes, is_attribute, has_room}
use Rattle.name_sets.specs.NameSets.{is_among}

-- none of the trees has one of the names
abbrev pub lack_all : List (List ℕ) → Trees → Bool
lack_all names no_trees = true
lack_all names (tree c bs cs rest) = not (is_among c.name names) && lack_all names rest

-- what is left of trees decides, with the names that were met
abbrev pub is_distinct_after : List (List ℕ) → Trees → Bool
is_distinct_after names ts = lack_all names (attributes ts) && has_distinct_names (attributes ts)

turned : (x y : List ℕ) → bytes_eq x y ≡ bytes_eq y x
turned x y = of (bytes_eq x y) refl (bytes_eq y x) refl
  where
    of : (b : Bool) → bytes_eq x y ≡ b → (d : Bool) → bytes_eq y x ≡ d → b ≡ d
    of true e true h = refl
    of false e false h = refl
    of true e false h = let same : y ≡ x = sym ((bytes_eq-Decides x y).0 e) in sym ((bytes_eq-Decides y x).1 same) ∙ h
    of false e true h = let same : x ≡ y = sym ((bytes_eq-Decides y x).0 h) in sym (sym ((bytes_eq-Decides x y).1 same) ∙ e)

-- one name more
lack_more : (old new : List (List ℕ)) (x : List ℕ) → ((y : List ℕ) → is_among y new ≡ bytes_eq y x || is_among y old) → (ts : Trees) → lack_all new ts ≡ lacks_name x ts && lack_all old ts
lack_more old new x h no_trees = refl
lack_more old new x h (tree c bs cs rest) =
    ap (λ b. not b && lack_all new rest) (h c.name ∙ ap (λ b. b || is_among c.name old) (turned c.name x)) ∙ of (bytes_eq x c.name) (is_among c.name old) (lack_all new rest) (lacks_name x rest) (lack_all old rest) (lack_more old new x h rest)
  where
    of : (p q r s t : Bool) → r ≡ s && t → not (p || q) && r ≡ (not p && s) && (not q && t)
    of true q r s t e = refl
    of false true r true t e = refl
    of false true r false t e = refl
    of false false r s t e = e

none_met : (ts : Trees) → lack_all [] ts ≡ true
none_met no_trees = refl
none_met (tree c bs cs rest) = none_met rest

pub begins : (ts : Trees) → is_distinct_after [] ts ≡ has_distinct_names (attributes ts)
begins ts = ap (λ b. b && has_distinct_names (attributes ts)) (none_met (attributes ts))

-- a tree whose name, if it is an attribute, is new
pub goes_on : (old new : List (List ℕ)) (t : TreeTerm) (ts : List TreeTerm) (is_new whole : Bool)
    → is_new ≡ (if is_attribute t.content.kind then not (is_among t.content.name old) else true) → is_new ≡ true
    → ((x : List ℕ) → is_among x new ≡ (if is_attribute t.content.kind then bytes_eq x t.content.name || is_among x old else is_among x old))
    → is_distinct_after old (all_of (t ∷ ts)) ≡ whole → is_distinct_after new (all_of ts) ≡ whole
goes_on old new t ts is_new whole says so more h = of (is_attribute t.content.kind) (sym so ∙ says) more h
  where
    rest : Trees
    rest = attributes (all_of ts)

    same_lack : ((x : List ℕ) → is_among x new ≡ is_among x old) → (us : Trees) → lack_all new us ≡ lack_all old us
    same_lack e no_trees = refl
    same_lack e (tree c bs cs us) = ap (λ b. not b && lack_all new us) (e c.name) ∙ ap (λ b. not (is_among c.name old) && b) (same_lack e us)

    by : (p q r s : Bool) → true ≡ not p → (q && r) && s ≡ (not p && r) && (q && s)
    by true q r s e = cc
    by false true r s e = refl
    by false false true s e = refl
    by false false false s e = refl

    of : (b : Bool) → true ≡ (if b then not (is_among t.content.name old) else true)
        → ((x : List ℕ) → is_among x new ≡ (if b then bytes_eq x t.content.name || is_among x old else is_among x old))
        → lack_all old (if b then tree t.content t.attributes t.children rest else rest) && has_distinct_names (if b then tree t.content t.attributes t.children rest else rest) ≡ whole
        → lack_all new rest && has_distinct_names rest ≡ whole
    of true new_one names h =
        ap (λ b. b && has_distinct_names rest) (lack_more old new t.content.name names rest) ∙ by (is_among t.content.name old) (lacks_name t.content.name rest) (lack_all old rest) (has_distinct_names rest) new_one ∙ h
    of false new_one names h = ap (λ b. b && has_distinct_names rest) (same_lack names rest) ∙ h

-- one that is not
pub stops : (old : List (List ℕ)) (t : TreeTerm) (ts : List TreeTerm) (is_new whole : Bool)
    → is_new ≡ (if is_attribute t.content.kind then not (is_among t.content.name old) else true) → is_new ≡ false → is_distinct_after old (all_of (t ∷ ts)) ≡ whole → false ≡ whole
stops old t ts is_new whole says so h = of (is_attribute t.content.kind) (sym so ∙ says) h
  where
    rest : Trees
    rest = attributes (all_of ts)

    by : (p r s : Bool) → false ≡ not p → (not p && r) && s ≡ false
    by true r s e = refl
    by false r s e = cc

    of : (b : Bool) → false ≡ (if b then not (is_among t.content.name old) else true)
        → lack_all old (if b then tree t.content t.attributes t.children rest else rest) && has_distinct_names (if b then tree t.content t.attributes t.children rest else rest) ≡ whole → false ≡ whole
    of true met h = sym (by (is_among t.content.name old) (lack_all old rest) (lacks_name t.content.name rest && has_distinct_names rest) met) ∙ h
    of false met h = cc

-- a set of names
pub found : (x : List ℕ) (ks : List (Bor (List ℕ))) → list_any (λ k. bytes_eq x k.now) ks ≡ is_among x (map (λ (k : Bor (List ℕ)). k.now) ks)
found x [] = refl
found x (k ∷ ks) = ap (λ b. bytes_eq x k.now || b) (found x ks)

abbrev pub names_of : List (Bor (List ℕ)) → List (List ℕ)
names_of ks = map (λ (k : Bor (List ℕ)). k.now) ks

last_met : (x : List ℕ) (k : Bor (List ℕ)) (ks : List (Bor (List ℕ))) → is_among x (names_of (ks ++ k ∷ [])) ≡ bytes_eq x k.now || is_among x (names_of ks)
last_met x k [] = refl
last_met x k (j ∷ ks) = ap (λ b. bytes_eq x j.now || b) (last_met x k ks) ∙ of (bytes_eq x j.now) (bytes_eq x k.now) (is_among x (names_of ks))
  where
    of : (p q r : Bool) → p || (q || r) ≡ q || (p || r)
    of true true r = refl
    of true false r = refl
    of false q r = refl

pub added : (x : List ℕ) (k : Bor (List ℕ)) (ks : List (Bor (List ℕ))) → is_among x (names_of (if list_any (λ j. bytes_eq k.now j.now) ks then ks else ks ++ k ∷ [])) ≡ bytes_eq x k.now || is_among x (names_of ks)
added x k ks = of (list_any (λ j. bytes_eq k.now j.now) ks) (found k.now ks)
  where
    met : (b : Bool) → bytes_eq x k.now ≡ b → true ≡ is_among k.now (names_of ks) → is_among x (names_of ks) ≡ b || is_among x (names_of ks)
    met true e h = ap (λ y. is_among y (names_of ks)) ((bytes_eq-Decides x k.now).0 e) ∙ sym h
    met false e h = refl

    of : (b : Bool) → b ≡ is_among k.now (names_of ks) → is_among x (names_of (if b then ks else ks ++ k ∷ [])) ≡ bytes_eq x k.now || is_among x (names_of ks)
    of true h = met (bytes_eq x k.now) refl h
    of false h = last_met x k ks

-- how many trees there are
pub width : (ts : List TreeTerm) → length (roots (all_of ts)) ≡ length ts
width [] = refl
width (t ∷ ts) = ap suc (width ts)

-- room below a node
pub room : (ts : List TreeTerm) → has_room (all_of ts) ≡ nat_le (length ts) 10000 && nat_le (height (all_of ts)) 59
room ts = ap (λ n. nat_le n 10000 && nat_le (height (all_of ts) + 1) 60) (width ts) ∙ ap (λ b. nat_le (length ts) 10000 && b) (of (height (all_of ts)))
  where
    of : (n : ℕ) → nat_le (n + 1) 60 ≡ nat_le n 59
    of n = grind (arith, nat_tests)

pub has_none : (ts : List TreeTerm) (b : Bool) → b ≡ nat_le (length ts) 10000 → b ≡ false → b ≡ has_room (all_of ts)
has_none ts b is no_room = no_room ∙ sym (room ts ∙ ap (λ t. t && nat_le (height (all_of ts)) 59) (sym is ∙ no_room))

pub has_some : (ts : List TreeTerm) (b : Bool) → nat_le (length ts) 10000 ≡ true → b ≡ nat_le (height (all_of ts)) 59 → b ≡ has_room (all_of ts)
has_some ts b few is = is ∙ sym (room ts ∙ ap (λ t. t && nat_le (height (all_of ts)) 59) few)
