-- Distinct names, by what was met before.
use Rattle.std.proofs.Common.{◌≡◌, ℕ, Bool, true, false, ◌&&◌, ◌||◌, List, [], ◌∷◌, refl, sym, ap, ◌∙◌}
use Rattle.std.specs.Prelude.{not}
use Rattle.std.specs.Str.{bytes_eq}
use Rattle.std.proofs.lemmas.Slice.Eq.{bytes_eq-Decides}
use Rattle.data_model.specs.Tidy.{lacks_name, has_distinct_names}
use Rattle.data_model.specs.Trees.{Trees, no_trees, tree, Content}
use Rattle.name_sets.specs.NameSets.{is_among}

-- none of the trees has one of the names
abbrev pub lack_all : List (List ℕ) → Trees → Bool
lack_all names no_trees = true
lack_all names (tree c bs cs rest) = not (is_among c.name names) && lack_all names rest

-- what is left of trees decides, with the names that were met
abbrev pub is_distinct_after : List (List ℕ) → Trees → Bool
is_distinct_after names ts = lack_all names ts && has_distinct_names ts

turned : (x y : List ℕ) → bytes_eq x y ≡ bytes_eq y x
turned x y = of (bytes_eq x y) refl (bytes_eq y x) refl
  where
    of : (b : Bool) → bytes_eq x y ≡ b → (d : Bool) → bytes_eq y x ≡ d → b ≡ d
    of true e true h = refl
    of false e false h = refl
    of true e false h = let same : y ≡ x = sym ((bytes_eq-Decides x y).0 e) in sym ((bytes_eq-Decides y x).1 same) ∙ h
    of false e true h = let same : x ≡ y = sym ((bytes_eq-Decides y x).0 h) in sym (sym ((bytes_eq-Decides x y).1 same) ∙ e)

-- one name more
lack_more : (old new : List (List ℕ)) (x : List ℕ) → ((y : List ℕ) → is_among y new ≡ bytes_eq y x || is_among y old) → (ts : Trees) → lack_all new ts ≡ lacks_name x ts && lack_all old ts
lack_more old new x h no_trees = refl
lack_more old new x h (tree c bs cs rest) =
    ap (λ b. not b && lack_all new rest) (h c.name ∙ ap (λ b. b || is_among c.name old) (turned c.name x)) ∙ of (bytes_eq x c.name) (is_among c.name old) (lack_all new rest) (lacks_name x rest) (lack_all old rest) (lack_more old new x h rest)
  where
    of : (p q r s t : Bool) → r ≡ s && t → not (p || q) && r ≡ (not p && s) && (not q && t)
    of true q r s t e = refl
    of false true r true t e = refl
    of false true r false t e = refl
    of false false r s t e = e

none_met : (ts : Trees) → lack_all [] ts ≡ true
none_met no_trees = refl
none_met (tree c bs cs rest) = none_met rest

pub begins : (ts : Trees) → is_distinct_after [] ts ≡ has_distinct_names ts
begins ts = ap (λ b. b && has_distinct_names ts) (none_met ts)

-- a tree whose name is new
pub goes_on : (old new : List (List ℕ)) (c : Content) (bs cs rest : Trees) (whole : Bool) → not (is_among c.name old) ≡ true → ((x : List ℕ) → is_among x new ≡ bytes_eq x c.name || is_among x old) → is_distinct_after old (tree c bs cs rest) ≡ whole → is_distinct_after new rest ≡ whole
goes_on old new c bs cs rest whole new_one names h =
    ap (λ b. b && has_distinct_names rest) (lack_more old new c.name names rest) ∙ by (is_among c.name old) (lacks_name c.name rest) (lack_all old rest) (has_distinct_names rest) (sym new_one) ∙ h
  where
    by : (p q r s : Bool) → true ≡ not p → (q && r) && s ≡ (not p && r) && (q && s)
    by true q r s e = cc
    by false true r s e = refl
    by false false true s e = refl
    by false false false s e = refl

-- one whose name is not
pub stops : (old : List (List ℕ)) (c : Content) (bs cs rest : Trees) (whole : Bool) → not (is_among c.name old) ≡ false → is_distinct_after old (tree c bs cs rest) ≡ whole → false ≡ whole
stops old c bs cs rest whole met h = sym (by (is_among c.name old) (lack_all old rest) (lacks_name c.name rest && has_distinct_names rest) (sym met)) ∙ h
  where
    by : (p r s : Bool) → false ≡ not p → (not p && r) && s ≡ false
    by true r s e = refl
    by false r s e = cc
