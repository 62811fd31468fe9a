-- The enum names of files without a fault: they are few, none stands twice, and each is spelled as a name.
use Rattle.std.proofs.Common.{◌≡◌, ℕ, ◌≤◌, nat_lt, Bool, true, false, ◌||◌, if◌then◌else◌, List, [], ◌∷◌, ◌++◌, All, length, refl, sym, ap, ◌∙◌, arith}
use Rattle.std.specs.Str.{bytes_eq}
use Rattle.std.specs.List.{list_any}
use Rattle.std.proofs.Math.Bool.{or-false}
use Rattle.std.proofs.lemmas.List.Folds.{list_any-append}
use Rattle.std.proofs.lemmas.List.Elements.{All-head, All-tail, All-push}
use Rattle.std.proofs.lemmas.Bool.{and_parts, and_from, or_parts, or_from, not-true, not_from_false, false≢true, false_from_ne_true, ltb-false}
use Rattle.std.proofs.lemmas.Slice.Eq.{bytes_eq-Decides}
use Rattle.spec_model.specs.WellMade.{all_differ}
use Rattle.spec_model.specs.Names.{IsName}
use Rattle.spectra_trees.specs.Data.{NameData}
use Rattle.spectra_resolved.specs.Findings.{fault}
use Rattle.spectra_resolved.specs.Enums.{with_names}
use Rattle.spectra_declared.specs.Items.{FiledItem, enum_names_of}
use Rattle.spectra_declared.specs.Declarations.{enums_with, names_past, spot_of_item}
use Rattle.spectra_parser.specs.Shapes.{IsSpelled}
use Rattle.spectra_sound.proofs.Empty.{not_empty}

-- ---- texts

pub eq-self : (a : List ℕ) → bytes_eq a a ≡ true
eq-self a = (bytes_eq-Decides a a).1 refl

pub eq-same : (a b : List ℕ) → bytes_eq a b ≡ true → a ≡ b
eq-same a b = (bytes_eq-Decides a b).0

pub any-push : {X : Type 0} (p : X → Bool) (xs : List X) (y : X) → list_any p (xs ++ y ∷ []) ≡ (list_any p xs || p y)
any-push p xs y = list_any-append p xs (y ∷ []) ∙ ap (λ b. list_any p xs || b) (or-false (p y))

eq-turned : (a b : List ℕ) → bytes_eq a b ≡ false → bytes_eq b a ≡ false
eq-turned a b differ = false_from_ne_true (bytes_eq b a) (λ same. false≢true (sym differ ∙ ap (λ x. bytes_eq a x) (eq-same b a same) ∙ eq-self a))

-- ---- none stands twice

differ_push : (xs : List (List ℕ)) (y : List ℕ) → all_differ bytes_eq xs ≡ true → list_any (bytes_eq y) xs ≡ false → all_differ bytes_eq (xs ++ y ∷ []) ≡ true
differ_push [] y differ new = refl
differ_push (x ∷ xs) y differ new =
    let parts = and_parts _ _ differ in
    let here = or_parts (bytes_eq y x) (list_any (bytes_eq y) xs) new in
    and_from _ _ (not_from_false _ (any-push (bytes_eq x) xs y ∙ or_from _ _ (not-true _ parts.0) (eq-turned y x here.0))) (differ_push xs y parts.1 here.1)

names_differ : (names : List (List ℕ)) (ns : List NameData) → all_differ bytes_eq names ≡ true → all_differ bytes_eq (with_names names ns) ≡ true
names_differ names [] differ = differ
names_differ names (n ∷ ns) differ = names_differ (if list_any (bytes_eq n.text) names then names else names ++ n.text ∷ []) ns (by (list_any (bytes_eq n.text) names) refl)
  where
    by : (b : Bool) → list_any (bytes_eq n.text) names ≡ b → all_differ bytes_eq (if b then names else names ++ n.text ∷ []) ≡ true
    by true is = differ
    by false is = differ_push names n.text differ is

pub enums_differ : (names : List (List ℕ)) (items : List FiledItem) → all_differ bytes_eq names ≡ true → all_differ bytes_eq (enums_with names items) ≡ true
enums_differ names [] differ = differ
enums_differ names (i ∷ items) differ = enums_differ (with_names names (enum_names_of i.1)) items (names_differ names (enum_names_of i.1) differ)

-- ---- they are few

pub few_names : (most : ℕ) (before : List (List ℕ)) (items : List FiledItem) → length before ≤ most → names_past most before items ≡ [] → length (enums_with before items) ≤ most
few_names most before [] few e = few
few_names most before (i ∷ items) few e =
    by (few_names most (with_names before (enum_names_of i.1)) items) (nat_lt most (length (with_names before (enum_names_of i.1)))) refl e
  where
    by : (length (with_names before (enum_names_of i.1)) ≤ most → names_past most (with_names before (enum_names_of i.1)) items ≡ [] → length (enums_with (with_names before (enum_names_of i.1)) items) ≤ most) →
        (b : Bool) → nat_lt most (length (with_names before (enum_names_of i.1))) ≡ b → (if b then fault 18 (spot_of_item i) ∷ [] else names_past most (with_names before (enum_names_of i.1)) items) ≡ [] →
        length (enums_with (with_names before (enum_names_of i.1)) items) ≤ most
    by rest true is e = absurd (not_empty _ _ e)
    by rest false is e = rest (let more = ltb-false most (length (with_names before (enum_names_of i.1))) is in omega (arith, more)) e

-- ---- they are spelled

with_spelled : (names : List (List ℕ)) (ns : List NameData) → All IsName names → All IsSpelled ns → All IsName (with_names names ns)
with_spelled names [] all more = all
with_spelled names (n ∷ ns) all more =
    with_spelled (if list_any (bytes_eq n.text) names then names else names ++ n.text ∷ []) ns (by (list_any (bytes_eq n.text) names)) (All-tail IsSpelled n ns more)
  where
    by : (b : Bool) → All IsName (if b then names else names ++ n.text ∷ [])
    by true = all
    by false = All-push IsName names n.text all (All-head IsSpelled n ns more)

abbrev pub HasSpelledEnums : FiledItem → Type 0
HasSpelledEnums i = All IsSpelled (enum_names_of i.1)

pub enums_spelled : (names : List (List ℕ)) (items : List FiledItem) → All IsName names → All HasSpelledEnums items → All IsName (enums_with names items)
enums_spelled names [] all spelled = all
enums_spelled names (i ∷ items) all spelled =
    enums_spelled (with_names names (enum_names_of i.1)) items (with_spelled names (enum_names_of i.1) all (All-head HasSpelledEnums i items spelled)) (All-tail HasSpelledEnums i items spelled)
