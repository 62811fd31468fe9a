-- The variables of the quantifiers of files have places of their own.
use Rattle.std.proofs.Common.{◌≡◌, inl, inr, ℕ, suc, ◌+◌, ◌==◌, Bool, true, false, not, List, [], ◌∷◌, ◌++◌, length, map, flat_map, Option, Some, None, refl, sym, ap, subst, ◌∙◌, arith, append-nil}
use Rattle.std.specs.Prelude.{Contains, All, if◌then◌else◌}
use Rattle.std.specs.List.{list_any}
use Rattle.std.proofs.lemmas.Bool.{and_from}
use Rattle.std.proofs.lemmas.List.{map-append}
use Rattle.std.proofs.lemmas.List.Elements.{All-head, All-tail, All-contains, Contains-append_left, Contains-append_right, Contains-append_cases}
use Rattle.std.proofs.lemmas.Grind.{flat_map-append}
use Rattle.spectra_trees.specs.declared.tree.Place.{Place}
use Rattle.spectra_trees.specs.Data as written
use Rattle.spectra_trees.specs.Data.{NameData, Expression, expression, Expressions, RegexData, Regexes, PartData, PartShape, BodyData, ItemData, TreeData}
use Rattle.spectra_parser.specs.Quantifiers.{IsBefore, AreRising, quantified_in, form_quantified, each_quantified, regex_quantified, each_regex_quantified, definition_quantified, in_definitions, in_lines, shape_quantified, part_quantified, body_quantified, item_quantified, tree_quantified}
use Rattle.spectra_parser.specs.Shapes.{IsShaped}
use Rattle.spectra_resolved.specs.declared.spot.Spot.{Spot}
use Rattle.spectra_resolved.specs.declared.tree.Misuse.TheVariants as misuse
use Rattle.spectra_resolved.specs.declared.table.Named.{Named}
use Rattle.spectra_resolved.specs.declared.table.Named.TheVariants as names
use Rattle.spectra_resolved.specs.Spots.{same_place, spot_at, spot_of, in_text}
use Rattle.spectra_resolved.specs.Looks.{Looking, Names, bound_in}
use Rattle.spectra_resolved.specs.Resolved.{ResolvedTree, tree, Form, ResolvedTrees, listed}
use Rattle.spectra_resolved.specs.Resolving.{read_form, call_form, index_form, resolved, resolved_form, resolved_each}
use Rattle.spectra_resolved.specs.Regexes.{resolved_regex, resolved_regexes}
use Rattle.spectra_resolved.specs.Texts.{ResolvedDefinition, ResolvedLine}
use Rattle.spectra_items.specs.Meanings.{at_large, define_of, definitions_in, monitor_bodies, monitor_line, monitor_lines, body_of, lines_in}
use Rattle.spectra_declared.specs.Items.{FiledItem, items_from}
use Rattle.spectra_declared.specs.Declarations.{names_of}
use Rattle.spectra_declared.specs.Wholes.{text_of}
use Rattle.spectra_lines.specs.Contents.{brackets_in, brackets_of_each, trees_in}
use Rattle.spectra_types.proofs.Placed.{is_apart, form_apart, each_apart, places_in, form_quantifiers, each_places, HasOwnPlaces}
use Rattle.spectra_types.proofs.Places.{place_is}
use Rattle.spectra_types.proofs.Apart.{AreApart, AreDifferent, by_cases, head_in, rest_in, head_or_rest, found_in, within_each, none_any, parts, joined, each_different, two_apart, sorts}

-- ---- expressions with names for what they stand for

abbrev spots : (file : ℕ) → List Place → List Spot
spots file ps = map (spot_at file) ps

two_spots : (file : ℕ) (ps qs : List Place) (vs ws : List Spot) → vs ≡ spots file ps → ws ≡ spots file qs → vs ++ ws ≡ spots file (ps ++ qs)
two_spots file ps qs vs ws first second = (λ i. first i ++ second i) ∙ sym (map-append (spot_at file) ps qs)

read_none : (n : Option Named) → form_quantifiers (read_form n) ≡ []
read_none None = refl
read_none (Some (names.Leaf l)) = refl
read_none (Some (names.Array k m)) = refl
read_none (Some (names.Predicate k m)) = refl
read_none (Some (names.Pattern k m)) = refl
read_none (Some (names.Type k)) = refl
read_none (Some names.Plain) = refl

call_same : (n : Option Named) (ts : ResolvedTrees) → form_quantifiers (call_form n ts) ≡ each_places ts
call_same None ts = refl
call_same (Some (names.Leaf l)) ts = refl
call_same (Some (names.Array k m)) ts = refl
call_same (Some (names.Predicate k arity)) ts = by (length (listed ts) == arity)
  where
    by : (b : Bool) → form_quantifiers (if b then Form.PredicateOf k ts else Form.MisuseOf (misuse.Arity k) ts) ≡ each_places ts
    by true = refl
    by false = refl
call_same (Some (names.Pattern k m)) ts = refl
call_same (Some (names.Type k)) ts = refl
call_same (Some names.Plain) ts = refl

index_same : (n : Option Named) (t : ResolvedTree) → form_quantifiers (index_form n t) ≡ places_in t
index_same None t = append-nil (places_in t)
index_same (Some (names.Leaf l)) t = append-nil (places_in t)
index_same (Some (names.Array k m)) t = refl
index_same (Some (names.Predicate k m)) t = append-nil (places_in t)
index_same (Some (names.Pattern k m)) t = append-nil (places_in t)
index_same (Some (names.Type k)) t = append-nil (places_in t)
index_same (Some names.Plain) t = append-nil (places_in t)

mutual
  tree_places : (look : Looking) (file : ℕ) (e : Expression) → places_in (resolved look file e) ≡ spots file (quantified_in e)
  tree_places look file (expression first at form) = form_places look file first at form

  form_places : (look : Looking) (file : ℕ) (first at : Place) (form : written.Form) → places_in (resolved_form look file (spot_at file first) (in_text (spot_at file at)) form) ≡ spots file (form_quantified form)
  form_places look file first at written.Form.True = refl
  form_places look file first at written.Form.False = refl
  form_places look file first at (written.Form.Number negative digits) = refl
  form_places look file first at (written.Form.Read name) = read_none (look name.text)
  form_places look file first at (written.Form.Call name es) = call_same (look name.text) (resolved_each look file es) ∙ each_place look file es
  form_places look file first at (written.Form.Next e) = tree_places look file e
  form_places look file first at (written.Form.Prefix word e) = tree_places look file e
  form_places look file first at (written.Form.Binary word a b) = two_spots file _ _ _ _ (tree_places look file a) (tree_places look file b)
  form_places look file first at (written.Form.Mod e number digits) = tree_places look file e
  form_places look file first at (written.Form.And es operators) = each_place look file es
  form_places look file first at (written.Form.Or es operators) = each_place look file es
  form_places look file first at (written.Form.Index name e) = index_same (look name.text) (resolved look file e) ∙ tree_places look file e
  form_places look file first at (written.Form.ForAll name low high e) =
      let inside = bound_in look name.text (spot_of file name) in
      ap (λ vs. spot_of file name ∷ vs)
      (two_spots file _ _ _ _ (tree_places look file low) (two_spots file _ _ _ _ (tree_places look file high) (append-nil (places_in (resolved inside file e)) ∙ tree_places inside file e)))
  form_places look file first at (written.Form.Exists name low high e) =
      let inside = bound_in look name.text (spot_of file name) in
      ap (λ vs. spot_of file name ∷ vs)
      (two_spots file _ _ _ _ (tree_places look file low) (two_spots file _ _ _ _ (tree_places look file high) (append-nil (places_in (resolved inside file e)) ∙ tree_places inside file e)))

  each_place : (look : Looking) (file : ℕ) (es : Expressions) → each_places (resolved_each look file es) ≡ spots file (each_quantified es)
  each_place look file Expressions.none = refl
  each_place look file (Expressions.one_more e es) = two_spots file _ _ _ _ (tree_places look file e) (each_place look file es)

abbrev all_places : List ResolvedTree → List Spot
all_places ts = flat_map places_in ts

mutual
  regex_places : (look : Looking) (file : ℕ) (r : RegexData) → all_places (brackets_in (resolved_regex look file r)) ≡ spots file (regex_quantified r)
  regex_places look file (RegexData.Atom e) = append-nil _ ∙ tree_places look file e
  regex_places look file (RegexData.Cat rs) = each_regex_place look file rs
  regex_places look file (RegexData.Alt rs) = each_regex_place look file rs
  regex_places look file (RegexData.Repeat r times) = regex_places look file r

  each_regex_place : (look : Looking) (file : ℕ) (rs : Regexes) → all_places (brackets_of_each (resolved_regexes look file rs)) ≡ spots file (each_regex_quantified rs)
  each_regex_place look file Regexes.none = refl
  each_regex_place look file (Regexes.one_more r rs) =
      flat_map-append places_in (brackets_in (resolved_regex look file r)) (brackets_of_each (resolved_regexes look file rs)) ∙ two_spots file _ _ _ _ (regex_places look file r) (each_regex_place look file rs)

-- ---- items

-- those of several are those of each
several : {A X : Type 0} (file : ℕ) (of : X → List Spot) (made : A → List X) (own : A → List Place) → ((a : A) → flat_map of (made a) ≡ spots file (own a)) → (xs : List A) → flat_map of (flat_map made xs) ≡ spots file (flat_map own xs)
several file of made own each [] = refl
several file of made own each (x ∷ xs) = flat_map-append of (made x) (flat_map made xs) ∙ two_spots file (own x) (flat_map own xs) _ _ (each x) (several file of made own each xs)

abbrev of_definition : ResolvedDefinition → List Spot
of_definition d = places_in d.body

abbrev of_line : ResolvedLine → List Spot
of_line l = all_places (trees_in l.body)

each_define : (look : Looking) (file : ℕ) (ds : List (NameData × Expression)) → flat_map of_definition (map (define_of look file) ds) ≡ spots file (flat_map definition_quantified ds)
each_define look file [] = refl
each_define look file (d ∷ ds) = two_spots file (quantified_in d.1) (flat_map definition_quantified ds) _ _ (tree_places look file d.1) (each_define look file ds)

definition_places : (s : Names) (i : FiledItem) → flat_map of_definition (definitions_in s i.0 i.1) ≡ spots i.0 (in_definitions i.1)
definition_places s (file, ItemData.Define x) = each_define (at_large s) file x.bodies
definition_places s (file, ItemData.Predicate x) = append-nil _ ∙ tree_places _ file x.body
definition_places s (file, ItemData.Variable x) = refl
definition_places s (file, ItemData.Alias x) = refl
definition_places s (file, ItemData.Pattern x) = refl
definition_places s (file, ItemData.Monitor x) = refl
definition_places s (file, ItemData.Statement x) = refl

part_places : (look : Looking) (file : ℕ) (monitor : Place) (p : PartData) → flat_map of_line (monitor_lines look file monitor p) ≡ spots file (part_quantified p)
part_places look file monitor p = by p.form
  where
    by : (f : PartShape) → flat_map of_line (map (monitor_line file monitor p.at) (monitor_bodies look file f)) ≡ spots file (shape_quantified f)
    by (PartShape.Own t n) = refl
    by (PartShape.Initial e) = append-nil _ ∙ (append-nil _ ∙ tree_places look file e)
    by (PartShape.Always e) = append-nil _ ∙ (append-nil _ ∙ tree_places look file e)
    by (PartShape.Recurring e) = append-nil _ ∙ (append-nil _ ∙ tree_places look file e)

each_argument : (look : Looking) (file : ℕ) (es : List Expression) → all_places (map (resolved look file) es) ≡ spots file (flat_map quantified_in es)
each_argument look file [] = refl
each_argument look file (e ∷ es) = two_spots file (quantified_in e) (flat_map quantified_in es) _ _ (tree_places look file e) (each_argument look file es)

body_places : (s : Names) (look : Looking) (file : ℕ) (b : BodyData) → all_places (trees_in (body_of s look file b)) ≡ spots file (body_quantified b)
body_places s look file (BodyData.Initial e) = append-nil _ ∙ tree_places look file e
body_places s look file (BodyData.Always e) = append-nil _ ∙ tree_places look file e
body_places s look file (BodyData.Recurring e) = append-nil _ ∙ tree_places look file e
body_places s look file (BodyData.Trigger at cause effect) =
    flat_map-append places_in (brackets_in (resolved_regex look file cause)) (brackets_in (resolved_regex look file effect)) ∙ two_spots file _ _ _ _ (regex_places look file cause) (regex_places look file effect)
body_places s look file (BodyData.Call n es) = each_argument look file es

line_places : (s : Names) (i : FiledItem) → flat_map of_line (lines_in s i.0 i.1) ≡ spots i.0 (in_lines i.1)
line_places s (file, ItemData.Monitor x) = several file of_line (monitor_lines (at_large s) file x.at) part_quantified (part_places (at_large s) file x.at) x.parts
line_places s (file, ItemData.Statement x) = append-nil _ ∙ body_places s (at_large s) file x.body
line_places s (file, ItemData.Define x) = refl
line_places s (file, ItemData.Predicate x) = refl
line_places s (file, ItemData.Variable x) = refl
line_places s (file, ItemData.Alias x) = refl
line_places s (file, ItemData.Pattern x) = refl

-- ---- places in files

abbrev item_definitions : FiledItem → List Spot
item_definitions i = spots i.0 (in_definitions i.1)

abbrev item_lines : FiledItem → List Spot
item_lines i = spots i.0 (in_lines i.1)

abbrev item_places : FiledItem → List Spot
item_places i = item_definitions i ++ item_lines i

over_items : {X : Type 0} (of : X → List Spot) (made : FiledItem → List X) (own : FiledItem → List Spot) → ((i : FiledItem) → flat_map of (made i) ≡ own i) → (items : List FiledItem) → flat_map of (flat_map made items) ≡ flat_map own items
over_items of made own each [] = refl
over_items of made own each (i ∷ items) = flat_map-append of (made i) (flat_map made items) ∙ (λ k. each i k ++ over_items of made own each items k)

before_differs : (file : ℕ) (p q : Place) → IsBefore p q → same_place (spot_at file p) (spot_at file q) ≡ false
before_differs file p q before = by (same_place (spot_at file p) (spot_at file q)) refl
  where
    never : spot_at file p ≡ spot_at file q → IsBefore p q → ⊥
    never same (inl above) = let line = ap (λ (s : Spot). s.line) same in absurd (omega (arith, above, line))
    never same (inr beside) = let column = ap (λ (s : Spot). s.column) same in let left = beside.1 in absurd (omega (arith, left, column))

    by : (b : Bool) → same_place (spot_at file p) (spot_at file q) ≡ b → b ≡ false
    by true is = absurd (never (place_is (spot_at file p) (spot_at file q) is) before)
    by false is = refl

place_of_spot : (file : ℕ) (ps : List Place) (v : Spot) → Contains (spots file ps) v → (p : Place) × Contains ps p × (spot_at file p ≡ v)
place_of_spot file [] v is = let below = is.1 in absurd (omega (arith, below))
place_of_spot file (p ∷ ps) v is =
    by_cases (λ same. (p, head_in p ps, same)) (λ later. let more = place_of_spot file ps v later in (more.0, rest_in p ps more.0 more.1, more.2)) (head_or_rest (spot_at file p) (spots file ps) v is)

rising_differ : (file : ℕ) (ps : List Place) → AreRising ps → AreDifferent (spots file ps)
rising_differ file [] rising = tt
rising_differ file (p ∷ ps) rising =
    (λ w is. let more = place_of_spot file ps w is in ap (same_place (spot_at file p)) (sym more.2) ∙ before_differs file p more.0 (All-contains (IsBefore p) ps more.0 rising.0 more.1), rising_differ file ps rising.1)

item_spots : (file : ℕ) (items : List ItemData) → flat_map item_places (map (λ i. (file, i)) items) ≡ spots file (flat_map item_quantified items)
item_spots file [] = refl
item_spots file (i ∷ items) = two_spots file (item_quantified i) (flat_map item_quantified items) _ _ (sym (map-append (spot_at file) (in_definitions i) (in_lines i))) (item_spots file items)

abbrev filed : (file : ℕ) → TreeData → List FiledItem
filed file t = map (λ i. (file, i)) t.items

-- those of later files
file_of : (n : ℕ) (trees : List TreeData) (v : Spot) → Contains (flat_map item_places (items_from n trees)) v → (k : ℕ) × (v.file ≡ n + k)
file_of n [] v is = let below = is.1 in absurd (omega (arith, below))
file_of n (t ∷ ts) v is =
    by_cases
    (λ first. let same = ap (λ (s : Spot). s.file) (sym (place_of_spot n (flat_map item_quantified t.items) v (subst (λ vs. Contains vs v) (item_spots n t.items) first)).2) in (0, omega (arith, same)))
    (λ later. let more = file_of (suc n) ts v later in let same = more.1 in (suc more.0, omega (arith, same)))
    (Contains-append_cases (flat_map item_places (filed n t)) (flat_map item_places (items_from (suc n) ts)) v (subst (λ vs. Contains vs v) (flat_map-append item_places (filed n t) (items_from (suc n) ts)) is))

all_differ : (n : ℕ) (trees : List TreeData) → All IsShaped trees → AreDifferent (flat_map item_places (items_from n trees))
all_differ n [] shaped = tt
all_differ n (t ∷ ts) shaped =
    subst AreDifferent (sym (flat_map-append item_places (filed n t) (items_from (suc n) ts)))
    (joined (flat_map item_places (filed n t)) (flat_map item_places (items_from (suc n) ts))
    (subst AreDifferent (sym (item_spots n t.items)) (rising_differ n (tree_quantified t) (All-head IsShaped t ts shaped).quantified)) (all_differ (suc n) ts (All-tail IsShaped t ts shaped)) apart)
  where
    apart : AreApart (flat_map item_places (filed n t)) (flat_map item_places (items_from (suc n) ts))
    apart v w is there = by (same_place v w) refl
      where
        first : v.file ≡ n
        first = ap (λ (s : Spot). s.file) (sym (place_of_spot n (flat_map item_quantified t.items) v (subst (λ vs. Contains vs v) (item_spots n t.items) is)).2)

        by : (b : Bool) → same_place v w ≡ b → b ≡ false
        by true same =
            let later = file_of (suc n) ts w there in
            let second = later.1 in
            let one = ap (λ (s : Spot). s.file) (place_is v w same) in absurd (omega (arith, first, second, one))
        by false same = refl

-- ---- expressions whose places differ

abbrev AreNew : (around places : List Spot) → Type 0
AreNew around places = AreApart around places

left : (around ps qs : List Spot) → AreNew around (ps ++ qs) → AreNew around ps
left around ps qs new v w is there = new v w is (Contains-append_left ps qs w there)

right : (around ps qs : List Spot) → AreNew around (ps ++ qs) → AreNew around qs
right around ps qs new v w is there = new v w is (Contains-append_right ps qs w there)

with_one : (variable : Spot) (around ps : List Spot) → ((w : Spot) → Contains ps w → same_place variable w ≡ false) → AreNew around ps → AreNew (variable ∷ around) ps
with_one variable around ps one new v w is there =
    by_cases (λ same. ap (λ a. same_place a w) (sym same) ∙ one w there) (λ more. new v w more there) (head_or_rest variable around v is)

mutual
  tree_apart : (around : List Spot) (t : ResolvedTree) → AreDifferent (places_in t) → AreNew around (places_in t) → is_apart around t ≡ true
  tree_apart around (tree first at form) different new = form_is around form different new

  form_is : (around : List Spot) (form : Form) → AreDifferent (form_quantifiers form) → AreNew around (form_quantifiers form) → form_apart around form ≡ true
  form_is around (Form.LeafOf l) different new = refl
  form_is around (Form.PredicateOf k ts) different new = each_is around ts different new
  form_is around (Form.MisuseOf m ts) different new = each_is around ts different new
  form_is around (Form.Next t) different new = tree_apart around t different new
  form_is around (Form.Prefix word t) different new = tree_apart around t different new
  form_is around (Form.Binary word a b) different new =
      let both = parts (places_in a) (places_in b) different in
      and_from (is_apart around a) (is_apart around b) (tree_apart around a both.first (left around (places_in a) (places_in b) new)) (tree_apart around b both.second (right around (places_in a) (places_in b) new))
  form_is around (Form.Mod t number_at n) different new = tree_apart around t different new
  form_is around (Form.And ts operators) different new = each_is around ts different new
  form_is around (Form.Or ts operators) different new = each_is around ts different new
  form_is around (Form.Index first n t) different new = tree_apart around t different new
  form_is around (Form.Quantified word variable extent low high ts) different new =
      let a = places_in low in
      let b = places_in high in
      let c = each_places ts in
      let all = parts a (b ++ c) different.1 in
      let rest = parts b c all.second in
      let inside = right around (variable ∷ []) (a ++ (b ++ c)) new in
      let inner = right around a (b ++ c) inside in
      and_from (not (list_any (λ at. same_place at variable) around)) _ (ap not (none_any (λ at. same_place at variable) around (λ v is. new v variable is (head_in variable (a ++ (b ++ c))))))
      (and_from (is_apart around low) _ (tree_apart around low all.first (left around a (b ++ c) inside))
      (and_from (is_apart around high) (each_apart (variable ∷ around) ts) (tree_apart around high rest.first (left around b c inner))
      (each_is (variable ∷ around) ts rest.second
      (with_one variable around c (λ w is. different.0 w (Contains-append_right a (b ++ c) w (Contains-append_right b c w is))) (right around b c inner)))))

  each_is : (around : List Spot) (ts : ResolvedTrees) → AreDifferent (each_places ts) → AreNew around (each_places ts) → each_apart around ts ≡ true
  each_is around ResolvedTrees.none different new = refl
  each_is around (ResolvedTrees.one_more t ts) different new =
      let both = parts (places_in t) (each_places ts) different in
      and_from (is_apart around t) (each_apart around ts) (tree_apart around t both.first (left around (places_in t) (each_places ts) new)) (each_is around ts both.second (right around (places_in t) (each_places ts) new))

-- ---- whole texts

alone : (ps : List Spot) → AreNew [] ps
alone ps v w is = let below = is.1 in absurd (omega (arith, below))

pub own_places : (trees : List TreeData) → All IsShaped trees → HasOwnPlaces (text_of trees)
own_places trees shaped =
    let items = items_from 0 trees in
    let s = names_of items in
    let ds = flat_map (λ (i : FiledItem). definitions_in s i.0 i.1) items in
    let ls = flat_map (λ (i : FiledItem). lines_in s i.0 i.1) items in
    let sorted = sorts item_definitions item_lines items (all_differ 0 trees shaped) in
    let of_ds : flat_map of_definition ds ≡ flat_map item_definitions items = over_items of_definition (λ i. definitions_in s i.0 i.1) item_definitions (definition_places s) items in
    let of_ls : flat_map of_line ls ≡ flat_map item_lines items = over_items of_line (λ i. lines_in s i.0 i.1) item_lines (line_places s) items in
    let ds_differ = subst AreDifferent (sym of_ds) sorted.first in
    let ls_differ = subst AreDifferent (sym of_ls) sorted.second in
    record {
      in_definitions = λ k d there. tree_apart [] d.body (each_different of_definition ds d ds_differ (found_in ds k d there)) (alone (places_in d.body));
      in_lines = λ l in_text t in_line. tree_apart [] t (each_different places_in (trees_in l.body) t (each_different of_line ls l ls_differ in_text) in_line) (alone (places_in t));
      of_definitions = λ j k d e one other unlike. two_apart of_definition ds j k d e ds_differ one other unlike;
      of_lines = λ k d there l in_text t in_line v w in_d in_t.
          sorted.apart v w (subst (λ vs. Contains vs v) of_ds (within_each of_definition ds d v (found_in ds k d there) in_d))
          (subst (λ vs. Contains vs w) of_ls (within_each of_line ls l w in_text (within_each places_in (trees_in l.body) t w in_line in_t)));
    }
