-- Name spaces without clashes: variables differ, and a name that an enum declares stands for an enum name.
use Rattle.std.proofs.Common.{◌≡◌, ℕ, Bool, true, false, if◌then◌else◌, List, [], ◌∷◌, ◌++◌, Option, Some, None, option_map, refl, sym, ap, subst, ◌∙◌}
use Rattle.std.specs.Prelude.{find}
use Rattle.std.specs.Str.{bytes_eq}
use Rattle.std.specs.List.{list_any, list_all}
use Rattle.std.specs.Option.{option_or}
use Rattle.std.proofs.lemmas.Bool.{and_parts, and_from, or_from, not_from_false, false_from_ne_true, false≢true}
use Rattle.spec_model.specs.WellMade.{all_differ}
use Rattle.spec_model.proofs.AllStates.{Every}
use Rattle.spectra_resolved.specs.declared.tree.Leaf.TheVariants as leaves
use Rattle.spectra_resolved.specs.declared.table.Named.{Named}
use Rattle.spectra_resolved.specs.declared.table.Named.TheVariants as names
use Rattle.spectra_resolved.specs.Spots.{MentionData}
use Rattle.spectra_resolved.specs.Spaces.{Entry, declared, and_name, clash, clashes_after, clashes, no_names}
use Rattle.spectra_items.specs.Types.{is_enum}
use Rattle.spectra_sound.proofs.Empty.{not_empty, empty_parts}
use Rattle.spectra_sound.proofs.EnumNames.{eq-self, eq-same}

-- ---- look-ups

stays : (look : List ℕ → Option Named) (name : List ℕ) (x y : Named) (text : List ℕ) → look text ≡ Some y → and_name look name x text ≡ Some y
stays look name x y text is = ap (λ o. option_or o (if bytes_eq text name then Some x else None)) is

put_new : (look : List ℕ → Option Named) (name : List ℕ) (x : Named) → look name ≡ None → and_name look name x name ≡ Some x
put_new look name x none = ap (λ o. option_or o (if bytes_eq name name then Some x else None)) none ∙ ap (λ b. if b then Some x else None) (eq-self name)

-- what a look-up finds passes a test that all entries pass
pub found : (p : Named → Bool) (space : List Entry) (text : List ℕ) (x : Named) → list_all (λ (e : Entry). p e.1) space ≡ true → declared space text ≡ Some x → p x ≡ true
found p [] text x all e = absurd (none_some e)
  where
    none_some : None ≡ Some x → ⊥
    none_some e = cc
found p (d ∷ ds) text x all e = by (bytes_eq text d.0.text) refl (λ all e. found p ds text x all e)
  where
    here : Some d.1 ≡ Some x → d.1 ≡ x
    here e = cc

    by : (b : Bool) → bytes_eq text d.0.text ≡ b → (list_all (λ (e : Entry). p e.1) ds ≡ true → declared ds text ≡ Some x → p x ≡ true) → p x ≡ true
    by true is rest = subst (λ y. p y ≡ true) (here (sym (ap (λ b. option_map (λ (d : Entry). d.1) (if b then Some d else find (λ (d : Entry). bytes_eq text d.0.text) ds)) is) ∙ e)) (and_parts _ _ all).0
    by false is rest = rest (and_parts (p d.1) _ all).1 (sym (ap (λ b. option_map (λ (d : Entry). d.1) (if b then Some d else find (λ (d : Entry). bytes_eq text d.0.text) ds)) is) ∙ e)

-- ---- variables

abbrev pub variable_texts : List Entry → List (List ℕ)
variable_texts [] = []
variable_texts ((n, names.Leaf (leaves.Variable k)) ∷ ds) = n.text ∷ variable_texts ds
variable_texts ((n, names.Array k size) ∷ ds) = n.text ∷ variable_texts ds
variable_texts (_ ∷ ds) = variable_texts ds

abbrev pub is_variable : Named → Bool
is_variable (names.Leaf (leaves.Variable k)) = true
is_variable (names.Array k size) = true
is_variable _ = false

-- a variable's name is new where it makes no clash
new_name : (first : Option Named) (n : MentionData) (x : Named) → is_variable x ≡ true → clash first (n, x) ≡ [] → first ≡ None
new_name None n x is e = refl
new_name (Some (names.Leaf (leaves.EnumName m))) n (names.Leaf (leaves.Variable k)) is e = absurd (not_empty _ _ e)
new_name (Some (names.Leaf (leaves.Truth m))) n (names.Leaf (leaves.Variable k)) is e = absurd (not_empty _ _ e)
new_name (Some (names.Leaf (leaves.Number m))) n (names.Leaf (leaves.Variable k)) is e = absurd (not_empty _ _ e)
new_name (Some (names.Leaf (leaves.Variable m))) n (names.Leaf (leaves.Variable k)) is e = absurd (not_empty _ _ e)
new_name (Some (names.Leaf (leaves.Parameter m))) n (names.Leaf (leaves.Variable k)) is e = absurd (not_empty _ _ e)
new_name (Some (names.Leaf (leaves.Own m))) n (names.Leaf (leaves.Variable k)) is e = absurd (not_empty _ _ e)
new_name (Some (names.Leaf (leaves.Define m))) n (names.Leaf (leaves.Variable k)) is e = absurd (not_empty _ _ e)
new_name (Some (names.Leaf (leaves.Bound m))) n (names.Leaf (leaves.Variable k)) is e = absurd (not_empty _ _ e)
new_name (Some (names.Leaf (leaves.Hole m))) n (names.Leaf (leaves.Variable k)) is e = absurd (not_empty _ _ e)
new_name (Some (names.Array m a)) n (names.Leaf (leaves.Variable k)) is e = absurd (not_empty _ _ e)
new_name (Some (names.Predicate m a)) n (names.Leaf (leaves.Variable k)) is e = absurd (not_empty _ _ e)
new_name (Some (names.Pattern m a)) n (names.Leaf (leaves.Variable k)) is e = absurd (not_empty _ _ e)
new_name (Some (names.Type m)) n (names.Leaf (leaves.Variable k)) is e = absurd (not_empty _ _ e)
new_name (Some names.Plain) n (names.Leaf (leaves.Variable k)) is e = absurd (not_empty _ _ e)
new_name (Some (names.Leaf (leaves.EnumName m))) n (names.Array k size) is e = absurd (not_empty _ _ e)
new_name (Some (names.Leaf (leaves.Truth m))) n (names.Array k size) is e = absurd (not_empty _ _ e)
new_name (Some (names.Leaf (leaves.Number m))) n (names.Array k size) is e = absurd (not_empty _ _ e)
new_name (Some (names.Leaf (leaves.Variable m))) n (names.Array k size) is e = absurd (not_empty _ _ e)
new_name (Some (names.Leaf (leaves.Parameter m))) n (names.Array k size) is e = absurd (not_empty _ _ e)
new_name (Some (names.Leaf (leaves.Own m))) n (names.Array k size) is e = absurd (not_empty _ _ e)
new_name (Some (names.Leaf (leaves.Define m))) n (names.Array k size) is e = absurd (not_empty _ _ e)
new_name (Some (names.Leaf (leaves.Bound m))) n (names.Array k size) is e = absurd (not_empty _ _ e)
new_name (Some (names.Leaf (leaves.Hole m))) n (names.Array k size) is e = absurd (not_empty _ _ e)
new_name (Some (names.Array m a)) n (names.Array k size) is e = absurd (not_empty _ _ e)
new_name (Some (names.Predicate m a)) n (names.Array k size) is e = absurd (not_empty _ _ e)
new_name (Some (names.Pattern m a)) n (names.Array k size) is e = absurd (not_empty _ _ e)
new_name (Some (names.Type m)) n (names.Array k size) is e = absurd (not_empty _ _ e)
new_name (Some names.Plain) n (names.Array k size) is e = absurd (not_empty _ _ e)
new_name (Some first) n (names.Leaf (leaves.EnumName k)) is e = absurd (false≢true is)
new_name (Some first) n (names.Leaf (leaves.Truth k)) is e = absurd (false≢true is)
new_name (Some first) n (names.Leaf (leaves.Number k)) is e = absurd (false≢true is)
new_name (Some first) n (names.Leaf (leaves.Parameter k)) is e = absurd (false≢true is)
new_name (Some first) n (names.Leaf (leaves.Own k)) is e = absurd (false≢true is)
new_name (Some first) n (names.Leaf (leaves.Define k)) is e = absurd (false≢true is)
new_name (Some first) n (names.Leaf (leaves.Bound k)) is e = absurd (false≢true is)
new_name (Some first) n (names.Leaf (leaves.Hole k)) is e = absurd (false≢true is)
new_name (Some first) n (names.Predicate k a) is e = absurd (false≢true is)
new_name (Some first) n (names.Pattern k a) is e = absurd (false≢true is)
new_name (Some first) n (names.Type k) is e = absurd (false≢true is)
new_name (Some first) n names.Plain is e = absurd (false≢true is)

-- the texts behind one entry
pub texts_behind : (d : Entry) (ds : List Entry) → variable_texts (d ∷ ds) ≡ (if is_variable d.1 then d.0.text ∷ [] else []) ++ variable_texts ds
texts_behind (n, names.Leaf (leaves.Variable k)) ds = refl
texts_behind (n, names.Leaf (leaves.EnumName k)) ds = refl
texts_behind (n, names.Leaf (leaves.Truth k)) ds = refl
texts_behind (n, names.Leaf (leaves.Number k)) ds = refl
texts_behind (n, names.Leaf (leaves.Parameter k)) ds = refl
texts_behind (n, names.Leaf (leaves.Own k)) ds = refl
texts_behind (n, names.Leaf (leaves.Define k)) ds = refl
texts_behind (n, names.Leaf (leaves.Bound k)) ds = refl
texts_behind (n, names.Leaf (leaves.Hole k)) ds = refl
texts_behind (n, names.Array k size) ds = refl
texts_behind (n, names.Predicate k a) ds = refl
texts_behind (n, names.Pattern k a) ds = refl
texts_behind (n, names.Type k) ds = refl
texts_behind (n, names.Plain) ds = refl

taken : (look : List ℕ → Option Named) (m : List ℕ) (x : Named) (ds : List Entry) → clashes_after look ds ≡ [] → look m ≡ Some x → list_any (bytes_eq m) (variable_texts ds) ≡ false
taken look m x [] e there = refl
taken look m x (d ∷ ds) e there =
    let parts = empty_parts (clash (look d.0.text) d) (clashes_after (and_name look d.0.text d.1) ds) e in
    ap (list_any (bytes_eq m)) (texts_behind d ds)
    ∙ by (is_variable d.1) refl parts.0 (taken (and_name look d.0.text d.1) m x ds parts.1 (stays look d.0.text d.1 x m there))
  where
    some_none : Some x ≡ None → ⊥
    some_none e = cc

    by : (b : Bool) → is_variable d.1 ≡ b → clash (look d.0.text) d ≡ [] → list_any (bytes_eq m) (variable_texts ds) ≡ false → list_any (bytes_eq m) ((if b then d.0.text ∷ [] else []) ++ variable_texts ds) ≡ false
    by true is none rest =
        or_from _ _ (false_from_ne_true (bytes_eq m d.0.text) (λ same. some_none (sym there ∙ ap look (eq-same m d.0.text same) ∙ new_name (look d.0.text) d.0 d.1 is none))) rest
    by false is none rest = rest

pub variables_differ : (look : List ℕ → Option Named) (ds : List Entry) → clashes_after look ds ≡ [] → all_differ bytes_eq (variable_texts ds) ≡ true
variables_differ look [] e = refl
variables_differ look (d ∷ ds) e =
    let parts = empty_parts (clash (look d.0.text) d) (clashes_after (and_name look d.0.text d.1) ds) e in
    ap (all_differ bytes_eq) (texts_behind d ds) ∙ by (is_variable d.1) refl parts.0 parts.1 (variables_differ (and_name look d.0.text d.1) ds parts.1)
  where
    by : (b : Bool) → is_variable d.1 ≡ b → clash (look d.0.text) d ≡ [] → clashes_after (and_name look d.0.text d.1) ds ≡ [] → all_differ bytes_eq (variable_texts ds) ≡ true
        → all_differ bytes_eq ((if b then d.0.text ∷ [] else []) ++ variable_texts ds) ≡ true
    by true is none later rest =
        and_from _ _ (not_from_false _ (taken (and_name look d.0.text d.1) d.0.text d.1 ds later (put_new look d.0.text d.1 (new_name (look d.0.text) d.0 d.1 is none)))) rest
    by false is none later rest = rest

-- ---- enum names

-- what is declared as an enum name stands for one
abbrev pub StandsForEnum : (List ℕ → Option Named) → Entry → Type 0
StandsForEnum look d = is_enum (Some d.1) ≡ true → is_enum (look d.0.text) ≡ true

first_enum : (first : Option Named) (d : Entry) → is_enum (Some d.1) ≡ true → clash first d ≡ [] → is_enum (option_or first (Some d.1)) ≡ true
first_enum None d is e = is
first_enum (Some (names.Leaf (leaves.EnumName m))) d is e = refl
first_enum (Some (names.Leaf (leaves.Truth m))) d is e = absurd (not_empty _ _ e)
first_enum (Some (names.Leaf (leaves.Number m))) d is e = absurd (not_empty _ _ e)
first_enum (Some (names.Leaf (leaves.Variable m))) d is e = absurd (not_empty _ _ e)
first_enum (Some (names.Leaf (leaves.Parameter m))) d is e = absurd (not_empty _ _ e)
first_enum (Some (names.Leaf (leaves.Own m))) d is e = absurd (not_empty _ _ e)
first_enum (Some (names.Leaf (leaves.Define m))) d is e = absurd (not_empty _ _ e)
first_enum (Some (names.Leaf (leaves.Bound m))) d is e = absurd (not_empty _ _ e)
first_enum (Some (names.Leaf (leaves.Hole m))) d is e = absurd (not_empty _ _ e)
first_enum (Some (names.Array m a)) d is e = absurd (not_empty _ _ e)
first_enum (Some (names.Predicate m a)) d is e = absurd (not_empty _ _ e)
first_enum (Some (names.Pattern m a)) d is e = absurd (not_empty _ _ e)
first_enum (Some (names.Type m)) d is e = absurd (not_empty _ _ e)
first_enum (Some names.Plain) d is e = absurd (not_empty _ _ e)

-- a look-up behind another
abbrev after : (List ℕ → Option Named) → List Entry → List ℕ → Option Named
after look ds text = option_or (look text) (declared ds text)

one_after : (look : List ℕ → Option Named) (d : Entry) (ds : List Entry) (text : List ℕ) → after (and_name look d.0.text d.1) ds text ≡ after look (d ∷ ds) text
one_after look d ds text = by (look text) (bytes_eq text d.0.text)
  where
    by : (o : Option Named) (b : Bool) → option_or (option_or o (if b then Some d.1 else None)) (declared ds text) ≡ option_or o (option_map (λ (d : Entry). d.1) (if b then Some d else find (λ (d : Entry). bytes_eq text d.0.text) ds))
    by None true = refl
    by None false = refl
    by (Some x) true = refl
    by (Some x) false = refl

stand_after : (look : List ℕ → Option Named) (ds : List Entry) → clashes_after look ds ≡ [] → Every (StandsForEnum (after look ds)) ds
stand_after look [] e = tt
stand_after look (d ∷ ds) e =
    let parts = empty_parts (clash (look d.0.text) d) (clashes_after (and_name look d.0.text d.1) ds) e in
    (λ is. here is parts.0, later ds (stand_after (and_name look d.0.text d.1) ds parts.1))
  where
    here : is_enum (Some d.1) ≡ true → clash (look d.0.text) d ≡ [] → is_enum (after look (d ∷ ds) d.0.text) ≡ true
    here is none =
        ap (λ b. is_enum (option_or (look d.0.text) (option_map (λ (d : Entry). d.1) (if b then Some d else find (λ (e : Entry). bytes_eq d.0.text e.0.text) ds)))) (eq-self d.0.text)
        ∙ first_enum (look d.0.text) d is none

    later : (es : List Entry) → Every (StandsForEnum (after (and_name look d.0.text d.1) ds)) es → Every (StandsForEnum (after look (d ∷ ds))) es
    later [] all = tt
    later (f ∷ es) all = (λ is. ap is_enum (sym (one_after look d ds f.0.text)) ∙ all.0 is, later es all.1)

pub enums_stand : (ds : List Entry) → clashes ds ≡ [] → Every (StandsForEnum (declared ds)) ds
enums_stand ds e = stand_after no_names ds e
