-- In expressions whose names stand for what is there, and none of whose names is misused, all parts are sound.
use Rattle.std.proofs.Common.{◌≡◌, ℕ, ℤ, ◌==◌, Bool, true, false, if◌then◌else◌, List, [], ◌∷◌, length, map, flat_map, Option, Some, None, refl, sym, ap, subst, ◌∙◌, arith}
use Rattle.std.specs.Str.{bytes_eq}
use Rattle.std.specs.List.{list_all}
use Rattle.std.proofs.lemmas.Bool.{and_parts, and_from, or_left, or_right}
use Rattle.std.proofs.lemmas.Bool.Decides.{nat_tests, Decides-eqb}
use Rattle.spectra_trees.specs.Data as written
use Rattle.spectra_trees.specs.Data.{Expression, expression, Expressions, RegexData, Regexes}
use Rattle.spectra_resolved.specs.declared.spot.Spot.{Spot}
use Rattle.spectra_resolved.specs.declared.spot.Mark.{Mark}
use Rattle.spectra_resolved.specs.declared.tree.Misuse.TheVariants as misuse
use Rattle.spectra_resolved.specs.declared.tree.Extent.TheVariants as extents
use Rattle.spectra_resolved.specs.declared.tree.Leaf.{Leaf}
use Rattle.spectra_resolved.specs.declared.tree.Leaf.TheVariants as leaves
use Rattle.spectra_resolved.specs.declared.table.Named.{Named}
use Rattle.spectra_resolved.specs.declared.table.Named.TheVariants as names
use Rattle.spectra_resolved.specs.Spots.{spot_at, spot_of, in_text, same_place}
use Rattle.spectra_resolved.specs.Looks.{Looking, bound_at, bound_in}
use Rattle.spectra_resolved.specs.Resolved.{Form, ResolvedTree, ResolvedTrees, listed}
use Rattle.spectra_resolved.specs.Resolving.{read_form, call_form, index_form, resolved, resolved_form, resolved_each, misuses, form_misuses, misuses_of_each}
use Rattle.spectra_resolved.specs.Regexes.{resolved_regex, resolved_regexes, regex_misuses, misuses_of_regexes}
use Rattle.spectra_parser.specs.Shapes.{has_choices, each_has_choices}
use Rattle.spectra_parser.specs.Shapes as shapes
use Rattle.spectra_judge.specs.PutIn.{Parts, seen_inside}
use Rattle.spectra_elaboration.specs.Written.{is_use, is_written_leaf, is_written, form_written, each_written}
use Rattle.spectra_sound.specs.Sound.{Sizes, is_part, is_sound_tree, is_sound_regex, are_sound_regexes, has_some}
use Rattle.spectra_sound.proofs.Empty.{not_empty, empty_parts}

-- what a name may stand for in an expression with so many parameters around it
abbrev pub stands_well : Sizes → Parts → (params : ℕ) → Named → Bool
stands_well z good params (names.Leaf l) = is_written_leaf z.arities good params l
stands_well z good params (names.Array k n) = good.array k n
stands_well z good params (names.Predicate k n) = is_use z.arities k n
stands_well z good params _ = true

-- names stand for nothing else, and truth values and numbers may stand in it
pub record StandWell (z : Sizes) (good : Parts) (params : ℕ) (look : Looking) : Type 0 where
  pub truth : (b : Bool) → good.leaf (leaves.Truth b) ≡ true
  pub number : (n : ℤ) → good.leaf (leaves.Number n) ≡ true
  pub names : (text : List ℕ) (x : Named) → look text ≡ Some x → stands_well z good params x ≡ true

-- ---- in a quantifier

-- what stands in its body, where its bounds have no numbers yet
abbrev inside : Parts → Spot → Parts
inside good at = seen_inside extents.Open at good

leaf_inside : (z : Sizes) (good : Parts) (params : ℕ) (at : Spot) (l : Leaf) → is_written_leaf z.arities good params l ≡ true → is_written_leaf z.arities (inside good at) params l ≡ true
leaf_inside z good params at (leaves.Truth b) is = is
leaf_inside z good params at (leaves.Number n) is = is
leaf_inside z good params at (leaves.EnumName k) is = is
leaf_inside z good params at (leaves.Variable k) is = is
leaf_inside z good params at (leaves.Parameter k) is = is
leaf_inside z good params at (leaves.Own k) is = is
leaf_inside z good params at (leaves.Define k) is = is
leaf_inside z good params at (leaves.Bound spot) is = or_right (same_place spot at) _ is
leaf_inside z good params at (leaves.Hole h) is = is

named_inside : (z : Sizes) (good : Parts) (params : ℕ) (at : Spot) (x : Named) → stands_well z good params x ≡ true → stands_well z (inside good at) params x ≡ true
named_inside z good params at (names.Leaf l) is = leaf_inside z good params at l is
named_inside z good params at (names.Array k n) is = is
named_inside z good params at (names.Predicate k n) is = is
named_inside z good params at (names.Pattern k n) is = is
named_inside z good params at (names.Type k) is = is
named_inside z good params at names.Plain is = is

one_place : (at : Spot) → same_place at at ≡ true
one_place at = and_from _ _ (same at.file) (and_from _ _ (same at.line) (same at.column))
  where
    same : (n : ℕ) → (n == n) ≡ true
    same n = (Decides-eqb n n).1 refl

well_inside : (z : Sizes) (good : Parts) (params : ℕ) (look : Looking) (name : List ℕ) (at : Spot) → StandWell z good params look → StandWell z (inside good at) params (bound_in look name at)
well_inside z good params look name at well = record { truth = well.truth; number = well.number; names = λ text x is. by text x (bytes_eq text name) is }
  where
    here : (x : Named) → bound_at at ≡ Some x → names.Leaf (leaves.Bound at) ≡ x
    here x e = cc

    by : (text : List ℕ) (x : Named) (b : Bool) → (if b then bound_at at else look text) ≡ Some x → stands_well z (inside good at) params x ≡ true
    by text x true is = subst (λ x. stands_well z (inside good at) params x ≡ true) (here x is) (or_left _ _ (one_place at))
    by text x false is = named_inside z good params at x (well.names text x is)

-- ---- one name

module _ (z : Sizes) (params : ℕ) (good : Parts) (look : Looking) (well : StandWell z good params look) where
  read_sound : (text : List ℕ) (at : Spot) (n : Option Named) → look text ≡ n → form_misuses at (read_form n) ≡ [] → form_written z.arities good params (read_form n) ≡ true
  read_sound text at (Some (names.Leaf l)) is none = well.names text (names.Leaf l) is
  read_sound text at (Some (names.Array k n)) is none = absurd (not_empty _ _ none)
  read_sound text at (Some (names.Predicate k arity)) is none = absurd (not_empty _ _ none)
  read_sound text at (Some (names.Pattern k arity)) is none = absurd (not_empty _ _ none)
  read_sound text at (Some (names.Type k)) is none = absurd (not_empty _ _ none)
  read_sound text at (Some names.Plain) is none = absurd (not_empty _ _ none)
  read_sound text at None is none = absurd (not_empty _ _ none)

  use_sound : (k arity : ℕ) (ts : ResolvedTrees) (at : Spot) → is_use z.arities k arity ≡ true → (misuses_of_each ts ≡ [] → each_written z.arities good params ts ≡ true) →
      form_misuses at (call_form (Some (names.Predicate k arity)) ts) ≡ [] → form_written z.arities good params (call_form (Some (names.Predicate k arity)) ts) ≡ true
  use_sound k arity ts at use' each none = by (length (listed ts) == arity) refl none
    where
      by : (b : Bool) → (length (listed ts) == arity) ≡ b → form_misuses at (if b then Form.PredicateOf k ts else Form.MisuseOf (misuse.Arity k) ts) ≡ []
          → form_written z.arities good params (if b then Form.PredicateOf k ts else Form.MisuseOf (misuse.Arity k) ts) ≡ true
      by true is none = and_from _ _ (let same : arity ≡ length (listed ts) = grind (arith, nat_tests) in ap (is_use z.arities k) (sym same) ∙ use') (each none)
      by false is none = absurd (not_empty _ _ none)

  call_sound : (text : List ℕ) (at : Spot) (n : Option Named) (ts : ResolvedTrees) → look text ≡ n → (misuses_of_each ts ≡ [] → each_written z.arities good params ts ≡ true) → form_misuses at (call_form n ts) ≡ [] →
      form_written z.arities good params (call_form n ts) ≡ true
  call_sound text at (Some (names.Leaf l)) ts is each none = absurd (not_empty _ _ none)
  call_sound text at (Some (names.Array k n)) ts is each none = absurd (not_empty _ _ none)
  call_sound text at (Some (names.Predicate k arity)) ts is each none = use_sound k arity ts at (well.names text (names.Predicate k arity) is) each none
  call_sound text at (Some (names.Pattern k arity)) ts is each none = absurd (not_empty _ _ none)
  call_sound text at (Some (names.Type k)) ts is each none = absurd (not_empty _ _ none)
  call_sound text at (Some names.Plain) ts is each none = absurd (not_empty _ _ none)
  call_sound text at None ts is each none = absurd (not_empty _ _ none)

  index_sound : (text : List ℕ) (at : Spot) (n : Option Named) (t : ResolvedTree) → look text ≡ n → (misuses t ≡ [] → is_written z.arities good params t ≡ true) → form_misuses at (index_form n t) ≡ [] →
      form_written z.arities good params (index_form n t) ≡ true
  index_sound text at (Some (names.Array k n)) t is each none = and_from _ _ (well.names text (names.Array k n) is) (each none)
  index_sound text at (Some (names.Leaf l)) t is each none = absurd (not_empty _ _ none)
  index_sound text at (Some (names.Predicate k arity)) t is each none = absurd (not_empty _ _ none)
  index_sound text at (Some (names.Pattern k arity)) t is each none = absurd (not_empty _ _ none)
  index_sound text at (Some (names.Type k)) t is each none = absurd (not_empty _ _ none)
  index_sound text at (Some names.Plain) t is each none = absurd (not_empty _ _ none)
  index_sound text at None t is each none = absurd (not_empty _ _ none)

-- ---- expressions

module _ (z : Sizes) (params file : ℕ) where
  mutual
    expression_sound : (good : Parts) (look : Looking) → StandWell z good params look → (e : Expression) → misuses (resolved look file e) ≡ [] → is_written z.arities good params (resolved look file e) ≡ true
    expression_sound good look well (expression first at form) none = any_sound good look well (spot_at file first) (in_text (spot_at file at)) form none

    any_sound : (good : Parts) (look : Looking) → StandWell z good params look → (first : Spot) (at : Mark) (form : written.Form) → misuses (resolved_form look file first at form) ≡ [] →
        is_written z.arities good params (resolved_form look file first at form) ≡ true
    any_sound good look well first at written.Form.True none = well.truth true
    any_sound good look well first at written.Form.False none = well.truth false
    any_sound good look well first at (written.Form.Number negative digits) none = well.number _
    any_sound good look well first at (written.Form.Read name) none = read_sound z params good look well name.text (spot_of file name) (look name.text) refl none
    any_sound good look well first at (written.Form.Call name es) none =
        call_sound z params good look well name.text (spot_of file name) (look name.text) (resolved_each look file es) refl (λ none. all_sound good look well es none) none
    any_sound good look well first at (written.Form.Next e) none = expression_sound good look well e none
    any_sound good look well first at (written.Form.Prefix word e) none = expression_sound good look well e none
    any_sound good look well first at (written.Form.Binary word a b) none =
        let parts = empty_parts (misuses (resolved look file a)) (misuses (resolved look file b)) none in
        and_from _ _ (expression_sound good look well a parts.0) (expression_sound good look well b parts.1)
    any_sound good look well first at (written.Form.Mod e number digits) none = expression_sound good look well e none
    any_sound good look well first at (written.Form.And es ops) none = all_sound good look well es none
    any_sound good look well first at (written.Form.Or es ops) none = all_sound good look well es none
    any_sound good look well first at (written.Form.Index name e) none =
        index_sound z params good look well name.text (spot_of file name) (look name.text) (resolved look file e) refl (λ none. expression_sound good look well e none) none
    any_sound good look well first at (written.Form.ForAll name low high e) none =
        let parts = empty_parts (misuses (resolved look file low)) _ none in
        let more = empty_parts (misuses (resolved look file high)) _ parts.1 in
        let body = empty_parts (misuses (resolved (bound_in look name.text (spot_of file name)) file e)) [] more.1 in
        and_from _ _ (expression_sound good look well low parts.0) (and_from _ _ (expression_sound good look well high more.0)
        (and_from _ true (expression_sound (inside good (spot_of file name)) (bound_in look name.text (spot_of file name)) (well_inside z good params look name.text (spot_of file name) well) e body.0) refl))
    any_sound good look well first at (written.Form.Exists name low high e) none =
        let parts = empty_parts (misuses (resolved look file low)) _ none in
        let more = empty_parts (misuses (resolved look file high)) _ parts.1 in
        let body = empty_parts (misuses (resolved (bound_in look name.text (spot_of file name)) file e)) [] more.1 in
        and_from _ _ (expression_sound good look well low parts.0) (and_from _ _ (expression_sound good look well high more.0)
        (and_from _ true (expression_sound (inside good (spot_of file name)) (bound_in look name.text (spot_of file name)) (well_inside z good params look name.text (spot_of file name) well) e body.0) refl))

    all_sound : (good : Parts) (look : Looking) → StandWell z good params look → (es : Expressions) → misuses_of_each (resolved_each look file es) ≡ [] → each_written z.arities good params (resolved_each look file es) ≡ true
    all_sound good look well Expressions.none none = refl
    all_sound good look well (Expressions.one_more e es) none =
        let parts = empty_parts (misuses (resolved look file e)) (misuses_of_each (resolved_each look file es)) none in
        and_from _ _ (expression_sound good look well e parts.0) (all_sound good look well es parts.1)

module _ (z : Sizes) (params : ℕ) (look : Looking) (well : StandWell z (is_part z) params look) (file : ℕ) where
  pub tree_sound : (e : Expression) → misuses (resolved look file e) ≡ [] → is_sound_tree z params (resolved look file e) ≡ true
  tree_sound e none = expression_sound z params file (is_part z) look well e none

  pub list_sound : (es : List Expression) → flat_map misuses (map (resolved look file) es) ≡ [] → list_all (is_sound_tree z params) (map (resolved look file) es) ≡ true
  list_sound [] none = refl
  list_sound (e ∷ es) none = let parts = empty_parts (misuses (resolved look file e)) _ none in and_from _ _ (tree_sound e parts.0) (list_sound es parts.1)

-- ---- regular expressions

module _ (z : Sizes) (look : Looking) (well : StandWell z (is_part z) 0 look) (file : ℕ) where
  some_kept : (rs : Regexes) → shapes.has_some rs ≡ true → has_some (resolved_regexes look file rs) ≡ true
  some_kept Regexes.none is = is
  some_kept (Regexes.one_more r rs) is = refl

  mutual
    pub regex_sound : (r : RegexData) → has_choices r ≡ true → regex_misuses (resolved_regex look file r) ≡ [] → is_sound_regex z (resolved_regex look file r) ≡ true
    regex_sound (RegexData.Atom e) shaped none = tree_sound z 0 look well file e none
    regex_sound (RegexData.Cat rs) shaped none = regexes_sound rs shaped none
    regex_sound (RegexData.Alt rs) shaped none = let parts = and_parts (shapes.has_some rs) (each_has_choices rs) shaped in and_from _ _ (some_kept rs parts.0) (regexes_sound rs parts.1 none)
    regex_sound (RegexData.Repeat r times) shaped none = regex_sound r shaped none

    regexes_sound : (rs : Regexes) → each_has_choices rs ≡ true → misuses_of_regexes (resolved_regexes look file rs) ≡ [] → are_sound_regexes z (resolved_regexes look file rs) ≡ true
    regexes_sound Regexes.none shaped none = refl
    regexes_sound (Regexes.one_more r rs) shaped none =
        let shapes = and_parts (has_choices r) (each_has_choices rs) shaped in
        let parts = empty_parts (regex_misuses (resolved_regex look file r)) _ none in
        and_from _ _ (regex_sound r shapes.0 parts.0) (regexes_sound rs shapes.1 parts.1)
