-- What stands in items without faults is sound.
use Rattle.std.proofs.Common.{◌≡◌, ℕ, suc, ◌+◌, ◌≤◌, ◌==◌, Bool, true, false, not, if◌then◌else◌, List, [], ◌∷◌, length, map, flat_map, Option, Some, None, refl, ap, subst, ◌∙◌, arith}
use Rattle.std.specs.Prelude.{All, is_some}
use Rattle.std.specs.List.{list_all}
use Rattle.std.specs.Option.{option_or}
use Rattle.std.proofs.lemmas.Bool.{and_parts, and_from, lt-ltb, false≢true}
use Rattle.std.proofs.lemmas.Bool.Decides.{nat_tests}
use Rattle.std.proofs.lemmas.List.Elements.{All-head, All-tail}
use Rattle.std.proofs.lemmas.List.Folds.{list_all-append}
use Rattle.spec_model.specs.declared.spec.Role.{Role}
use Rattle.spec_model.specs.declared.spec.Role.TheVariants as roles
use Rattle.std.proofs.lemmas.List.{length-map}
use Rattle.spec_model.proofs.AllStates.{Every}
use Rattle.spectra_trees.specs.declared.tree.Place.{Place}
use Rattle.spectra_trees.specs.Data.{NameData, Expression, TypeData, PartData, PartShape, PredicateData, BodyData, ItemData}
use Rattle.spectra_resolved.specs.declared.tree.Leaf.TheVariants as leaves
use Rattle.spectra_resolved.specs.declared.table.Named.{Named}
use Rattle.spectra_resolved.specs.declared.table.Named.TheVariants as names
use Rattle.spectra_resolved.specs.declared.text.PatternUse.TheVariants as uses
use Rattle.spectra_resolved.specs.Findings.{first_of_faults}
use Rattle.spectra_resolved.specs.Spots.{spot_of}
use Rattle.spectra_resolved.specs.Enums.{enum_names}
use Rattle.spectra_resolved.specs.Looks.{Looking, Names}
use Rattle.spectra_resolved.specs.Spaces.{Entry, declared, clashes}
use Rattle.spectra_resolved.specs.Resolving.{resolved, misuses}
use Rattle.spectra_resolved.specs.Regexes.{resolved_regex, regex_misuses}
use Rattle.spectra_resolved.specs.Texts.{ResolvedVariable, ResolvedAlias, ResolvedBody}
use Rattle.spectra_items.specs.Types.{type_of, type_faults}
use Rattle.spectra_items.specs.Meanings.{at_large, variables_in, aliases_in, by_place, parameter_entries, in_predicate, predicate_of, define_of, define_faults, definitions_in, use_of, use_faults, body_of, body_faults, monitor_bodies, monitor_line, monitor_lines, lines_in, monitor_faults, faults_in}
use Rattle.spectra_declared.specs.Items.{FiledItem, enum_names_of}
use Rattle.spectra_parser.specs.Shapes.{IsShapedType, IsShapedItem, has_shaped_sides, has_choices, is_written_role, is_monitor_part}
use Rattle.spectra_elaboration.specs.Written.{is_use}
use Rattle.spectra_sound.specs.Sound.{Sizes, is_type, is_part, is_sound_tree, is_sound_definition, is_sound_body, is_pattern_use, fits_role, is_sound_line}
use Rattle.spectra_sound.proofs.Empty.{not_empty, empty_parts, every_parts}
use Rattle.spectra_sound.proofs.Spaces.{found}
use Rattle.spectra_sound.proofs.Standing.{is_right}
use Rattle.spectra_sound.proofs.Resolving.{stands_well, StandWell, tree_sound, list_sound, regex_sound}
use Rattle.spectra_sound.proofs.Types.{IsEnumName, TypesStand, type_sound}

-- what is known of the names of several files: they stand for what is there
pub record AreRight (z : Sizes) (s : Names) : Type 0 where
  pub enums : z.names ≡ length s.enums
  pub values : (text : List ℕ) (x : Named) → s.values text ≡ Some x → is_right z x ≡ true
  pub types : (text : List ℕ) (x : Named) → s.types text ≡ Some x → is_right z x ≡ true
  pub patterns : (text : List ℕ) (x : Named) → s.patterns text ≡ Some x → is_right z x ≡ true

-- and of an item without faults
pub record IsFaultless (s : Names) (i : FiledItem) : Type 0 where
  pub none : faults_in s i.0 i.1 ≡ []
  pub shaped : IsShapedItem i.1
  pub enums : Every (IsEnumName s) (enum_names_of i.1)

right_well : (z : Sizes) (params : ℕ) (x : Named) → is_right z x ≡ true → stands_well z (is_part z) params x ≡ true
right_well z params (names.Leaf (leaves.EnumName k)) is = is
right_well z params (names.Leaf (leaves.Variable k)) is = is
right_well z params (names.Leaf (leaves.Define k)) is = is
right_well z params (names.Leaf (leaves.Truth k)) is = absurd (false≢true is)
right_well z params (names.Leaf (leaves.Number k)) is = absurd (false≢true is)
right_well z params (names.Leaf (leaves.Parameter k)) is = absurd (false≢true is)
right_well z params (names.Leaf (leaves.Own k)) is = absurd (false≢true is)
right_well z params (names.Leaf (leaves.Bound k)) is = absurd (false≢true is)
right_well z params (names.Leaf (leaves.Hole k)) is = absurd (false≢true is)
right_well z params (names.Array k n) is = is
right_well z params (names.Predicate k n) is = is
right_well z params (names.Pattern k n) is = refl
right_well z params (names.Type k) is = refl
right_well z params names.Plain is = refl

module _ (z : Sizes) (s : Names) (right : AreRight z s) where
  pub large_well : StandWell z (is_part z) 0 (at_large s)
  large_well = record { truth = λ b. refl; number = λ n. refl; names = λ text x is. right_well z 0 x (right.values text x is) }

  types_stand : TypesStand z s
  types_stand text k is = right.types text (names.Type k) is

  pub sound_type : (look : Looking) (file : ℕ) (t : TypeData) → IsShapedType t.form → Every (IsEnumName s) (enum_names t) → type_faults s look file t ≡ [] → is_type z (type_of s look file t) ≡ true
  sound_type = type_sound z s right.enums types_stand

  -- ---- predicates

  parameters_well : (most file k : ℕ) (ns : List NameData) → k + length ns ≤ most → list_all (λ (e : Entry). stands_well z (is_part z) most e.1) (by_place leaves.Parameter file k ns) ≡ true
  parameters_well most file k [] few = refl
  parameters_well most file k (n ∷ ns) few = and_from _ _ (lt-ltb k most (omega (arith, few))) (parameters_well most file (suc k) ns (omega (arith, few)))

  predicate_well : (file : ℕ) (p : PredicateData) → StandWell z (is_part z) (length p.params) (in_predicate s file p)
  predicate_well file p = record { truth = λ b. refl; number = λ n. refl; names = λ text x is. by text x (declared (parameter_entries file p.params) text) refl is }
    where
      here : (x y : Named) → Some y ≡ Some x → y ≡ x
      here x y e = cc

      all : list_all (λ (e : Entry). stands_well z (is_part z) (length p.params) e.1) (parameter_entries file p.params) ≡ true
      all = parameters_well (length p.params) file 0 (map (λ a. a.1) p.params) (let long = length-map p.params (λ a. a.1) in omega (arith, long))

      by : (text : List ℕ) (x : Named) (o : Option Named) → declared (parameter_entries file p.params) text ≡ o → option_or o (s.values text) ≡ Some x → stands_well z (is_part z) (length p.params) x ≡ true
      by text x (Some y) at e = subst (λ x. stands_well z (is_part z) (length p.params) x ≡ true) (here x y e) (found (stands_well z (is_part z) (length p.params)) (parameter_entries file p.params) text y all at)
      by text x None at e = right_well z (length p.params) x (right.values text x e)

  param_types : (look : Looking) (file : ℕ) (params : List (TypeData × NameData)) → All (λ (t : TypeData). IsShapedType t.form) (map (λ a. a.0) params) →
      Every (IsEnumName s) (flat_map (λ a. enum_names a.0) params) → flat_map (λ a. type_faults s look file a.0) params ≡ [] → list_all (is_type z) (map (λ a. type_of s look file a.0) params) ≡ true
  param_types look file [] shaped enums none = refl
  param_types look file (a ∷ params) shaped enums none =
      let mentions = every_parts (IsEnumName s) (enum_names a.0) _ enums in
      let parts = empty_parts (type_faults s look file a.0) _ none in
      and_from _ _ (sound_type look file a.0 (All-head (λ (t : TypeData). IsShapedType t.form) a.0 (map (λ a. a.0) params) shaped) mentions.0 parts.0)
      (param_types look file params (All-tail (λ (t : TypeData). IsShapedType t.form) a.0 (map (λ a. a.0) params) shaped) mentions.1 parts.1)

  predicate_sound : (file : ℕ) (p : PredicateData) → IsFaultless s (file, ItemData.Predicate p) → is_sound_definition z (predicate_of s (at_large s) file p) ≡ true
  predicate_sound file p faultless =
      let parts = empty_parts (flat_map (λ a. type_faults s (at_large s) file a.0) p.params) _ faultless.none in
      let more = empty_parts (clashes (parameter_entries file p.params)) (misuses (resolved (in_predicate s file p) file p.body)) parts.1 in
      let long = length-map p.params (λ a. type_of s (at_large s) file a.0) in
      and_from _ _ (ap (λ fs. not (is_some (first_of_faults fs))) more.0)
      (and_from _ _ (param_types (at_large s) file p.params faultless.shaped.types faultless.enums parts.0)
      (ap (λ n. is_sound_tree z n (resolved (in_predicate s file p) file p.body)) long ∙ tree_sound z (length p.params) (in_predicate s file p) (predicate_well file p) file p.body more.1))

  defines_sound : (file : ℕ) (bodies : List (NameData × Expression)) → flat_map (define_faults (at_large s) file) bodies ≡ [] → list_all (is_sound_definition z) (map (define_of (at_large s) file) bodies) ≡ true
  defines_sound file [] none = refl
  defines_sound file (b ∷ bodies) none =
      let parts = empty_parts (define_faults (at_large s) file b) _ none in
      and_from _ _ (tree_sound z 0 (at_large s) large_well file b.1 parts.0) (defines_sound file bodies parts.1)

  -- ---- lines

  use_sound : (file : ℕ) (n : NameData) (arguments : ℕ) → use_faults (spot_of file n) (use_of (s.patterns n.text) arguments) ≡ [] → is_pattern_use z (use_of (s.patterns n.text) arguments) arguments ≡ true
  use_sound file n arguments none = by (s.patterns n.text) refl none
    where
      by : (o : Option Named) → s.patterns n.text ≡ o → use_faults (spot_of file n) (use_of o arguments) ≡ [] → is_pattern_use z (use_of o arguments) arguments ≡ true
      by (Some (names.Pattern k arity)) is none = fits (arguments == arity) refl none
        where
          fits : (b : Bool) → (arguments == arity) ≡ b → use_faults (spot_of file n) (if b then uses.Pattern k else uses.Arity k) ≡ [] → is_pattern_use z (if b then uses.Pattern k else uses.Arity k) arguments ≡ true
          fits true same none = let e : arguments ≡ arity = grind (arith, nat_tests) in ap (is_use z.patterns k) e ∙ right.patterns n.text (names.Pattern k arity) is
          fits false same none = absurd (not_empty _ _ none)
      by (Some (names.Leaf l)) is none = absurd (not_empty _ _ none)
      by (Some (names.Array k m)) is none = absurd (not_empty _ _ none)
      by (Some (names.Predicate k m)) is none = absurd (not_empty _ _ none)
      by (Some (names.Type k)) is none = absurd (not_empty _ _ none)
      by (Some names.Plain) is none = absurd (not_empty _ _ none)
      by None is none = absurd (not_empty _ _ none)

  body_sound : (file : ℕ) (b : BodyData) → has_shaped_sides b ≡ true → body_faults (body_of s (at_large s) file b) ≡ [] → is_sound_body z (body_of s (at_large s) file b) ≡ true
  body_sound file (BodyData.Initial e) shaped none = tree_sound z 0 (at_large s) large_well file e none
  body_sound file (BodyData.Always e) shaped none = tree_sound z 0 (at_large s) large_well file e none
  body_sound file (BodyData.Recurring e) shaped none = tree_sound z 0 (at_large s) large_well file e none
  body_sound file (BodyData.Trigger at cause effect) shaped none =
      let shapes = and_parts (has_choices cause) (has_choices effect) shaped in
      let parts = empty_parts (regex_misuses (resolved_regex (at_large s) file cause)) _ none in
      and_from _ _ (regex_sound z (at_large s) large_well file cause shapes.0 parts.0) (regex_sound z (at_large s) large_well file effect shapes.1 parts.1)
  body_sound file (BodyData.Call n es) shaped none =
      let parts = empty_parts (use_faults (spot_of file n) (use_of (s.patterns n.text) (length es))) _ none in
      let long = length-map es (resolved (at_large s) file) in
      and_from _ _ (ap (is_pattern_use z (use_of (s.patterns n.text) (length es))) long ∙ use_sound file n (length es) parts.0) (list_sound z 0 (at_large s) large_well file es parts.1)

  written_role : (r : Role) (body : ResolvedBody) → is_written_role r ≡ true → fits_role r body ≡ true
  written_role roles.Assumption body is = refl
  written_role roles.Guarantee body is = refl
  written_role roles.Monitor body is = absurd (false≢true is)

  part_sound : (file : ℕ) (monitor : Place) (p : PartData) → is_monitor_part p.form ≡ true → monitor_faults (at_large s) file p ≡ [] → list_all (is_sound_line z) (monitor_lines (at_large s) file monitor p) ≡ true
  part_sound file monitor p = by p.form
    where
      by : (form : PartShape) → is_monitor_part form ≡ true → flat_map body_faults (monitor_bodies (at_large s) file form) ≡ [] → list_all (is_sound_line z) (map (monitor_line file monitor p.at) (monitor_bodies (at_large s) file form)) ≡ true
      by (PartShape.Own t n) is none = absurd (false≢true is)
      by (PartShape.Initial e) is none = and_from _ true (tree_sound z 0 (at_large s) large_well file e (empty_parts (misuses (resolved (at_large s) file e)) [] none).0) refl
      by (PartShape.Always e) is none = and_from _ true (tree_sound z 0 (at_large s) large_well file e (empty_parts (misuses (resolved (at_large s) file e)) [] none).0) refl
      by (PartShape.Recurring e) is none = absurd (false≢true is)

  parts_sound : (file : ℕ) (monitor : Place) (ps : List PartData) → list_all (λ (p : PartData). is_monitor_part p.form) ps ≡ true → flat_map (monitor_faults (at_large s) file) ps ≡ [] →
      list_all (is_sound_line z) (flat_map (monitor_lines (at_large s) file monitor) ps) ≡ true
  parts_sound file monitor [] shaped none = refl
  parts_sound file monitor (p ∷ ps) shaped none =
      let shapes = and_parts (is_monitor_part p.form) _ shaped in
      let parts = empty_parts (monitor_faults (at_large s) file p) _ none in
      list_all-append _ (monitor_lines (at_large s) file monitor p) _ ∙ and_from _ _ (part_sound file monitor p shapes.0 parts.0) (parts_sound file monitor ps shapes.1 parts.1)

  -- ---- whole items

  first_type : (ts : List TypeData) (t : TypeData) → All (λ (t : TypeData). IsShapedType t.form) (t ∷ ts) → IsShapedType t.form
  first_type ts t all = All-head (λ (t : TypeData). IsShapedType t.form) t ts all

  pub variables_sound : (i : FiledItem) → IsFaultless s i → list_all (λ (v : ResolvedVariable). is_type z v.domain) (variables_in s i.0 i.1) ≡ true
  variables_sound (file, ItemData.Variable x) f = and_from _ true (sound_type (at_large s) file x.domain (first_type [] x.domain f.shaped.types) f.enums (empty_parts (type_faults s (at_large s) file x.domain) _ f.none).0) refl
  variables_sound (file, ItemData.Monitor m) f =
      let parts = empty_parts (type_faults s (at_large s) file m.domain) _ f.none in and_from _ true (sound_type (at_large s) file m.domain (first_type [] m.domain f.shaped.types) f.enums parts.0) refl
  variables_sound (file, ItemData.Alias x) f = refl
  variables_sound (file, ItemData.Define x) f = refl
  variables_sound (file, ItemData.Predicate x) f = refl
  variables_sound (file, ItemData.Pattern x) f = refl
  variables_sound (file, ItemData.Statement x) f = refl

  pub types_sound : (i : FiledItem) → IsFaultless s i → list_all (λ (a : ResolvedAlias). is_type z a.body) (aliases_in s i.0 i.1) ≡ true
  types_sound (file, ItemData.Alias t) f = and_from _ true (sound_type (at_large s) file t.body (first_type [] t.body f.shaped.types) f.enums f.none) refl
  types_sound (file, ItemData.Variable x) f = refl
  types_sound (file, ItemData.Monitor m) f = refl
  types_sound (file, ItemData.Define x) f = refl
  types_sound (file, ItemData.Predicate x) f = refl
  types_sound (file, ItemData.Pattern x) f = refl
  types_sound (file, ItemData.Statement x) f = refl

  pub definitions_sound : (i : FiledItem) → IsFaultless s i → list_all (is_sound_definition z) (definitions_in s i.0 i.1) ≡ true
  definitions_sound (file, ItemData.Define d) f = defines_sound file d.bodies f.none
  definitions_sound (file, ItemData.Predicate p) f = and_from _ true (predicate_sound file p f) refl
  definitions_sound (file, ItemData.Variable x) f = refl
  definitions_sound (file, ItemData.Alias x) f = refl
  definitions_sound (file, ItemData.Pattern x) f = refl
  definitions_sound (file, ItemData.Monitor x) f = refl
  definitions_sound (file, ItemData.Statement x) f = refl

  pub lines_sound : (i : FiledItem) → IsFaultless s i → list_all (is_sound_line z) (lines_in s i.0 i.1) ≡ true
  lines_sound (file, ItemData.Statement l) f =
      let shapes = and_parts (is_written_role l.role) (has_shaped_sides l.body) f.shaped.lines in
      and_from _ true (and_from _ _ (written_role l.role (body_of s (at_large s) file l.body) shapes.0) (body_sound file l.body shapes.1 f.none)) refl
  lines_sound (file, ItemData.Monitor m) f =
      let parts = empty_parts (type_faults s (at_large s) file m.domain) _ f.none in parts_sound file m.at m.parts f.shaped.lines parts.1
  lines_sound (file, ItemData.Variable x) f = refl
  lines_sound (file, ItemData.Alias x) f = refl
  lines_sound (file, ItemData.Define x) f = refl
  lines_sound (file, ItemData.Predicate x) f = refl
  lines_sound (file, ItemData.Pattern x) f = refl
