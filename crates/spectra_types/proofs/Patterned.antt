-- The patterns of a text without faults are typed, with as many nodes and levels as their lines have.
use Rattle.std.proofs.Common.{◌≡◌, ℕ, ◌+◌, ◌≤◌, nat_le, Bool, true, not, List, [], ◌∷◌, ◌++◌, length, map, flat_map, refl, ap, ◌∙◌, arith}
use Rattle.std.proofs.lemmas.List.{length-map}
use Rattle.std.specs.List.{list_all, sum_by}
use Rattle.std.proofs.lemmas.Bool.{and_parts, and_from}
use Rattle.std.proofs.lemmas.List.Folds.{list_all-append}
use Rattle.std.proofs.lemmas.List.Sums.{sum_by-cons, sum_by-append}
use Rattle.spec_model.specs.Syntax.{Formula, PatternData}
use Rattle.spec_model.specs.FormulaSizes.{nodes_in, levels_in}
use Rattle.spec_model.specs.WellTyped.{is_typed_pattern, have_few_levels, pattern_formulas}
use Rattle.spectra_resolved.specs.Resolved.{ResolvedTree}
use Rattle.spectra_resolved.specs.Texts.{ResolvedType, ResolvedPatternLine, Initial, Safety, Recurring, ResolvedPattern, ResolvedText}
use Rattle.spectra_judge.specs.Kinds.{Kind}
use Rattle.spectra_judge.specs.PutIn.{is_put_in, in_pattern}
use Rattle.spectra_judge.specs.Known.{Known}
use Rattle.spectra_cases.specs.Formulas.{formula_of}
use Rattle.spectra_notes.specs.TypeKinds.{kind_in}
use Rattle.spectra_patterns.specs.SoundPatterns as patterns
use Rattle.spectra_patterns.specs.Patterns.{pattern_known, first_in, step_in, goals_in, pattern_of, line_tree}
use Rattle.spectra_patterns.specs.SoundPatterns.{is_type_kind}
use Rattle.spectra_patterns.proofs.Shaped.{all_room, pattern_typed}
use Rattle.spectra_lines.specs.Contents.{Facts, pattern_put}
use Rattle.spectra_lines.specs.Limits.{is_flat, fits, nodes_of, are_flat}
use Rattle.spectra_lines.specs.Parts.{TypedPattern, known_inside}
use Rattle.spectra_lines.specs.Laws.{put_trees_of, nodes_of_patterns, are_all_sound, PatternsHaveNoFault}
use Rattle.spectra_sound.specs.Sound.{Sizes, sizes_of, is_type, is_sound_pattern_line, is_sound_pattern}
use Rattle.spectra_types.specs.Meanings.{own_kinds, is_sound, typed_pattern}
use Rattle.spectra_types.proofs.Domains.{type_most}
use Rattle.spectra_types.proofs.PatternsPut.{lines_put, lines_out}

module _ (text : ResolvedText) where
  abbrev z : Sizes
  z = sizes_of text

  all_kinds : (ts : List ResolvedType) → list_all (λ t. is_type_kind z.names (kind_in text t)) ts ≡ true → list_all (is_type_kind z.names) (map (kind_in text) ts) ≡ true
  all_kinds [] all = refl
  all_kinds (t ∷ ts) all = let parts = and_parts (is_type_kind z.names (kind_in text t)) _ all in and_from _ _ parts.0 (all_kinds ts parts.1)

  kinds_most : z.names ≤ 65_535 → (ts : List ResolvedType) → list_all (λ t. is_type_kind z.names (kind_in text t)) ts ≡ true → list_all (is_type_kind 65_536) (map (kind_in text) ts) ≡ true
  kinds_most few [] all = refl
  kinds_most few (t ∷ ts) all = let parts = and_parts (is_type_kind z.names (kind_in text t)) _ all in and_from _ _ (type_most z.names few (kind_in text t) parts.0) (kinds_most few ts parts.1)

  lines_in_place : (good : _) (ls : List ResolvedPatternLine) → list_all (is_sound_pattern_line good) ls ≡ true → list_all (λ l. is_put_in good (line_tree l)) ls ≡ true
  lines_in_place good [] all = refl
  lines_in_place good (Initial at t ∷ ls) all = let parts = and_parts (is_put_in good t) _ all in and_from _ _ parts.0 (lines_in_place good ls parts.1)
  lines_in_place good (Safety at t ∷ ls) all = let parts = and_parts (is_put_in good t) _ all in and_from _ _ parts.0 (lines_in_place good ls parts.1)
  lines_in_place good (Recurring at t ∷ ls) all = let parts = and_parts (is_put_in good t) _ all in and_from _ _ parts.0 (lines_in_place good ls parts.1)

  module _ (few : z.names ≤ 65_535) where
    -- a pattern is said to be sound, and is so
    said : (p : ResolvedPattern) → is_sound_pattern z p ≡ true → list_all (λ t. is_type_kind z.names (kind_in text t)) p.own ≡ true → is_sound text p ≡ true
    said p is kinds =
        and_from _ _ (and_parts (not p.doubled) _ is).0 (all_room (own_kinds text p) (kinds_most few p.own kinds))

    is_so : (f : Facts) (p : ResolvedPattern) → is_sound_pattern z p ≡ true → list_all (λ t. is_type_kind z.names (kind_in text t)) p.own ≡ true → patterns.IsSound (own_kinds text p) (pattern_put f p)
    is_so f p is kinds =
        let own = and_parts (not p.doubled) _ is in
        let parts = and_parts (list_all (is_type z) p.own) (list_all (is_sound_pattern_line (in_pattern z.names p.params (length p.own))) p.lines) own.1 in
        let long = length-map p.own (kind_in text) in
        record {
          names = z.names;
          types = all_kinds p.own kinds;
          few = kinds_most few p.own kinds;
          lines = lines_put f z.names p.params (length (own_kinds text p)) p.lines
              (lines_in_place _ p.lines (ap (λ n. list_all (is_sound_pattern_line (in_pattern z.names p.params n)) p.lines) long ∙ parts.1));
          out = lines_out f p.lines;
        }

    pub patterns_said : (ps : List ResolvedPattern) → list_all (is_sound_pattern z) ps ≡ true → list_all (λ (p : ResolvedPattern). list_all (λ t. is_type_kind z.names (kind_in text t)) p.own) ps ≡ true → are_all_sound (map (typed_pattern text) ps) ≡ true
    patterns_said [] all kinds = refl
    patterns_said (p ∷ ps) all kinds =
        let tests = and_parts (is_sound_pattern z p) _ all in
        let own = and_parts (list_all (λ t. is_type_kind z.names (kind_in text t)) p.own) _ kinds in
        and_from _ _ (said p tests.0 own.0) (patterns_said ps tests.1 own.1)

    pub patterns_right : (f : Facts) (ps : List ResolvedPattern) → list_all (is_sound_pattern z) ps ≡ true → list_all (λ (p : ResolvedPattern). list_all (λ t. is_type_kind z.names (kind_in text t)) p.own) ps ≡ true →
        PatternsHaveNoFault f (map (typed_pattern text) ps) → list_all (is_typed_pattern z.names) (map (λ (p : TypedPattern). pattern_of p.own (pattern_put f p.pattern)) (map (typed_pattern text) ps)) ≡ true
    unfolding is_so
    patterns_right f [] all kinds none = refl
    patterns_right f (p ∷ ps) all kinds none =
        let tests = and_parts (is_sound_pattern z p) _ all in
        let own = and_parts (list_all (λ t. is_type_kind z.names (kind_in text t)) p.own) _ kinds in
        and_from _ _ (pattern_typed (own_kinds text p) (pattern_put f p) (is_so f p tests.0 own.0) (none.1 (said p tests.0 own.0))) (patterns_right f ps tests.1 own.1 none.2)

  pub params_are : (f : Facts) (ps : List ResolvedPattern) → map (λ (p : PatternData). p.params) (map (λ (p : TypedPattern). pattern_of p.own (pattern_put f p.pattern)) (map (typed_pattern text) ps)) ≡ map (λ (p : ResolvedPattern). p.params) ps
  params_are f [] = refl
  params_are f (p ∷ ps) = ap (λ ns. p.params ∷ ns) (params_are f ps)

-- ---- nodes

abbrev nodes : List Formula → ℕ
nodes fs = sum_by nodes_in fs

module _ (known : Known) (params : ℕ) where
  lines_nodes : (ls : List ResolvedPatternLine) → nodes (flat_map (first_in known params) ls) + (nodes (flat_map (step_in known params) ls) + nodes (flat_map (goals_in known params) ls)) ≡ nodes_of known params (map line_tree ls)
  lines_nodes [] = refl
  lines_nodes (Initial at t ∷ ls) =
      let rest = lines_nodes ls in let one = sum_by-cons nodes_in (formula_of known params t) (flat_map (first_in known params) ls) in omega (arith, rest, one)
  lines_nodes (Safety at t ∷ ls) =
      let rest = lines_nodes ls in let one = sum_by-cons nodes_in (formula_of known params t) (flat_map (step_in known params) ls) in omega (arith, rest, one)
  lines_nodes (Recurring at t ∷ ls) =
      let rest = lines_nodes ls in let one = sum_by-cons nodes_in (formula_of known params t) (flat_map (goals_in known params) ls) in omega (arith, rest, one)

one_pattern : (own : List Kind) (p : ResolvedPattern) → nodes (pattern_formulas (pattern_of own p)) ≡ nodes_of (pattern_known p.params own) p.params (map line_tree p.lines)
one_pattern own p =
    let known = pattern_known p.params own in
    let first = flat_map (first_in known p.params) p.lines in
    let step = flat_map (step_in known p.params) p.lines in
    let goals = flat_map (goals_in known p.params) p.lines in
    let a = sum_by-append nodes_in first (step ++ goals) in
    let b = sum_by-append nodes_in step goals in
    let all = lines_nodes known p.params p.lines in omega (arith, a, b, all)

pub pattern_nodes : (f : Facts) (ps : List TypedPattern) → sum_by (λ (p : PatternData). nodes (pattern_formulas p)) (map (λ (p : TypedPattern). pattern_of p.own (pattern_put f p.pattern)) ps) ≡ nodes_of_patterns f ps
pattern_nodes f [] = refl
pattern_nodes f (p ∷ ps) =
    let here = one_pattern p.own (pattern_put f p.pattern) in
    let rest = pattern_nodes f ps in
    let one = sum_by-cons (λ (p : PatternData). nodes (pattern_formulas p)) (pattern_of p.own (pattern_put f p.pattern)) (map (λ (p : TypedPattern). pattern_of p.own (pattern_put f p.pattern)) ps) in omega (arith, here, rest, one)

-- ---- levels

module _ (known : Known) (params : ℕ) where
  one_flat : (t : ResolvedTree) → is_flat known params t ≡ true → nat_le (levels_in (formula_of known params t)) 512 ≡ true
  one_flat t flat = (and_parts (fits t) (nat_le (levels_in (formula_of known params t)) 512) flat).1

  lines_flat : (ls : List ResolvedPatternLine) → are_flat known params (map line_tree ls) ≡ true →
      (have_few_levels (flat_map (first_in known params) ls) ≡ true) × (have_few_levels (flat_map (step_in known params) ls) ≡ true) × (have_few_levels (flat_map (goals_in known params) ls) ≡ true)
  lines_flat [] flat = (refl, refl, refl)
  lines_flat (Initial at t ∷ ls) flat = let parts = and_parts (is_flat known params t) _ flat in let rest = lines_flat ls parts.1 in (and_from _ _ (one_flat t parts.0) rest.0, rest.1, rest.2)
  lines_flat (Safety at t ∷ ls) flat = let parts = and_parts (is_flat known params t) _ flat in let rest = lines_flat ls parts.1 in (rest.0, and_from _ _ (one_flat t parts.0) rest.1, rest.2)
  lines_flat (Recurring at t ∷ ls) flat = let parts = and_parts (is_flat known params t) _ flat in let rest = lines_flat ls parts.1 in (rest.0, rest.1, and_from _ _ (one_flat t parts.0) rest.2)

flat_pattern : (own : List Kind) (p : ResolvedPattern) → are_flat (pattern_known p.params own) p.params (map line_tree p.lines) ≡ true → have_few_levels (pattern_formulas (pattern_of own p)) ≡ true
flat_pattern own p flat =
    let known = pattern_known p.params own in
    let test : Formula → Bool = λ e. nat_le (levels_in e) 512 in
    let first = flat_map (first_in known p.params) p.lines in
    let step = flat_map (step_in known p.params) p.lines in
    let goals = flat_map (goals_in known p.params) p.lines in
    let all = lines_flat known p.params p.lines flat in
    list_all-append test first (step ++ goals) ∙ and_from _ _ all.0 (list_all-append test step goals ∙ and_from _ _ all.1 all.2)

pub pattern_levels : (f : Facts) (ps : List TypedPattern) → list_all (λ (p : TypedPattern). are_flat (known_inside p) p.pattern.params (put_trees_of f p)) ps ≡ true →
    list_all (λ (p : PatternData). have_few_levels (pattern_formulas p)) (map (λ (p : TypedPattern). pattern_of p.own (pattern_put f p.pattern)) ps) ≡ true
pattern_levels f [] flat = refl
pattern_levels f (p ∷ ps) flat =
    let parts = and_parts (are_flat (known_inside p) p.pattern.params (put_trees_of f p)) _ flat in and_from _ _ (flat_pattern p.own (pattern_put f p.pattern) parts.0) (pattern_levels f ps parts.1)
