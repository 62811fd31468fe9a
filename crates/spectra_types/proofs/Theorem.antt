-- Files without a fault mean a well-typed specification: one lemma for each of its properties.
use Rattle.std.proofs.Common.{◌≡◌, ◌≤◌, nat_le, true, List, [], ◌∷◌, length, map, refl, sym, ap, subst, ◌∙◌, arith}
use Rattle.std.proofs.lemmas.List.{length-map}
use Rattle.std.specs.List.{list_all, sum_by}
use Rattle.std.proofs.lemmas.Bool.{and_parts, and_from}
use Rattle.std.proofs.lemmas.List.Sums.{sum_by-cons}
use Rattle.spec_model.specs.Syntax.{Statement, VariableData, PatternData, Specification}
use Rattle.spec_model.specs.Sizes.{formulas_of}
use Rattle.spec_model.specs.FormulaSizes.{nodes_in, levels_in}
use Rattle.spec_model.specs.WellTyped.{is_domain_of, is_typed_pattern, is_typed_trigger, is_typed_line, fits_role, are_rising, have_few_levels, pattern_formulas, all_nodes, all_hidden, WellTyped}
use Rattle.spec_model.proofs.SameNames.{differ-bytes}
use Rattle.spectra_resolved.specs.Texts.{ResolvedLine, ResolvedText}
use Rattle.spectra_declared.specs.Wholes as names
use Rattle.spectra_judge.proofs.Empty.{empty_parts}
use Rattle.spectra_bodies.specs.Faults.{declared_faults}
use Rattle.spectra_patterns.specs.Patterns.{pattern_of}
use Rattle.spectra_lines.specs.Contents.{Facts, trees_in, line_put, pattern_put}
use Rattle.spectra_lines.specs.Limits.{are_flat}
use Rattle.spectra_lines.specs.Lines.{put_trees}
use Rattle.spectra_lines.specs.Parts.{TypedPattern}
use Rattle.spectra_lines.specs.Meanings.{statements, triggers}
use Rattle.spectra_lines.specs.Said.{lines_faults}
use Rattle.spectra_lines.specs.Laws.{nodes_of_lines, AreMeant}
use Rattle.spectra_lines.proofs.Faultless.{faultless}
use Rattle.spectra_sound.specs.Sound.{sizes_of, IsSound}
use Rattle.spectra_types.specs.Meanings.{facts_of, typed_patterns, text_faults, judged_text, specification_of}
use Rattle.spectra_types.specs.Laws.{FaultlessIsWellTyped, FaultlessHasRoom}
use Rattle.spectra_types.proofs.Domains.{variables_meant, own_meant}
use Rattle.spectra_types.proofs.Elements.{variables_count, domains_fit}
use Rattle.spectra_types.proofs.ElementNames.{few_from, all_spelled, all_differ_named}
use Rattle.spectra_types.proofs.Firsts.{judged_sound}
use Rattle.spectra_types.proofs.Formulas.{formulas, AreBefore, each_line, all_line_nodes, nodes_are, levels_are, hidden_alone}
use Rattle.spectra_types.proofs.Lines.{lines_right, roles_fit}
use Rattle.spectra_types.proofs.Triggers.{triggers_right}
use Rattle.spectra_types.proofs.Patterned.{patterns_said, patterns_right, params_are, pattern_nodes, pattern_levels}
use Rattle.spectra_types.proofs.Numbered.{rising, numbers_within, as_many}

-- ---- nodes and levels

line_nodes : (f : Facts) (ls : List ResolvedLine) → sum_by (λ (l : ResolvedLine). sum_by nodes_in (formulas f.known (trees_in l.body))) (map (line_put f) ls) ≡ nodes_of_lines f ls
line_nodes f [] = refl
line_nodes f (l ∷ ls) =
    let here = nodes_are f.known 0 (put_trees f l) in
    let rest = line_nodes f ls in
    let one = sum_by-cons (λ (l : ResolvedLine). sum_by nodes_in (formulas f.known (trees_in l.body))) (line_put f l) (map (line_put f) ls) in omega (arith, here, rest, one)

flat_lines : (f : Facts) (ls : List ResolvedLine) → list_all (λ l. are_flat f.known 0 (put_trees f l)) ls ≡ true →
    list_all (λ (l : ResolvedLine). list_all (λ e. nat_le (levels_in e) 512) (formulas f.known (trees_in l.body))) (map (line_put f) ls) ≡ true
flat_lines f [] all = refl
flat_lines f (l ∷ ls) all =
    let parts = and_parts (are_flat f.known 0 (put_trees f l)) _ all in and_from _ _ (levels_are f.known 0 (put_trees f l) parts.0) (flat_lines f ls parts.1)

-- ---- whole texts

module _ (text : ResolvedText) (sound : IsSound text) (none : text_faults text ≡ []) where
  abbrev f : Facts
  f = facts_of text

  abbrev ps : List TypedPattern
  ps = typed_patterns text

  abbrev s : Specification
  s = specification_of text

  abbrev put : List ResolvedLine
  put = map (line_put f) text.lines

  parts : (declared_faults text ≡ []) × (lines_faults f ps text.lines ≡ [])
  parts = empty_parts (declared_faults text) (lines_faults f ps text.lines) none

  meant : AreMeant f ps text.lines
  meant = faultless f ps text.lines parts.1

  lines_are : s.lines ≡ statements f.known put
  lines_are = ap (statements f.known) meant.lines

  triggers_are : s.triggers ≡ triggers f.known put
  triggers_are = ap (triggers f.known) meant.lines

  patterns_are : s.patterns ≡ map (λ (p : TypedPattern). pattern_of p.own (pattern_put f p.pattern)) ps
  patterns_are = meant.patterns (patterns_said text sound.few_names text.patterns sound.patterns (own_meant text sound parts.0))

  before : AreBefore f.known s [] 0 put
  before = (triggers_are, refl)

  long : length put ≡ length text.lines
  long = length-map text.lines (line_put f)

  pub domains : list_all (λ (v : VariableData). is_domain_of (length s.names) v.domain) s.variables ≡ true
  domains = domains_fit text text.variables (variables_meant text sound parts.0)

  pub patterns_typed : list_all (is_typed_pattern (length s.names)) s.patterns ≡ true
  patterns_typed = ap (list_all (is_typed_pattern (length s.names))) patterns_are ∙ patterns_right text sound.few_names f text.patterns sound.patterns (own_meant text sound parts.0) meant.patterns_right

  pub triggers_typed : list_all (is_typed_trigger s) s.triggers ≡ true
  triggers_typed = ap (list_all (is_typed_trigger s)) triggers_are ∙ triggers_right text sound parts.0 s refl refl text.lines sound.lines meant.lines_right

  pub lines_typed : list_all (is_typed_line s) s.lines ≡ true
  lines_typed =
      ap (list_all (is_typed_line s)) lines_are
      ∙ lines_right text sound parts.0 s refl refl (ap (map (λ (p : PatternData). p.params)) patterns_are ∙ params_are text f text.patterns) 1 0 [] text.lines before sound.lines meant.lines_right

  pub roles : list_all fits_role s.lines ≡ true
  roles = ap (list_all fits_role) lines_are ∙ roles_fit f (sizes_of text) 1 0 text.lines sound.lines

  pub few_lines : length s.lines ≤ 4096
  few_lines = let is = ap (λ ls. length ls) lines_are in let many = as_many f.known 1 0 put in let same = long in let few = sound.few_lines in omega (arith, is, many, same, few)

  pub rises : are_rising 1 s.lines ≡ true
  rises = ap (are_rising 1) lines_are ∙ rising f.known 1 1 0 put (omega arith) (let same = long in let few = sound.few_lines in omega (arith, same, few))

  pub numbers : list_all (λ (l : Statement). nat_le l.number 4096) s.lines ≡ true
  numbers = ap (list_all (λ (l : Statement). nat_le l.number 4096)) lines_are ∙ numbers_within f.known 1 0 put (let same = long in let few = sound.few_lines in omega (arith, same, few))

  pub few_nodes : all_nodes s ≤ 1_000_000
  few_nodes =
      let lines = ap (sum_by (λ (l : Statement). sum_by nodes_in (formulas_of s l.content))) lines_are ∙ all_line_nodes f.known s 1 0 [] put before ∙ line_nodes f text.lines in
      let patterns = ap (sum_by (λ (p : PatternData). sum_by nodes_in (pattern_formulas p))) patterns_are ∙ pattern_nodes f ps in
      let few = meant.nodes in omega (arith, lines, patterns, few)

  pub few_levels : list_all (λ (l : Statement). list_all (λ e. nat_le (levels_in e) 512) (formulas_of s l.content)) s.lines ≡ true
  few_levels =
      ap (list_all (λ (l : Statement). list_all (λ e. nat_le (levels_in e) 512) (formulas_of s l.content))) lines_are
      ∙ each_line f.known s (list_all (λ e. nat_le (levels_in e) 512)) 1 0 [] put before (flat_lines f text.lines meant.levels)

  pub few_pattern_levels : list_all (λ (p : PatternData). have_few_levels (pattern_formulas p)) s.patterns ≡ true
  few_pattern_levels = ap (list_all (λ (p : PatternData). have_few_levels (pattern_formulas p))) patterns_are ∙ pattern_levels f ps meant.pattern_levels

  pub few_hidden : all_hidden s ≤ 1024
  few_hidden = subst (λ n. n ≤ 1024) (sym (hidden_alone s)) meant.hidden

-- the two properties of every text without faults
text_well_typed : (text : ResolvedText) → IsSound text → text_faults text ≡ [] → WellTyped (specification_of text)
text_well_typed text sound none =
    let few = few_from text.variables sound.spelled_variables sound.few_elements sound.alone in
    record {
      few_names = sound.few_names;
      different_names = differ-bytes text.names ∙ sound.different_names;
      spelled_names = sound.spelled_names;
      few_variables = (let long = variables_count text text.variables in let small = sound.few_variables in omega (arith, long, small));
      different_variables = differ-bytes (map (λ (v : VariableData). v.name) (specification_of text).variables) ∙ all_differ_named text text.variables few sound.different_variables;
      spelled_variables = all_spelled text text.variables few;
      domains = domains text sound none;
      patterns = patterns_typed text sound none;
      triggers = triggers_typed text sound none;
      lines = lines_typed text sound none;
      roles = roles text sound none;
      few_lines = (let short = few_lines text sound none in omega (arith, short));
      rising = rises text sound none;
      few_nodes = (let small = few_nodes text sound none in omega (arith, small));
      few_levels = few_levels text sound none;
      few_pattern_levels = few_pattern_levels text sound none;
      few_hidden = few_hidden text sound none;
    }

pub well_typed : FaultlessIsWellTyped
well_typed trees shaped none =
    let text = judged_text trees in
    let both = empty_parts (names.faults_of trees) (text_faults text) none in text_well_typed text (judged_sound trees shaped both.0) both.1

pub has_room : FaultlessHasRoom
has_room trees shaped none =
    let text = judged_text trees in
    let both = empty_parts (names.faults_of trees) (text_faults text) none in
    let sound = judged_sound trees shaped both.0 in
    record { numbers = numbers text sound both.1; few_nodes = few_nodes text sound both.1 }
