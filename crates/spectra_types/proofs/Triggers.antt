-- The triggers of a text without faults are typed.
use Rattle.std.proofs.Common.{◌≡◌, ◌≤◌, true, List, [], ◌∷◌, ◌++◌, length, map, flat_map, refl, sym, ap, ◌∙◌, arith}
use Rattle.std.specs.List.{list_all}
use Rattle.std.proofs.lemmas.Bool.{and_parts, and_from, not-false}
use Rattle.std.proofs.lemmas.Grind.{flat_map-append}
use Rattle.std.proofs.lemmas.List.Folds.{list_all-append}
use Rattle.spec_model.specs.Syntax.{VariableData, Specification}
use Rattle.spec_model.specs.WellTyped.{is_typed_trigger}
use Rattle.spectra_resolved.specs.declared.spot.Spot.{Spot}
use Rattle.spectra_resolved.specs.declared.findings.Finding.{Finding}
use Rattle.spectra_resolved.specs.declared.stand.Stand.TheVariants as stand
use Rattle.spectra_resolved.specs.Resolved.{ResolvedRegex, ResolvedRegexes}
use Rattle.spectra_resolved.specs.Texts.{ResolvedBody, Initial, Safety, Recurring, Trigger, Pattern, ResolvedLine, ResolvedText}
use Rattle.spectra_judge.specs.Known.{Known}
use Rattle.spectra_judge.specs.Judged.{faults_of}
use Rattle.spectra_judge.specs.PutIn.{in_line, domain_kind}
use Rattle.spectra_judge.proofs.Empty.{empty_parts, no_fault}
use Rattle.spectra_holes.specs.Holed.{holed}
use Rattle.spectra_bodies.specs.Faults.{declared_faults}
use Rattle.spectra_patterns.specs.Triggers.{trigger_of, trigger_faults}
use Rattle.spectra_patterns.specs.TriggerParts.{atom_faults, each_atom_faults, regex_put_in, each_regex_put_in, RegexIsWrittenOut, EachIsWrittenOut}
use Rattle.spectra_patterns.specs.Laws.{has_choices, each_has_choices, has_some, IsFaultless}
use Rattle.spectra_patterns.proofs.Regexes.{trigger_typed}
use Rattle.spectra_lines.specs.Contents.{brackets_in, brackets_of_each, Facts, regex_put, each_regex_put, line_put}
use Rattle.spectra_lines.specs.Lines.{as_written, as_put, whole_faults}
use Rattle.spectra_lines.specs.Laws.{HasNoFault, HaveNoFault}
use Rattle.spectra_lines.specs.Meanings.{triggers_in}
use Rattle.spectra_sound.specs.Sound as sounds
use Rattle.spectra_sound.specs.Sound.{Sizes, sizes_of, is_sound_regex, are_sound_regexes, is_sound_body, is_sound_line, fits_role, IsSound}
use Rattle.spectra_types.specs.Meanings.{facts_of, variables_in}
use Rattle.spectra_types.proofs.Domains.{variables_meant}
use Rattle.spectra_types.proofs.Elements.{kinds_are}
use Rattle.spectra_types.proofs.PatternsPut.{tree_written}
use Rattle.spectra_types.proofs.Lines.{arrays_alike, variables_room, count, tree_right}

-- ---- brackets

mutual
  pub atoms_are : (known : Known) (r : ResolvedRegex) → atom_faults known r ≡ flat_map (faults_of known stand.Atom) (brackets_in r)
  atoms_are known (ResolvedRegex.Atom t) = one (faults_of known stand.Atom t)
    where
      one : (xs : List Finding) → xs ≡ xs ++ []
      one [] = refl
      one (x ∷ xs) = ap (λ ys. x ∷ ys) (one xs)
  atoms_are known (ResolvedRegex.Sequence rs) = each_are known rs
  atoms_are known (ResolvedRegex.Choice rs) = each_are known rs
  atoms_are known (ResolvedRegex.Repetition r times) = atoms_are known r

  each_are : (known : Known) (rs : ResolvedRegexes) → each_atom_faults known rs ≡ flat_map (faults_of known stand.Atom) (brackets_of_each rs)
  each_are known ResolvedRegexes.none = refl
  each_are known (ResolvedRegexes.one_more r rs) = (λ i. atoms_are known r i ++ each_are known rs i) ∙ sym (flat_map-append (faults_of known stand.Atom) (brackets_in r) (brackets_of_each rs))

some_put : (f : Facts) (rs : ResolvedRegexes) → sounds.has_some rs ≡ true → has_some (each_regex_put f rs) ≡ true
some_put f ResolvedRegexes.none is = is
some_put f (ResolvedRegexes.one_more r rs) is = refl

mutual
  choices_put : (f : Facts) (z : Sizes) (r : ResolvedRegex) → is_sound_regex z r ≡ true → has_choices (regex_put f r) ≡ true
  choices_put f z (ResolvedRegex.Atom t) is = refl
  choices_put f z (ResolvedRegex.Sequence rs) is = each_choices f z rs is
  choices_put f z (ResolvedRegex.Choice rs) is = let parts = and_parts (sounds.has_some rs) (are_sound_regexes z rs) is in and_from _ _ (some_put f rs parts.0) (each_choices f z rs parts.1)
  choices_put f z (ResolvedRegex.Repetition r times) is = choices_put f z r is

  each_choices : (f : Facts) (z : Sizes) (rs : ResolvedRegexes) → are_sound_regexes z rs ≡ true → each_has_choices (each_regex_put f rs) ≡ true
  each_choices f z ResolvedRegexes.none is = refl
  each_choices f z (ResolvedRegexes.one_more r rs) is = let parts = and_parts (is_sound_regex z r) (are_sound_regexes z rs) is in and_from _ _ (choices_put f z r parts.0) (each_choices f z rs parts.1)

module _ (text : ResolvedText) (sound : IsSound text) (none : declared_faults text ≡ []) (s : Specification) (names_are : s.names ≡ text.names) (variables_are : s.variables ≡ flat_map (variables_in text) text.variables) where
  abbrev z : Sizes
  z = sizes_of text

  abbrev f : Facts
  f = facts_of text

  mutual
    brackets_put : (r : ResolvedRegex) → is_sound_regex z r ≡ true → atom_faults f.known r ≡ [] → atom_faults f.known (regex_put f r) ≡ [] → regex_put_in (in_line (length s.names) z.counts) (regex_put f r) ≡ true
    brackets_put (ResolvedRegex.Atom t) is first second = (tree_right text sound none s names_are variables_are stand.Atom t refl is first second).0
    brackets_put (ResolvedRegex.Sequence rs) is first second = each_put rs is first second
    brackets_put (ResolvedRegex.Choice rs) is first second = each_put rs (and_parts (sounds.has_some rs) (are_sound_regexes z rs) is).1 first second
    brackets_put (ResolvedRegex.Repetition r times) is first second = brackets_put r is first second

    each_put : (rs : ResolvedRegexes) → are_sound_regexes z rs ≡ true → each_atom_faults f.known rs ≡ [] → each_atom_faults f.known (each_regex_put f rs) ≡ [] → each_regex_put_in (in_line (length s.names) z.counts) (each_regex_put f rs) ≡ true
    each_put ResolvedRegexes.none is first second = refl
    each_put (ResolvedRegexes.one_more r rs) is first second =
        let parts = and_parts (is_sound_regex z r) (are_sound_regexes z rs) is in
        let a = empty_parts (atom_faults f.known r) (each_atom_faults f.known rs) first in
        let b = empty_parts (atom_faults f.known (regex_put f r)) (each_atom_faults f.known (each_regex_put f rs)) second in
        and_from _ _ (brackets_put r parts.0 a.0 b.0) (each_put rs parts.1 a.1 b.1)

  mutual
    brackets_out : (r : ResolvedRegex) → RegexIsWrittenOut (regex_put f r)
    brackets_out (ResolvedRegex.Atom t) = tree_written f.bodies (holed f.known stand.Atom t)
    brackets_out (ResolvedRegex.Sequence rs) = each_out rs
    brackets_out (ResolvedRegex.Choice rs) = each_out rs
    brackets_out (ResolvedRegex.Repetition r times) = brackets_out r

    each_out : (rs : ResolvedRegexes) → EachIsWrittenOut (each_regex_put f rs)
    each_out ResolvedRegexes.none = tt
    each_out (ResolvedRegexes.one_more r rs) = (brackets_out r, each_out rs)

  side : (r : ResolvedRegex) → is_sound_regex z r ≡ true → flat_map (faults_of f.known stand.Atom) (brackets_in r) ≡ [] → flat_map (faults_of f.known stand.Atom) (brackets_in (regex_put f r)) ≡ [] → IsFaultless s z.counts f.known (regex_put f r)
  side r is first second =
      let a = atoms_are f.known r ∙ first in
      let b = atoms_are f.known (regex_put f r) ∙ second in
      record { choices = choices_put f z r is; put_in = brackets_put r is a b; out = brackets_out r; faultless = b }

  one_right : (at : Spot) (cause effect : ResolvedRegex) → is_sound_body z (Trigger at cause effect) ≡ true →
      flat_map (faults_of f.known stand.Atom) (brackets_in cause ++ brackets_in effect) ≡ [] →
      flat_map (faults_of f.known stand.Atom) (brackets_in (regex_put f cause) ++ brackets_in (regex_put f effect)) ≡ [] →
      trigger_faults f.known at (regex_put f cause) (regex_put f effect) ≡ [] → is_typed_trigger s (trigger_of f.known (regex_put f cause) (regex_put f effect)) ≡ true
  one_right at cause effect is first second whole =
      let many = count text sound none s names_are variables_are in
      let small = sound.few_variables in
      let few : length s.variables ≤ 1024 = omega (arith, many, small) in
      let tests = and_parts (is_sound_regex z cause) (is_sound_regex z effect) is in
      let a = empty_parts _ _ (sym (flat_map-append (faults_of f.known stand.Atom) (brackets_in cause) (brackets_in effect)) ∙ first) in
      let b = empty_parts _ _ (sym (flat_map-append (faults_of f.known stand.Atom) (brackets_in (regex_put f cause)) (brackets_in (regex_put f effect))) ∙ second) in
      let kinds : f.known.variables ≡ map (λ (v : VariableData). domain_kind v.domain) s.variables =
      kinds_are text (length text.names) text.variables (variables_meant text sound none) ∙ twice (flat_map (variables_in text) text.variables)
      ∙ ap (map (λ (v : VariableData). domain_kind v.domain)) (sym variables_are) in
      trigger_typed s z.counts f.known (regex_put f cause) (regex_put f effect) many few (arrays_alike text) kinds (variables_room text sound none) (side cause tests.0 a.0 b.0) (side effect tests.1 a.1 b.1) (not-false _ (no_fault _ _ _ whole))
    where
      twice : (vs : List VariableData) → map domain_kind (map (λ (v : VariableData). v.domain) vs) ≡ map (λ (v : VariableData). domain_kind v.domain) vs
      twice [] = refl
      twice (v ∷ vs) = ap (λ ks. domain_kind v.domain ∷ ks) (twice vs)

  line_triggers : (l : ResolvedLine) → is_sound_body z l.body ≡ true → HasNoFault f l → list_all (is_typed_trigger s) (triggers_in f.known (line_put f l).body) ≡ true
  line_triggers l is right = by l.body is right.written right.put right.whole
    where
      by : (b : ResolvedBody) → is_sound_body z b ≡ true → as_written f (record l { body = b }) ≡ [] → as_put f (record l { body = b }) ≡ [] → whole_faults f.known (line_put f (record l { body = b })).body ≡ [] →
          list_all (is_typed_trigger s) (triggers_in f.known (line_put f (record l { body = b })).body) ≡ true
      by (Initial t) is first second whole = refl
      by (Safety t) is first second whole = refl
      by (Recurring t) is first second whole = refl
      by (Pattern at used ts) is first second whole = refl
      by (Trigger at cause effect) is first second whole = and_from _ true (one_right at cause effect is first second whole) refl

  pub triggers_right : (ls : List ResolvedLine) → list_all (is_sound_line z) ls ≡ true → HaveNoFault f ls → list_all (is_typed_trigger s) (flat_map (λ (l : ResolvedLine). triggers_in f.known l.body) (map (line_put f) ls)) ≡ true
  triggers_right [] all right = refl
  triggers_right (l ∷ ls) all right =
      let parts = and_parts (is_sound_line z l) (list_all (is_sound_line z) ls) all in
      let own = and_parts (fits_role l.role l.body) (is_sound_body z l.body) parts.0 in
      list_all-append (is_typed_trigger s) (triggers_in f.known (line_put f l).body) _ ∙ and_from _ _ (line_triggers l own.1 right.0) (triggers_right ls parts.1 right.1)
