-- The first fault of files, and the kinds of variables of files without faults.
use Rattle.std.proofs.Common.{◌≡◌, ◌≤◌, true, List, [], ◌∷◌, ◌++◌, Option, None, All, length, map, flat_map, replicate, refl, sym, ap, ◌∙◌}
use Rattle.std.specs.List.{list_all}
use Rattle.std.proofs.lemmas.Bool.{and_parts, and_from}
use Rattle.std.proofs.lemmas.List.Elements.{All-nil, All-cons}
use Rattle.spec_model.specs.Syntax.{Specification}
use Rattle.spectra_trees.specs.Data.{TreeData}
use Rattle.spectra_resolved.specs.declared.findings.Finding.{Finding}
use Rattle.spectra_resolved.specs.Findings.{with_faults, first_of_faults}
use Rattle.spectra_resolved.specs.Texts.{ResolvedVariable, ResolvedText}
use Rattle.spectra_resolved.proofs.First.{with_faults_append}
use Rattle.spectra_declared.specs.Wholes.{text_of}
use Rattle.spectra_declared.specs.Wholes as names
use Rattle.spectra_parser.specs.Shapes.{IsShaped}
use Rattle.spectra_judge.specs.declared.kind.Kind as code
use Rattle.spectra_judge.specs.KindViews.{kind_data}
use Rattle.spectra_judge.proofs.Empty.{empty_parts}
use Rattle.spectra_notes.specs.TypeKinds.{kind_in, type_kinds}
use Rattle.spectra_judge.proofs.Found.{no_faults}
use Rattle.spectra_bodies.specs.Faults.{declared_faults}
use Rattle.spectra_patterns.specs.SoundPatterns.{is_type_kind}
use Rattle.spectra_bounds.specs.Numbers.{constants}
use Rattle.spectra_sound.specs.Sound.{IsSound}
use Rattle.spectra_sound.proofs.Whole.{faultless_sound}
use Rattle.spectra_sound.proofs.WrittenSound.{written_sound}
use Rattle.spectra_types.specs.Meanings.{text_faults, judged_text, faults_of, specification_of}
use Rattle.spectra_types.specs.Resolved.{Means}
use Rattle.spectra_types.proofs.Domains.{type_most, variables_meant}
use Rattle.spectra_types.proofs.Elements.{all_replicated}

-- ---- faults

-- what is found of names, and then of all else, is the first fault
pub found_all : (trees : List TreeData) (text : ResolvedText) (start named found : Option Finding) → start ≡ None → named ≡ with_faults start (names.faults_of trees) → text ≡ judged_text trees → found ≡ with_faults named (text_faults text) →
    found ≡ first_of_faults (faults_of trees)
found_all trees text start named found begun at_names is at_all =
    at_all ∙ (λ i. with_faults (at_names i) (text_faults (is i))) ∙ ap (λ o. with_faults (with_faults o (names.faults_of trees)) (text_faults (judged_text trees))) begun
    ∙ sym (with_faults_append None (names.faults_of trees) (text_faults (judged_text trees)))

pub found_both : (found named both : Option Finding) (fs gs : List Finding) → named ≡ with_faults found fs → both ≡ with_faults named gs → both ≡ with_faults found (fs ++ gs)
found_both found named both fs gs at_names at_all = at_all ∙ ap (λ o. with_faults o gs) at_names ∙ sym (with_faults_append found fs gs)

pub means : (trees : List TreeData) (text : ResolvedText) (s : Specification) → first_of_faults (faults_of trees) ≡ None → text ≡ judged_text trees → s ≡ specification_of text → Means trees s
means trees text s none is made = record { faultless = no_faults (faults_of trees) none; meaning = made ∙ ap specification_of is }

-- ---- kinds of variables

each_most : (text : ResolvedText) → length text.names ≤ 65_535 → (vs : List ResolvedVariable) → list_all (λ (v : ResolvedVariable). is_type_kind (length text.names) (kind_in text v.domain)) vs ≡ true →
    list_all (λ (v : ResolvedVariable). is_type_kind 65_536 (kind_in text v.domain)) vs ≡ true
each_most text few [] all = refl
each_most text few (v ∷ vs) all =
    let parts = and_parts (is_type_kind (length text.names) (kind_in text v.domain)) _ all in
    and_from _ _ (type_most (length text.names) few (kind_in text v.domain) parts.0) (each_most text few vs parts.1)

pub kinds_most : (text : ResolvedText) → length text.names ≤ 65_535 → (vs : List ResolvedVariable) → list_all (λ (v : ResolvedVariable). is_type_kind (length text.names) (kind_in text v.domain)) vs ≡ true →
    list_all (is_type_kind 65_536) (flat_map (λ (v : ResolvedVariable). replicate v.count (kind_in text v.domain)) vs) ≡ true
kinds_most text few vs all = all_replicated text (is_type_kind 65_536) vs (each_most text few vs all)

each_kind : (kinds : List code.Kind) → list_all (is_type_kind 65_536) (map kind_data kinds) ≡ true → All (λ k. is_type_kind 65_536 (kind_data k) ≡ true) kinds
each_kind [] is = All-nil (λ k. is_type_kind 65_536 (kind_data k) ≡ true)
each_kind (k ∷ ks) is =
    let parts = and_parts (is_type_kind 65_536 (kind_data k)) (list_all (is_type_kind 65_536) (map kind_data ks)) is in
    All-cons (λ k. is_type_kind 65_536 (kind_data k) ≡ true) k ks parts.0 (each_kind ks parts.1)

-- files whose names have no fault make a sound text, written out too
pub judged_sound : (trees : List TreeData) → All IsShaped trees → names.faults_of trees ≡ [] → IsSound (judged_text trees)
judged_sound trees shaped none = written_sound (constants (text_of trees).definitions).numbers (text_of trees) (faultless_sound trees shaped none)

-- variables of files without faults have domains
pub kinds_room : (trees : List TreeData) → All IsShaped trees → first_of_faults (faults_of trees) ≡ None → (kinds : List code.Kind) → map kind_data kinds ≡ (type_kinds (judged_text trees)).variables →
    All (λ k. is_type_kind 65_536 (kind_data k) ≡ true) kinds
kinds_room trees shaped none kinds are =
    let text = judged_text trees in
    let both = empty_parts (names.faults_of trees) (text_faults text) (no_faults (faults_of trees) none) in
    let sound = judged_sound trees shaped both.0 in
    let declared = empty_parts (declared_faults text) _ both.1 in
    each_kind kinds (ap (list_all (is_type_kind 65_536)) are ∙ kinds_most text sound.few_names text.variables (variables_meant text sound declared.0))
