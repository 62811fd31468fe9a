-- A pattern's faults, from those of its lines and that of the whole.
use Rattle.std.proofs.Common.{◌≡◌, ℕ, ◌<◌, ◌^◌, Bool, true, false, nat_lt, if◌then◌else◌, List, [], ◌∷◌, ◌++◌, map, Option, Some, None, option_map, option_to_list, refl, sym, ap, ◌∙◌, arith}
use Rattle.std.specs.List.{All, list_all}
use Rattle.std.proofs.lemmas.Bool.{and_parts}
use Rattle.std.proofs.lemmas.Bool.Decides.{nat_tests}
use Rattle.std.proofs.lemmas.List.Elements.{All-nil, All-cons}
use Rattle.spec_model.specs.Values.{Enumeration}
use Rattle.spec_model.specs.WellMade.{is_domain}
use Rattle.spectra_resolved.specs.declared.findings.Finding.{Finding}
use Rattle.spectra_resolved.specs.Findings.{fault, first_of_faults}
use Rattle.spectra_resolved.specs.Texts.{ResolvedPattern}
use Rattle.spectra_judge.specs.declared.kind.Kind as code
use Rattle.spectra_judge.specs.KindViews.{kind_data}
use Rattle.spectra_judge.specs.Kinds.{Kind, NameOf}
use Rattle.spectra_patterns.specs.Patterns.{lines_faults, pattern_of, table_fault, is_empty, pattern_faults, meant}
use Rattle.spectra_patterns.specs.SoundPatterns.{unless, is_type_kind, IsSound}
use Rattle.spectra_patterns.proofs.Shaped.{whole_faults, lines_fault_is}

-- ---- kinds of types

all_types : (own : List code.Kind) → list_all (is_type_kind 65_536) (map kind_data own) ≡ true → All (λ k. is_type_kind 65_536 (kind_data k) ≡ true) own
all_types [] is = All-nil (λ k. is_type_kind 65_536 (kind_data k) ≡ true)
all_types (k ∷ ks) is =
    let parts = and_parts (is_type_kind 65_536 (kind_data k)) (list_all (is_type_kind 65_536) (map kind_data ks)) is in
    All-cons (λ k. is_type_kind 65_536 (kind_data k) ≡ true) k ks parts.0 (all_types ks parts.1)

pub sound_types : (own : List code.Kind) (p : ResolvedPattern) → IsSound (map kind_data own) p → All (λ k. is_type_kind 65_536 (kind_data k) ≡ true) own
sound_types own p sound = all_types own sound.few

-- the names of an enum have numbers of 16 bits
pub names_room : (ns : List ℕ) → is_type_kind 65_536 (NameOf ns) ≡ true → All (λ n. n < 2 ^ 16) ns
names_room ns is = each ns (and_parts (is_domain (Enumeration ns)) (list_all (λ k. nat_lt k 65_536) ns) is).1
  where
    below : (n : ℕ) → nat_lt n 65_536 ≡ true → n < 2 ^ 16
    below n less = grind (arith, nat_tests)

    each : (ns : List ℕ) → list_all (λ k. nat_lt k 65_536) ns ≡ true → All (λ n. n < 2 ^ 16) ns
    each [] is = All-nil (λ n. n < 2 ^ 16)
    each (n ∷ ns) is =
        let parts = and_parts (nat_lt n 65_536) (list_all (λ k. nat_lt k 65_536) ns) is in All-cons (λ n. n < 2 ^ 16) n ns (below n parts.0) (each ns parts.1)

-- ---- all faults

not_empty : (fs : List Finding) (f : Finding) → first_of_faults fs ≡ Some f → is_empty fs ≡ false
not_empty [] f is = absurd (cc)
not_empty (g ∷ fs) f is = refl

module _ (own : List Kind) (p : ResolvedPattern) where
  -- a fault of a line is one of the pattern
  pub lines_found : (sound : Bool) (f : Finding) → first_of_faults (lines_faults own p) ≡ Some f → pattern_faults sound own p ≡ lines_faults own p
  lines_found sound f is = lines_fault_is sound own p (not_empty (lines_faults own p) f is)

  pub nothing_meant : (sound : Bool) (f : Finding) → first_of_faults (lines_faults own p) ≡ Some f → None ≡ meant sound own p
  nothing_meant sound f is = by sound (ap is_empty (lines_found sound f is) ∙ not_empty (lines_faults own p) f is)
    where
      by : (sound : Bool) → is_empty (pattern_faults sound own p) ≡ false → None ≡ meant sound own p
      by true e = λ i. if sym e i then Some (pattern_of own p) else None
      by false e = refl

  -- one that isn't sound isn't looked at as a whole
  pub unsound_faults : lines_faults own p ≡ [] → pattern_faults false own p ≡ []
  unsound_faults none = λ i. none i ++ []

  pub meant_whole : lines_faults own p ≡ [] → unless (table_fault (pattern_of own p)) (pattern_of own p) ≡ meant true own p
  meant_whole none = by (table_fault (pattern_of own p)) ∙ (λ i. if is_empty (sym (whole_faults own p none) i) then Some (pattern_of own p) else None)
    where
      by : (o : Option ℕ) → unless o (pattern_of own p) ≡ (if is_empty (option_to_list (option_map (λ number. fault number p.name.at) o)) then Some (pattern_of own p) else None)
      by (Some n) = refl
      by None = refl
