-- What is found of a line with everything put in, or of one that is too large.
use Rattle.std.proofs.Common.{◌≡◌, ℕ, Bool, true, false, not, ◌&&◌, if◌then◌else◌, List, [], ◌++◌, Option, Some, None, sym, ap, ◌∙◌}
use Rattle.spectra_trees.specs.Faults.{TooLarge, number_of}
use Rattle.spectra_resolved.specs.declared.spot.Spot.{Spot}
use Rattle.spectra_resolved.specs.declared.findings.Finding.{Finding}
use Rattle.spectra_resolved.specs.Findings.{with_faults}
use Rattle.spectra_resolved.specs.Texts.{ResolvedLine}
use Rattle.spectra_resolved.proofs.First.{three_lists}
use Rattle.spectra_judge.specs.Findings.{fault_if}
use Rattle.spectra_patterns.specs.Patterns.{is_empty}
use Rattle.spectra_lines.specs.Contents.{Facts, trees_in}
use Rattle.spectra_lines.specs.Limits.{is_small, is_too_large}
use Rattle.spectra_lines.specs.Lines.{trees_faults, line_stand, as_written, own_faults, put_trees, whole_faults, put_faults, line_faults}

module _ (at : Spot) (faults : ResolvedLine → List Finding) where
  -- where a line was made, it is small, and its faults are found
  pub some_sized : (had small : Bool) (made l : ResolvedLine) (found old : Option Finding) → Some made ≡ (if small then Some l else None) → found ≡ with_faults old (faults made)
      → found ≡ with_faults old (fault_if (had && not small) (number_of TooLarge) at ++ (if small then faults l else []))
  some_sized true true made l found old is put = put ∙ ap (λ m. with_faults old (faults m)) (cc)
  some_sized false true made l found old is put = put ∙ ap (λ m. with_faults old (faults m)) (cc)
  some_sized had false made l found old is put = absurd (cc)

  -- and where none was, it isn't
  pub none_sized : (had small : Bool) (l : ResolvedLine) (found old : Option Finding) → None ≡ (if small then Some l else None) → found ≡ with_faults old (fault_if had (number_of TooLarge) at)
      → found ≡ with_faults old (fault_if (had && not small) (number_of TooLarge) at ++ (if small then faults l else []))
  none_sized had true l found old is put = absurd (cc)
  none_sized true false l found old is put = put
  none_sized false false l found old is put = put

-- the faults of a line that was made of another one with everything put in
abbrev pub faults_as : Facts → ResolvedLine → (made : ResolvedLine) → List Finding
faults_as f l m =
    trees_faults f.known (line_stand l) (trees_in m.body)
    ++ (if is_empty (as_written f l) && is_empty (trees_faults f.known (line_stand l) (trees_in m.body)) then whole_faults f.known m.body else [])

-- what is found as it is written, of its own, and then by its size are its faults
pub all_found : (f : Facts) (room : Option ℕ) (l : ResolvedLine) (old written own found : Option Finding) → written ≡ with_faults old (as_written f l) → own ≡ with_faults written (own_faults l.body)
    → found ≡ with_faults own (fault_if (is_too_large f.known 0 room (put_trees f l)) (number_of TooLarge) l.at ++ (if is_small f.known 0 room (put_trees f l) then put_faults f l else []))
    → found ≡ with_faults old (line_faults f room l)
all_found f room l old written own found first next is =
    let rest = fault_if (is_too_large f.known 0 room (put_trees f l)) (number_of TooLarge) l.at ++ (if is_small f.known 0 room (put_trees f l) then put_faults f l else []) in
    is ∙ ap (λ o. with_faults o rest) (next ∙ ap (λ o. with_faults o (own_faults l.body)) first) ∙ sym (three_lists old (as_written f l) (own_faults l.body) rest)
