-- What is left of the parts of a text in a loop.
use Rattle.std.proofs.Common.{◌≡◌, ℕ, List, ◌∷◌, ◌++◌, Option, sym, ap, subst, ◌∙◌, append_assoc}
use Rattle.spectra_resolved.specs.declared.findings.Finding.{Finding}
use Rattle.spectra_resolved.specs.Findings.{with_faults}
use Rattle.spectra_resolved.proofs.First.{with_faults_append}
use Rattle.spectra_lines.specs.Contents.{Facts}
use Rattle.spectra_lines.specs.Parts.{TextPart, part_room, part_faults, through}
use Rattle.spectra_lines.specs.Steps.{IsSoundPart, ArePartsSound}

module _ (f : Facts) where
  -- what one more part gives stands behind the rest
  pub through_more : {A : Type 0} (each : Option ℕ → TextPart → List A) (room new : Option ℕ) (p : TextPart) (left rest : List TextPart) (old more all : List A)
      → left ≡ p ∷ rest → new ≡ part_room f room p → more ≡ old ++ each room p → old ++ through f each room left ≡ all → more ++ through f each new rest ≡ all
  through_more each room new p left rest old more all is taken put before =
      (λ i. put i ++ through f each (taken i) rest)
      ∙ append_assoc old (each room p) (through f each (part_room f room p) rest)
      ∙ ap (λ ps. old ++ through f each room ps) (sym is)
      ∙ before

  pub found_more : (room new : Option ℕ) (p : TextPart) (left rest : List TextPart) (old more all : Option Finding)
      → left ≡ p ∷ rest → new ≡ part_room f room p → more ≡ with_faults old (part_faults f room p) → with_faults old (through f (part_faults f) room left) ≡ all
      → with_faults more (through f (part_faults f) new rest) ≡ all
  found_more room new p left rest old more all is taken put before =
      (λ i. with_faults (put i) (through f (part_faults f) (taken i) rest))
      ∙ sym (with_faults_append old (part_faults f room p) (through f (part_faults f) (part_room f room p) rest))
      ∙ ap (λ ps. with_faults old (through f (part_faults f) room ps)) (sym is)
      ∙ before

  pub first_sound : (p : TextPart) (left rest : List TextPart) → left ≡ p ∷ rest → ArePartsSound f left → IsSoundPart f p × ArePartsSound f rest
  first_sound p left rest is sound = subst (ArePartsSound f) is sound
