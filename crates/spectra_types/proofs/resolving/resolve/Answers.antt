use Rattle.std.proofs.Common.{map, sym, ap, subst, ◌∙◌}
use Rattle.spec_model.specs.WellTyped.{WellTyped}
use Rattle.spec_model.specs.Room.{HasRoomForOne}
use Rattle.spectra_trees.specs.Views.{tree_data}
use Rattle.spectra_resolved.specs.TextViews.{text_data}
use Rattle.spectra_judge.specs.KindViews.{kind_data}
use Rattle.spectra_notes.specs.TypeKinds.{type_kinds}
use Rattle.spectra_lines.specs.SoundParts.{AreSound}
use Rattle.spectra_types.specs.Meanings.{written_out, facts_of, typed_patterns}
use Rattle.spectra_types.proofs.SoundPatterns.{all_sound}
use Rattle.spectra_types.proofs.Firsts.{found_all, means, kinds_room}
use Rattle.spectra_types.proofs.Theorem.{well_typed, has_room}
use Rattle.spectra_types.proofs.SenseTheorem.{lines_mean_what_is_written}
use Rattle.spectra_types.proofs.resolving.resolve.Goals as goal

pub text_said-requires-clause-sound : goal.text_said-requires-clause-sound
text_said-requires-clause-sound c =
    let judged = c.in_ok-text.ensures ∙ ap written_out c.in_ok-resolved.ensures.text in
    subst (λ text. AreSound (facts_of text) (typed_patterns text)) (sym judged) (all_sound (map tree_data c.args.trees.now) c.requires.shaped)

pub returns-in-Some-clause-fault : goal.returns-in-Some-clause-fault
returns-in-Some-clause-fault c =
    let trees = map tree_data c.args.trees.now in
    let judged = c.in_ok-text.ensures ∙ ap written_out c.in_ok-resolved.ensures.text in
    c.refused.ensures.fault trees
    (sym (found_all trees (text_data c.in_ok-text.text) _ _ _ c.new-findings.ensures c.in_ok-resolved.ensures.found judged c.in_ok-said.ensures.found) ∙ sym c.first.ensures ∙ c.in-Some.is)

pub specification-requires-clause-room : goal.specification-requires-clause-room
specification-requires-clause-room c =
    let trees = map tree_data c.args.trees.now in
    let judged = c.in_ok-text.ensures ∙ ap written_out c.in_ok-resolved.ensures.text in
    kinds_room trees c.requires.shaped
    (sym (found_all trees (text_data c.in_ok-text.text) _ _ _ c.new-findings.ensures c.in_ok-resolved.ensures.found judged c.in_ok-said.ensures.found) ∙ sym c.first.ensures ∙ c.in-None.is) c.deref.result.now
    (ap (map kind_data) c.deref.ensures.value ∙ ap (λ n. n.kinds.variables) c.in_ok-notes.ensures.noted ∙ ap (λ t. (type_kinds t).variables) judged)

pub returns-clause-means : goal.returns-clause-means
returns-clause-means c =
    let trees = map tree_data c.args.trees.now in
    let judged = c.in_ok-text.ensures ∙ ap written_out c.in_ok-resolved.ensures.text in
    means trees (text_data c.in_ok-text.text) _
    (sym (found_all trees (text_data c.in_ok-text.text) _ _ _ c.new-findings.ensures c.in_ok-resolved.ensures.found judged c.in_ok-said.ensures.found) ∙ sym c.first.ensures ∙ c.in-None.is) judged
    c.in_ok-specification-in-None.ensures

pub returns-clause-says : goal.returns-clause-says
returns-clause-says c = lines_mean_what_is_written (map tree_data c.args.trees.now) _ c.requires.shaped (returns-clause-means c)

pub returns-clause-typed : goal.returns-clause-typed
returns-clause-typed c =
    let trees = map tree_data c.args.trees.now in
    let means_this = returns-clause-means c in
    subst WellTyped (sym means_this.meaning) (well_typed trees c.requires.shaped means_this.faultless)

pub returns-clause-room : goal.returns-clause-room
returns-clause-room c =
    let trees = map tree_data c.args.trees.now in
    let means_this = returns-clause-means c in
    subst HasRoomForOne (sym means_this.meaning) (has_room trees c.requires.shaped means_this.faultless)
