use Rattle.std.proofs.Common.{◌≡◌, length, map, IfOk, refl, sym, ap, subst, ◌∙◌}
use Rattle.std.proofs.lemmas.Option.{slice_get_read}
use Rattle.spectra_resolved.specs.Chained.{chained}
use Rattle.spectra_resolved.specs.Views.{resolved_data, link_data, form_data}
use Rattle.spectra_resolved.proofs.Trees.{chain_data}
use Rattle.spectra_copies.specs.Places.{placed, marked}
use Rattle.spectra_elaboration.specs.DefinitionViews.{definitions_data}
use Rattle.spectra_elaboration.specs.Frames.{filled_at, form_at}
use Rattle.spectra_elaboration.specs.Following.{step_data, Goes}
use Rattle.spectra_copies.proofs.Folded.{node_data}
use Rattle.spectra_elaboration.proofs.Framed.{grows_not, brought_is}
use Rattle.spectra_elaboration.proofs.following.one_step.Goals as goal

pub returns-in-Chain-clause-goes : goal.returns-in-Chain-clause-goes
returns-in-Chain-clause-goes c =
    let b = definitions_data c.args.by.now.definitions.now in
    let fs = c.args.frames.now.items in
    let arm = c.in-Chain in
    let is : chained (resolved_data c.deref.result.now) (map link_data c.deref-in-Chain.result.now) ≡ resolved_data c.args.t.now =
    (λ i. chained (resolved_data (c.deref.ensures i)) (map link_data (c.deref-in-Chain.ensures.value i))) ∙ sym (ap resolved_data arm.is ∙ chain_data arm.head arm.links) in
    record {
      grows = grows_not fs;
      framed = c.requires.framed;
      same = ap (filled_at b fs c.args.frame) (sym is) ∙ c.row_step.ensures.goes b fs;
    }

pub returns-in-Node-clause-goes : goal.returns-in-Node-clause-goes
returns-in-Node-clause-goes c =
    let b = definitions_data c.args.by.now.definitions.now in
    let fs = c.args.frames.now.items in
    let new = c.node_step.new.frames.items in
    let i = c.args.frame in
    let f = c.index.result.now in
    let n = c.in-Node in
    let brought = brought_is b fs i f (slice_get_read fs (length fs) i f refl c.requires.within c.index.ensures) in
    let begins = c.placed-begins.ensures ∙ ap (λ o. placed o n.first) (sym brought) in
    let stands = c.marked-stands.ensures ∙ ap (λ o. marked o n.at) (sym brought) in
    let is : form_at b fs i c.placed-begins.result c.marked-stands.result (form_data n.shape) ≡ filled_at b fs i (resolved_data c.args.t.now) =
    (λ j. form_at b fs i (begins j) (stands j) (form_data n.shape)) ∙ sym (ap (filled_at b fs i) (ap resolved_data n.is ∙ node_data n.first n.at n.shape)) in
    subst (λ x. IfOk c.node_step.result (λ step. Goes fs new x (step_data b new step))) is c.node_step.ensures.goes
