use Rattle.std.proofs.Common.{map, refl, ◌∙◌, sym, ap, replicate}
use Rattle.std.proofs.lemmas.List.{length-map}
use Rattle.spec_model.specs.Views.{formula, regular}
use Rattle.spec_model.specs.TriggerStates.{written}
use Rattle.trigger_dfa.specs.Words.{masks_of}
use Rattle.trigger_dfa.proofs.Walked.{walks_from}
use Rattle.trigger_dfa.proofs.walk.laid.Goals as goal

pub returns : goal.returns
returns c =
    let bare = c.in_ok-side.ensures in
    walks_from (map formula c.args.atoms.now) (written (regular c.args.r.now)) c.args.size c.in_ok-side.side c.lay-part.new.self c.lay-part.result
    (record { follow = c.lay-part.new.self.follow; masks = c.in_ok-masks.masks; firsts = c.lay-part.result.firsts; lasts = c.lay-part.result.lasts })
    c.requires.few c.requires.positions bare.0 (bare.1 ∙ ap (λ n. replicate n 0) (sym (length-map c.args.atoms.now formula))) c.lay-part.ensures
    refl (c.in_ok-masks.ensures ∙ ap masks_of c.deref.ensures.value) refl refl
