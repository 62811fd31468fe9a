use Rattle.std.proofs.Common.{◌≡◌, map, subst}
use Rattle.spectra_resolved.specs.Views.{resolved_data}
use Rattle.spectra_resolved.specs.declared.tree.Hole.TheVariants as Hole
use Rattle.spectra_elaboration.specs.DefinitionViews.{definitions_data}
use Rattle.spectra_elaboration.specs.Frames.{filled_at, used_at}
use Rattle.spectra_elaboration.proofs.Framed.{grows_not}
use Rattle.spectra_elaboration.proofs.following.use_step.Goals as goal

pub returns-in-Some-clause-goes : goal.returns-in-Some-clause-goes
returns-in-Some-clause-goes c =
    let b = definitions_data c.args.by.now.definitions.now in
    let i = c.args.frame in
    record {
      grows = grows_not c.args.frames.now.items;
      framed = c.requires.framed;
      same = subst (λ fs. used_at b fs i Hole.Truth c.args.number c.args.at (map resolved_data c.args.ts.now) ≡ filled_at b fs i (resolved_data c.in-Some.t.now)) c.deref.ensures.value (c.in-Some.ensures Hole.Truth c.args.at);
    }
