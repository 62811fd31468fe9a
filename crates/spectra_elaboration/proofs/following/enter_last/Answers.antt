use Rattle.std.proofs.Common.{◌≡◌, ◌∷◌, ◌++◌, ◌-◌, [], suc, Some, length, map, refl, sym, ap, subst, ◌∙◌, arith}
use Rattle.spectra_resolved.specs.Views.{resolved_data}
use Rattle.spectra_elaboration.specs.declared.frames.Frame.{Frame}
use Rattle.spectra_elaboration.specs.Putting.{body_of}
use Rattle.spectra_elaboration.specs.PuttingViews.{bodies_data}
use Rattle.spectra_elaboration.specs.DefinitionViews.{definitions_data}
use Rattle.spectra_elaboration.specs.Frames.{AreFrames, filled_at}
use Rattle.spectra_elaboration.proofs.Framed.{grows_not, use_ends, use_none, use_some, more_framed}
use Rattle.spectra_elaboration.proofs.following.enter_last.Goals as goal

pub returns-then-deep-eq0-clause-goes : goal.returns-then-deep-eq0-clause-goes
returns-then-deep-eq0-clause-goes c =
    let b = definitions_data c.args.by.now.definitions.now in
    let fs = c.args.frames.now.items in
    record {
      grows = grows_not fs;
      framed = c.requires.framed;
      same = use_ends b c.args.last c.args.at (map (filled_at b fs c.args.frame) (map resolved_data c.args.arguments.now)) c.if-deep-eq0.true;
    }

pub returns-in_ok-push-in-Some-clause-goes : goal.returns-in_ok-push-in-Some-clause-goes
returns-in_ok-push-in-Some-clause-goes c =
    let b = definitions_data c.args.by.now.definitions.now in
    let fs = c.args.frames.now.items in
    let i = c.args.frame in
    let u = c.args.last in
    let less : u.deep ≡ suc (u.deep - 1) = omega (arith, c.if-deep-eq0.false) in
    let g : Frame = record { deep = u.deep - 1; brought = Some c.args.at; arguments = c.args.arguments; outer = i } in
    let body = resolved_data c.in-Some.body.now in
    let size : c.len-inside.result ≡ length fs = (let n = c.len-inside.ensures in let m = c.args.frames.now.ok in omega (arith, n, m)) in
    let new : c.push.new.self.items ≡ fs ++ g ∷ [] = c.in_ok-push-in-Some.ensures.items in
    record {
      grows = (g ∷ [], new);
      framed = subst AreFrames (sym new) (more_framed fs g c.requires.framed c.requires.within);
      same = use_some b fs i g u (u.deep - 1) body c.args.at less (ap (λ bs. body_of (bodies_data bs) u.number) (sym c.deref.ensures.value) ∙ sym c.in-Some.ensures) refl refl refl
          ∙ (λ j. filled_at b (sym new j) (sym size j) body);
    }

pub returns-in-None-clause-goes : goal.returns-in-None-clause-goes
returns-in-None-clause-goes c =
    let b = definitions_data c.args.by.now.definitions.now in
    let fs = c.args.frames.now.items in
    let u = c.args.last in
    let less : u.deep ≡ suc (u.deep - 1) = omega (arith, c.if-deep-eq0.false) in
    record {
      grows = grows_not fs;
      framed = c.requires.framed;
      same = use_none b u (u.deep - 1) c.args.at (map (filled_at b fs c.args.frame) (map resolved_data c.args.arguments.now)) less
          (ap (λ bs. body_of (bodies_data bs) u.number) (sym c.deref.ensures.value) ∙ sym c.in-None.ensures);
    }
