use Rattle.std.proofs.Common.{◌≡◌, Some, map, get_or, slice_get, sym, ap, ◌∙◌, arith}
use Rattle.std.proofs.lemmas.List.{length-map, get_or-map, get_or_past}
use Rattle.std.proofs.lemmas.Option.{slice_get-get_or}
use Rattle.spectra_resolved.specs.declared.tree.Leaf.TheVariants as leaves
use Rattle.spectra_resolved.specs.Resolved.{tree, Form}
use Rattle.spectra_resolved.specs.Views.{resolved_data}
use Rattle.spectra_elaboration.specs.declared.frames.Frame.{Frame}
use Rattle.spectra_elaboration.specs.Frames.{filled_at}
use Rattle.spectra_elaboration.proofs.Framed.{arguments_are}
use Rattle.spectra_elaboration.proofs.following.parameter.Goals as goal

pub returns-in-Some-clause-goes : goal.returns-in-Some-clause-goes
returns-in-Some-clause-goes c = λ b.
    let fs = c.args.frames.now in
    let f = c.index-frames-frame.result in
    let there : slice_get fs c.args.frame ≡ Some f = slice_get-get_or fs c.args.frame f c.requires.within ∙ ap Some (sym c.index-frames-frame.is) in
    let found = c.in-Some.ensures.lookup in
    let argument = c.in-Some.argument.now in
    let leaf = tree c.args.first c.args.at (Form.LeafOf (leaves.Parameter c.args.place)) in
    ap (λ xs. get_or xs c.args.place leaf) (arguments_are b fs c.args.frame f c.requires.framed there)
    ∙ get_or-map (λ t. filled_at b fs f.outer (resolved_data t)) f.arguments.now c.args.place argument leaf found.3.0
    ∙ ap (λ t. filled_at b fs f.outer (resolved_data t)) (sym found.1)

pub returns-in-Some-clause-legal : goal.returns-in-Some-clause-legal
returns-in-Some-clause-legal c =
    let fs = c.args.frames.now in
    let f = c.index-frames-frame.result in
    let there : slice_get fs c.args.frame ≡ Some f = slice_get-get_or fs c.args.frame f c.requires.within ∙ ap Some (sym c.index-frames-frame.is) in
    let found = c.in-Some.ensures.lookup.3.0 in
    let before = c.requires.framed c.args.frame f there (omega (arith, found)) in
    let here = c.requires.within in
    let outer = ap (λ (g : Frame). g.outer) c.index-frames-frame.is in
    omega (arith, before, here, outer)

pub returns-in-None-clause-goes : goal.returns-in-None-clause-goes
returns-in-None-clause-goes c = λ b.
    let fs = c.args.frames.now in
    let f = c.index-frames-frame.result in
    let there : slice_get fs c.args.frame ≡ Some f = slice_get-get_or fs c.args.frame f c.requires.within ∙ ap Some (sym c.index-frames-frame.is) in
    let leaf = tree c.args.first c.args.at (Form.LeafOf (leaves.Parameter c.args.place)) in
    ap (λ xs. get_or xs c.args.place leaf) (arguments_are b fs c.args.frame f c.requires.framed there)
    ∙ get_or_past (map (λ t. filled_at b fs f.outer (resolved_data t)) f.arguments.now) c.args.place leaf
    (let size = length-map f.arguments.now (λ t. filled_at b fs f.outer (resolved_data t)) in let past = c.in-None.ensures.lookup in omega (arith, size, past))
