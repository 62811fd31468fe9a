use Rattle.std.proofs.Common.{◌≡◌, ◌≤◌, length, map, subst, arith}
use Rattle.spectra_resolved.specs.Resolved.{tree, Form}
use Rattle.spectra_resolved.specs.Views.{resolved_data, link_data, form_data}
use Rattle.spectra_elaboration.specs.DefinitionViews.{definitions_data}
use Rattle.spectra_elaboration.specs.Frames.{filled_at, form_at}
use Rattle.spectra_elaboration.specs.Following.{front_data, IsFront, Goes}
use Rattle.spectra_elaboration.proofs.Framed.{grown_count}
use Rattle.spectra_elaboration.proofs.Unwound.{gathers_none, gathers_more, gathers_large, within_more}
use Rattle.spectra_elaboration.proofs.rows.one_row.Goals as goal

pub returns-then-len-room-clause-gathered : goal.returns-then-len-room-clause-gathered
returns-then-len-room-clause-gathered c =
    let b = definitions_data c.args.by.now.definitions.now in
    let fs = c.args.frames.now.items in
    let gs = c.follow.new.frames.items in
    let x = filled_at b fs c.args.frame (resolved_data c.args.t.now) in
    let goes = subst (λ f. Goes fs gs x (front_data b gs f)) c.in-Row.is c.in_ok-next.ensures.goes in
    let many : c.args.room ≤ length c.add_pieces.new.pieces.items = (let n = c.len.ensures in let m = c.add_pieces.new.pieces.ok in let here = c.if-len-room.true in omega (arith, n, m, here)) in
    λ _. gathers_large b fs gs c.args.pieces.now.items c.requires.pieces x (resolved_data c.in-Row.head.now) (map link_data c.in-Row.links.now) c.in-Row.next goes c.add_pieces.new.pieces.items (c.in_ok-add_pieces-in-Row.ensures.added b gs) c.args.room many

pub returns-else-len-room-clause-gathered : goal.returns-else-len-room-clause-gathered
returns-else-len-room-clause-gathered c =
    let b = definitions_data c.args.by.now.definitions.now in
    let fs = c.args.frames.now.items in
    let gs = c.follow.new.frames.items in
    let ps = c.args.pieces.now.items in
    let x = filled_at b fs c.args.frame (resolved_data c.args.t.now) in
    let goes = subst (λ f. Goes fs gs x (front_data b gs f)) c.in-Row.is c.in_ok-next.ensures.goes in
    let legal = subst (IsFront gs) c.in-Row.is c.in_ok-next.ensures.legal in
    let more = c.in_ok-add_pieces-in-Row.ensures in
    gathers_more b fs gs ps c.requires.pieces x (resolved_data c.in-Row.head.now) (map link_data c.in-Row.links.now) c.in-Row.next goes c.add_pieces.new.pieces.items (more.added b gs)
    (more.within (length gs) legal.0 (within_more (length fs) (length gs) ps (grown_count fs gs goes.grows) c.requires.pieces)) (more.some legal.1)

pub returns-in-Leaf-clause-gathered : goal.returns-in-Leaf-clause-gathered
returns-in-Leaf-clause-gathered c =
    let b = definitions_data c.args.by.now.definitions.now in
    let fs = c.args.frames.now.items in
    let gs = c.follow.new.frames.items in
    let x = filled_at b fs c.args.frame (resolved_data c.args.t.now) in
    gathers_none b fs gs c.args.pieces.now.items c.requires.pieces x (tree c.in-Leaf.first c.in-Leaf.at (Form.LeafOf c.in-Leaf.leaf)) (subst (λ f. Goes fs gs x (front_data b gs f)) c.in-Leaf.is c.in_ok-next.ensures.goes)

pub returns-in-Node-clause-gathered : goal.returns-in-Node-clause-gathered
returns-in-Node-clause-gathered c =
    let b = definitions_data c.args.by.now.definitions.now in
    let fs = c.args.frames.now.items in
    let gs = c.follow.new.frames.items in
    let x = filled_at b fs c.args.frame (resolved_data c.args.t.now) in
    let n = c.in-Node in
    gathers_none b fs gs c.args.pieces.now.items c.requires.pieces x (form_at b gs n.inside n.first n.at (form_data n.shape.now)) (subst (λ f. Goes fs gs x (front_data b gs f)) n.is c.in_ok-next.ensures.goes)
