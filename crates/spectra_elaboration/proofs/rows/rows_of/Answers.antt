use Rattle.std.proofs.Common.{◌≡◌, ◌<◌, length, map, reverse, sym, ap, subst, ◌∙◌, arith}
use Rattle.std.proofs.lemmas.List.{length-reverse}
use Rattle.spectra_resolved.specs.Views.{resolved_data, link_data}
use Rattle.spectra_copies.specs.Nodes.{tree_nodes}
use Rattle.spectra_elaboration.specs.DefinitionViews.{definitions_data}
use Rattle.spectra_elaboration.specs.Following.{front_data}
use Rattle.spectra_elaboration.specs.Rows.{AreWithin}
use Rattle.spectra_elaboration.proofs.Unwound.{whole_behind, turned_round, stops, within_reversed}
use Rattle.spectra_elaboration.proofs.rows.rows_of.Goals as goal

pub unwind-requires-clause-pieces : goal.unwind-requires-clause-pieces
unwind-requires-clause-pieces c =
    let count = length c.args.frames.now.items in c.in_ok-add_pieces.ensures.within count c.requires.within (subst (AreWithin count) (sym c.new-pieces.ensures.items) tt)

pub returns-in_err-front-clause-unwound : goal.returns-in_err-front-clause-unwound
returns-in_err-front-clause-unwound c =
    let b = definitions_data c.args.by.now.definitions.now in
    let fs = c.args.frames.now.items in
    let whole =
    whole_behind b fs c.args.frame (resolved_data c.args.head.now) (map link_data c.args.links.now) c.new-pieces.result.items c.add_pieces.new.pieces.items c.new-pieces.ensures.items
    (c.in_ok-add_pieces.ensures.added b fs) in
    stops _ c.from_residual-in_err-front.result c.in_err-front.field-0.0 c.from_residual-in_err-front.ensures.1 (λ e. subst (λ t. c.args.room < tree_nodes t) (sym whole) (c.in_err-front.ensures.gathered e))

pub returns-clause-unwound : goal.returns-clause-unwound
returns-clause-unwound c =
    let b = definitions_data c.args.by.now.definitions.now in
    let fs = c.args.frames.now.items in
    let gs = c.unwind.new.frames.items in
    let ps = c.unwind.new.pieces.items in
    let gathered = c.in_ok-front.ensures.gathered in
    let whole =
    whole_behind b fs c.args.frame (resolved_data c.args.head.now) (map link_data c.args.links.now) c.new-pieces.result.items c.add_pieces.new.pieces.items c.new-pieces.ensures.items
    (c.in_ok-add_pieces.ensures.added b fs) in
    record {
      grows = gathered.grows;
      framed = gathered.framed;
      same = whole ∙ gathered.same ∙ turned_round b gs (front_data b gs c.in_ok-front.front) ps c.reverse.new.self.items c.reverse.ensures.items;
      are =
          record {
            ends = c.in_ok-front.ensures.legal;
            within = subst (AreWithin (length gs)) (sym c.reverse.ensures.items) (within_reversed (length gs) ps gathered.within);
            some = let some = gathered.some (c.in_ok-add_pieces.ensures.some c.requires.some) in let size = ap length c.reverse.ensures.items ∙ length-reverse ps in omega (arith, some, size);
          };
    }
