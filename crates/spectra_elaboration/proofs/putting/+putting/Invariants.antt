use Rattle.std.proofs.Common.{◌≡◌, ◌+◌, ◌-◌, ◌*◌, ◌≤◌, ◌++◌, map, drop}
use Rattle.spectra_resolved.specs.Resolved.{listed}
use Rattle.spectra_resolved.specs.Chained.{trees}
use Rattle.spectra_resolved.specs.Views.{resolved_data, link_data}
use Rattle.spectra_copies.specs.Nodes.{each_nodes}
use Rattle.spectra_copies.specs.Levels.{each_levels}
use Rattle.spectra_copies.specs.Links.{link_nodes, link_levels, are_flat_above}
use Rattle.spectra_elaboration.specs.DefinitionViews.{definitions_data}
use Rattle.spectra_elaboration.specs.Frames.{each_at}
use Rattle.spectra_elaboration.specs.Rows.{piece_link, pieces_at}
use Rattle.std.specs.Prelude.{nat_le}
use Rattle.spectra_elaboration.proofs.putting.+putting.Given as goal

abbrev pub decreases-fill : goal.decreases-fill
decreases-fill l = 6 * l.levels + 3

abbrev pub decreases-fill_front : goal.decreases-fill_front
decreases-fill_front l = 6 * l.levels + 2

abbrev pub decreases-fill_chain : goal.decreases-fill_chain
decreases-fill_chain l = 6 * l.levels + 1

abbrev pub decreases-fill_rows : goal.decreases-fill_rows
decreases-fill_rows l = 6 * l.levels

abbrev pub decreases-fill_links : goal.decreases-fill_links
decreases-fill_links l = 6 * (l.first + link_levels (map piece_link l.pieces.now)) - 1

abbrev pub decreases-fill_shape : goal.decreases-fill_shape
decreases-fill_shape l = 6 * l.levels + 6

abbrev pub decreases-fill_quantified : goal.decreases-fill_quantified
decreases-fill_quantified l = 6 * l.levels + 5

abbrev pub decreases-fill_several : goal.decreases-fill_several
decreases-fill_several l = 6 * l.levels + 5

abbrev pub decreases-fill_operands : goal.decreases-fill_operands
decreases-fill_operands l = 6 * l.levels + 4

-- The frames are those of the first. Those so far and those of what is left are all. What is left of the room is too small for
-- what is left only if the whole room is too small for all, and so it is with levels, of which as many are left as rows.
abbrev pub invariant-fill_links-loop-place : goal.invariant-fill_links-loop-place
invariant-fill_links-loop-place l =
    let b = definitions_data l.by.definitions.now in
    let fs = l.fn.frames.items in
    record {
      frames : l.frames.items ≡ fs;
      place : l.levels + link_levels (map piece_link (drop l.place l.pieces)) ≡ l.first + link_levels (map piece_link l.pieces);
      same : map link_data l.all.items ++ pieces_at b fs (drop l.place l.pieces) ≡ map link_data l.fn.all.items ++ pieces_at b fs l.pieces;
      small : l.left ≤ l.room;
      room : l.left + link_nodes (pieces_at b fs l.pieces) ≡ l.room + link_nodes (pieces_at b fs (drop l.place l.pieces));
      flat : are_flat_above l.levels (pieces_at b fs (drop l.place l.pieces)) ≡ are_flat_above l.first (pieces_at b fs l.pieces);
    }

abbrev pub invariant-fill_operands-loop-t : goal.invariant-fill_operands-loop-t
invariant-fill_operands-loop-t l =
    let b = definitions_data l.by.definitions.now in
    let fs = l.fn.frames.items in
    record {
      frames : l.frames.items ≡ fs;
      same : map resolved_data l.all.items ++ listed (each_at b fs l.frame (trees (map resolved_data (drop l.t-index l.ts)))) ≡ map resolved_data l.fn.all.items ++ listed (each_at b fs l.frame (trees (map resolved_data l.ts)));
      small : l.left ≤ l.room;
      room : l.left + each_nodes (each_at b fs l.frame (trees (map resolved_data l.ts))) ≡ l.room + each_nodes (each_at b fs l.frame (trees (map resolved_data (drop l.t-index l.ts))));
      flat : nat_le (each_levels (each_at b fs l.frame (trees (map resolved_data (drop l.t-index l.ts))))) l.levels ≡ nat_le (each_levels (each_at b fs l.frame (trees (map resolved_data l.ts)))) l.levels;
    }
