use Rattle.worked_diagrams.proofs.nodes.a_sweep_leaves_what_is_marked_and_makes_room.Goals as goal

pub mark-requires : goal.mark-requires
mark-requires g c = record {
  live = c.find_or_add-3.ensures.keeps.live c.in_ok-below.below (c.find_or_add-2.ensures.keeps.live c.in_ok-below.below c.in_ok-below.ensures.node.live);
}
