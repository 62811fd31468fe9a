use Rattle.region_rows.proofs.rows.RegionRows.row_of.Goals as goal

pub returns : goal.returns
returns c = rw (c.deref.ensures.value, c.in_ok-bits.ensures) at c.packed.ensures
