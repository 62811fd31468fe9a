-- The laws of the trait, for rows.
use Rattle.std.proofs.Common.{◌≡◌, true, List}
use Rattle.std.proofs.lemmas.Bool.{and_parts, false≢true}
use Rattle.spec_model.specs.Games.{GameData}
use Rattle.spec_model.specs.Steps.{is_state, IsClosed}
use Rattle.spec_model.specs.Sets.{all_states, IsPartOf}
use Rattle.spec_model.specs.WellMade.{WellMade}
use Rattle.spec_model.proofs.Closed.{closed}
use Rattle.regions.specs.Kept.{IsExact}
use Rattle.region_rows.specs.declared.slots.Slot.{Slot}
use Rattle.region_rows.specs.declared.slots.Slot.TheVariants.{Free, Region, Outputs, Inputs}
use Rattle.region_rows.specs.declared.slots.RowRegion.{RowRegion}
use Rattle.region_rows.specs.Slots.{content_meaning, set_of, content_at, kept_in}
use Rattle.region_rows.specs.Held.{exact_slots}

pub exact_rows : (g : GameData) (slots : List Slot) → IsExact (kept_in g slots)
exact_rows g slots = exact_slots g slots

pub proper_rows : (g : GameData) (slots : List Slot) (r : RowRegion) → IsPartOf ((kept_in g slots).set r) (all_states g)
proper_rows g slots r s e = at (content_at slots r.slot) e
  where
    at : (c : Slot) → set_of (content_meaning g c) s ≡ true → is_state g s ≡ true
    at (Free next) e = absurd (false≢true e)
    at (Region row) e = (and_parts (is_state g s) _ e).0
    at (Outputs when row) e = absurd (false≢true e)
    at (Inputs when row) e = absurd (false≢true e)

pub closed_rows : (g : GameData) → WellMade g → IsClosed g
closed_rows = closed
