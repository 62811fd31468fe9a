-- The laws of the trait, for regions as diagrams.
use Rattle.std.proofs.Common.{◌≡◌, ℕ, List, map, Option, true}
use Rattle.std.proofs.lemmas.Bool.{and_parts, false≢true}
use Rattle.spec_model.specs.Games.{GameData}
use Rattle.spec_model.specs.Steps.{is_state, IsClosed}
use Rattle.spec_model.specs.Sets.{all_states, IsPartOf}
use Rattle.spec_model.specs.WellMade.{WellMade}
use Rattle.spec_model.proofs.Closed.{closed}
use Rattle.regions.specs.Kept.{IsExact, Jam}
use Rattle.bdd_bits.specs.Contents.{Contents}
use Rattle.region_bdd.specs.declared.slots.Slot.{Slot}
use Rattle.region_bdd.specs.declared.slots.BddRegion.{BddRegion}
use Rattle.region_bdd.specs.declared.own.Refused.{Refused}
use Rattle.region_bdd.specs.Slots.{Shown, Nothing, Set, OutputsInto, InputsInto, shown_of, shown_once, shown_meaning, set_of, shown_at, kept_in}
use Rattle.region_bdd.specs.Held.{exact_slots}
use Rattle.region_bdd.specs.Bound.{bound_of}
use Rattle.region_bdd.specs.Object.{jam_in, kept_of}

exact_shown : (g : GameData) (bound : ℕ) (jam : Option Jam) (shown : List Shown) → IsExact (kept_in g bound jam shown)
exact_shown g bound jam shown = exact_slots g bound jam shown

proper_shown : (g : GameData) (bound : ℕ) (jam : Option Jam) (shown : List Shown) (r : BddRegion) → IsPartOf ((kept_in g bound jam shown).set r) (all_states g)
proper_shown g bound jam shown r s e = at (shown_at shown r.slot) e
  where
    at : (c : Shown) → set_of (shown_meaning g c) s ≡ true → is_state g s ≡ true
    at Nothing e = absurd (false≢true e)
    at (Set f) e = (and_parts (is_state g s) _ e).0
    at (OutputsInto when f) e = absurd (false≢true e)
    at (InputsInto when f leads) e = absurd (false≢true e)

module _ (g : GameData) (c : Contents) (slots : List Slot) (refused : Option Refused) where
  pub exact_object : IsExact (kept_of g c slots refused)
  exact_object = exact_shown g (bound_of c) (jam_in g (map (shown_once c) slots) refused) (map (shown_of c) slots)

  pub proper_object : (r : BddRegion) → IsPartOf ((kept_of g c slots refused).set r) (all_states g)
  proper_object r = proper_shown g (bound_of c) (jam_in g (map (shown_once c) slots) refused) (map (shown_of c) slots) r

pub closed_game : (g : GameData) → WellMade g → IsClosed g
closed_game = closed
