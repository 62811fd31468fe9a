-- What contracts see of the object.
use Rattle.spec_model.specs.GameViews.{game_data}
use Rattle.regions.specs.Kept.{Kept}
use Rattle.region_bdd.specs.declared.slots.BddRegion.{BddRegion}
use Rattle.region_bdd.specs.declared.slots.BddMove.{BddMove}
use Rattle.region_bdd.specs.declared.object.RegionBdd.{RegionBdd}
use Rattle.region_bdd.specs.Object.{kept_of}

abbrev pub seen : RegionBdd → Kept BddRegion BddMove
seen o = kept_of (game_data o.game) o.diagrams o.slots.slots.items o.refused
