-- The sets of states that specifications are solved over, as what they keep.
use Rattle.std.specs.Prelude.{◌≡◌, [], None}
use Rattle.spec_model.specs.Games.{GameData}
use Rattle.regions.specs.Kept.{Kept}
use Rattle.region_bdd.specs.declared.object.RegionBdd.{RegionBdd}
use Rattle.region_bdd.specs.declared.slots.BddRegion.{BddRegion}
use Rattle.region_bdd.specs.declared.slots.BddMove.{BddMove}
use Rattle.region_bdd.specs.Seen.{seen}

-- what a space keeps
abbrev pub space_kept : RegionBdd → Kept BddRegion BddMove
space_kept r = seen r

-- The game is this, nothing is held, and no budget ran out.
pub record IsNewOf {R M : Type 0} (g : GameData) (k : Kept R M) : Type 0 where
  pub game : k.game ≡ g
  pub held : k.held ≡ []
  pub free : k.jam ≡ None
