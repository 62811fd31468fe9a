-- What formulas are compiled in, and which of them can be.
use Rattle.std.specs.Prelude.{◌≡◌, ◌≤◌, true, List, map, length}
use Rattle.std.specs.List.{list_all, AllByRecursion}
use Rattle.spec_model.specs.Values.{DomainData}
use Rattle.spec_model.specs.GameViews.{game_data, hidden_data}
use Rattle.spec_model.specs.Games.{GameData}
use Rattle.spec_model.specs.Syntax.{Formula}
use Rattle.spec_model.specs.Diagrams.{Function}
use Rattle.spec_model.specs.WellMade.{is_domain}
use Rattle.game_values.specs.declared.seen.At.{At}
use Rattle.bit_compile.specs.declared.scenes.Scene.{Scene}
use Rattle.bit_compile.specs.Domains.{state_domains}
use Rattle.bit_compile.specs.Compiled.{Case, Entries, cases_in, entries_of, truth_in}
use Rattle.bit_compile.specs.Known.{IsReadable}

abbrev pub game_seen : Scene → GameData
game_seen s = game_data s.game.now

abbrev pub codes_seen : Scene → List DomainData
codes_seen s = s.codes.now

abbrev pub entries_seen : Scene → Entries
entries_seen s = entries_of (game_seen s) (map hidden_data s.hidden.now)

-- where a formula is true, and each of its values with where it is had
abbrev pub truth_seen : Scene → At → Formula → Function
truth_seen s at e = truth_in (game_seen s) (entries_seen s) at e

abbrev pub cases_seen : Scene → At → Formula → List Case
cases_seen s at e = cases_in (game_seen s) (entries_seen s) at e

-- the bits are those of the game's states, and the tables can be read
pub record IsScene (s : Scene) : Type 0 where
  pub codes : codes_seen s ≡ state_domains (game_seen s)
  pub domains : list_all (λ v. is_domain v.domain) (game_seen s).variables ≡ true
  pub few : length (game_seen s).variables ≤ 1024
  pub within : length s.hidden.now ≤ length (game_seen s).hidden
  pub tables : AllByRecursion (IsReadable (game_seen s)) s.hidden.now
