-- Hidden tables with an entry for every value and letter.
use Rattle.std.specs.Prelude.{◌≡◌, ◌*◌, ◌^◌, ◌<◌, List, length}
use Rattle.std.specs.List.{AllByRecursion}
use Rattle.spec_model.specs.declared.game.Hidden.{Hidden}

-- it has a value, and a next value for each value and letter
abbrev pub IsWhole : Hidden → Type 0
IsWhole h = (0 < h.values) × (length h.next.items ≡ h.values * 2 ^ length h.atoms.items)

abbrev pub AreWhole : List Hidden → Type 0
AreWhole hs = AllByRecursion IsWhole hs
