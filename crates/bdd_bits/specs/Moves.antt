-- The list by which bits were moved last.
use Rattle.std.specs.Prelude.{◌≡◌, true}
use Rattle.bdd_bits.specs.Orders.{BitOrder, moved_levels}
use Rattle.bdd_bits.specs.declared.moves.Moves.{Moves}

-- what is known of a list are its levels under the order
abbrev pub AreMoves : BitOrder → Moves → Type 0
AreMoves o m = m.known ≡ true → m.levels.items ≡ moved_levels o m.to.items
