use Rattle.std.proofs.Common.{◌≡◌, ◌++◌, drop, map, option_map}
use Rattle.std.specs.List.{list_all}
use Rattle.region_rows.specs.Rows.{bit_of}
use Rattle.region_rows.specs.Into.{system_into}
use Rattle.region_rows.proofs.moves.system_bits.Given as goal

abbrev pub invariant-loop-moves : goal.invariant-loop-moves
invariant-loop-moves l = l.bits.items ++ map (list_all (system_into (bit_of l.t))) (map (λ v. map (option_map (λ a. a.items)) v.items) (drop l.moves-index l.later)) ≡ map (list_all (system_into (bit_of l.t))) (map (λ v. map (option_map (λ a. a.items)) v.items) l.later)
