use Rattle.std.proofs.Common.{◌≡◌, ◌++◌, drop, map}
use Rattle.std.specs.Prelude.{string_bytes}
use Rattle.spectra_types.proofs.meaning.names_of.Given as goal

-- those so far and those that are left are all
abbrev pub invariant-loop-name : goal.invariant-loop-name
invariant-loop-name l = map string_bytes l.made.items ++ map (λ name. name.now) (drop l.name-index l.names) ≡ map (λ name. name.now) l.names
