use Rattle.spectra_uses.specs.Settling.{rings_data, SettlesOn}
use Rattle.spectra_uses.proofs.cycles.Rings.settle_each.Given as goal

abbrev pub invariant-loop-count : goal.invariant-loop-count
invariant-loop-count l = SettlesOn (rings_data l.fn.self) (rings_data l.self)
