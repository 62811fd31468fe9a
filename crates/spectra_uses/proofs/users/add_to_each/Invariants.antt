use Rattle.std.proofs.Common.{map}
use Rattle.spectra_uses.proofs.UsersFound.{AddsFirst}
use Rattle.spectra_uses.proofs.users.add_to_each.Given as goal

abbrev pub invariant-loop-used : goal.invariant-loop-used
invariant-loop-used l = AddsFirst (map (λ us. us.items) l.fn.users.items) (map (λ us. us.items) l.users.items) l.user l.list l.used-index
