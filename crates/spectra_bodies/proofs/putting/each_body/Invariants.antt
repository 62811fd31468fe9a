use Rattle.std.proofs.Common.{◌≡◌, take}
use Rattle.spectra_resolved.specs.TextViews.{text_data}
use Rattle.spectra_elaboration.specs.PuttingViews.{bodies_data}
use Rattle.spectra_bodies.specs.PutIn.{bodies}
use Rattle.spectra_bodies.proofs.putting.each_body.Given as goal

-- those so far
abbrev pub invariant-loop-k : goal.invariant-loop-k
invariant-loop-k l = bodies_data l.bodies.items ≡ take l.k (bodies (text_data l.text))
