use Rattle.spectra_uses.specs.Settling.{rings_data}
use Rattle.spectra_uses.proofs.Settled.{still_settling, settles_further}
use Rattle.spectra_uses.proofs.cycles.Rings.settle_each.Goals as goal

pub loop-count-init : goal.loop-count-init
loop-count-init c = still_settling (rings_data c.args.self.now) c.requires.settling

pub loop-count-preserved : goal.loop-count-preserved
loop-count-preserved c = settles_further (rings_data c.args.self.now) (rings_data c.loop-count.self) (rings_data c.settle.new.self) c.loop-count.invariant c.in_ok-settle.ensures.on
