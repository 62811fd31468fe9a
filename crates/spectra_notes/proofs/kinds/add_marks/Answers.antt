use Rattle.spectra_notes.proofs.Elements.{element_more}
use Rattle.spectra_notes.proofs.kinds.add_marks.Goals as goal

pub loop-element-preserved : goal.loop-element-preserved
loop-element-preserved c = element_more c.args.all.now.items c.loop-element.all.items c.push.new.self.items c.loop-element._element c.args.mark c.loop-element.invariant c.in_ok-push.ensures.items
