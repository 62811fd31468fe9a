use Rattle.std.proofs.Common.{map, ap, ◌∙◌}
use Rattle.spectra_resolved.proofs.Mapped.{map_push}
use Rattle.spectra_judge.specs.KindViews.{kind_data}
use Rattle.spectra_notes.proofs.Elements.{element_more}
use Rattle.spectra_notes.proofs.kinds.add_kinds.Goals as goal

pub loop-element-preserved : goal.loop-element-preserved
loop-element-preserved c =
    let done = c.loop-element.all.items in
    element_more (map kind_data c.args.all.now.items) (map kind_data done) (map kind_data c.push.new.self.items) c.loop-element._element (kind_data c.args.kind) c.loop-element.invariant (ap (map kind_data) c.in_ok-push.ensures.items ∙ map_push kind_data done c.args.kind)
