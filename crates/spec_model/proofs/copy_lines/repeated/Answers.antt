use Rattle.std.proofs.Common.{sym, ◌∙◌, ap}
use Rattle.spec_model.specs.Around.{around}
use Rattle.spec_model.specs.Views.{regular}
use Rattle.spec_model.proofs.Repeats.{around-append}
use Rattle.spec_model.proofs.copy_lines.repeated.Goals as goal

pub repeats-preserved : goal.repeats-preserved
repeats-preserved c =
    ap (around c.pop.new.self.items) c.in_ok-made.ensures
    ∙ (sym (around-append c.pop.new.self.items c.in-Some.times (regular c.repeats.made))
    ∙ (ap (λ ts. around ts (regular c.repeats.made)) (sym c.in-Some.ensures.items)
    ∙ c.repeats.invariant))
