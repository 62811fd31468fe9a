use Rattle.std.proofs.Common.{sym, ◌∙◌}
use Rattle.std.proofs.lemmas.Result.{IfOk-weaker}
use Rattle.spectra_resolved.specs.Views.{resolved_data}
use Rattle.spectra_judge.specs.KindViews.{known_data}
use Rattle.spectra_cases.proofs.Sized.{size_is}
use Rattle.spectra_cases.proofs.sizes.size_of.Goals as goal

pub returns : goal.returns
returns c = IfOk-weaker c.measure_apart.result _ _ (λ size e params. e ∙ sym (size_is (known_data c.args.known.now) params (resolved_data c.args.t.now))) c.measure_apart.ensures
