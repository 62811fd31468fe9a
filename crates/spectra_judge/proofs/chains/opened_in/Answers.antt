use Rattle.std.proofs.Common.{drop, map}
use Rattle.spectra_resolved.specs.Views.{link_data}
use Rattle.spectra_judge.proofs.Chained.{opened_by}
use Rattle.spectra_judge.proofs.chains.opened_in.Goals as goal

pub returns : goal.returns
returns c = λ around place. opened_by (map link_data (drop place c.args.links.now)) _ place (c.past_until.ensures place) (c.bringing_in.ensures place) around
