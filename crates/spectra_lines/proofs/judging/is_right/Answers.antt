use Rattle.spectra_resolved.specs.Views.{regex_data}
use Rattle.spectra_judge.specs.KindViews.{known_data}
use Rattle.spectra_lines.proofs.Firsts.{right_is}
use Rattle.spectra_lines.proofs.judging.is_right.Goals as goal

pub returns : goal.returns
returns c = let same = right_is (known_data c.args.known.now) (regex_data c.args.cause.now) (regex_data c.args.effect.now) c.in_ok-made.made c.in_ok-made.ensures in cc
