use Rattle.spectra_resolved.specs.Views.{resolved_data}
use Rattle.spectra_elaboration.specs.Putting.{put_in as put_in_lem}
use Rattle.spectra_lines.specs.Views.{facts_data}
use Rattle.spectra_lines.proofs.Puts.{puts_within}
use Rattle.spectra_lines.proofs.putting.put_written.Goals as goal

pub returns : goal.returns
returns c =
    puts_within (put_in_lem (facts_data c.args.facts.now).bodies (resolved_data c.args.t.now)) c.in_ok-put_in.field-0 c.made_of.result c.in_ok-put_in.ensures c.made_of.ensures
