use Rattle.spectra_talks.proofs.Verified.{wins}
use Rattle.spectra_talks.proofs.laws.what_is_verified_wins.Goals as goal

pub returns : goal.returns
returns c = λ s bytes typed. wins s (c.sound_tables_win.ensures s typed) (c.only_tables_are_read.ensures s) bytes
