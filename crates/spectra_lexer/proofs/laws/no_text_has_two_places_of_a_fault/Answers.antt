use Rattle.spectra_lexer.proofs.Outcomes.{broken_is_no_utf8, one_broken_place, one_bad_place}
use Rattle.spectra_lexer.proofs.laws.no_text_has_two_places_of_a_fault.Goals as goal

pub returns-clause-broken : goal.returns-clause-broken
returns-clause-broken c = λ a b e d. one_broken_place c.args.text.now a b e d

pub returns-clause-bad : goal.returns-clause-bad
returns-clause-bad c = λ a b e d. one_bad_place c.args.text.now a b e d

pub returns-clause-apart : goal.returns-clause-apart
returns-clause-apart c = λ a b e d broken bad. broken_is_no_utf8 c.args.text.now a b broken bad.utf8
