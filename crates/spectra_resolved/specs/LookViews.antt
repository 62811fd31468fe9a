-- What the program's scopes and look-ups stand for.
use Rattle.std.specs.Prelude.{Option, Some, None, map}
use Rattle.std.specs.Borrow.{Bor}
use Rattle.spectra_resolved.specs.declared.table.Table.{Table}
use Rattle.spectra_resolved.specs.declared.look.Scope.{Scope}
use Rattle.spectra_resolved.specs.declared.look.Look.{Look}
use Rattle.spectra_resolved.specs.Tables.{in_table}
use Rattle.spectra_resolved.specs.Spaces.{no_names}
use Rattle.spectra_resolved.specs.EnumViews.{names_in}
use Rattle.spectra_resolved.specs.MentionViews.{mention_data}
use Rattle.spectra_resolved.specs.Looks.{Looking, Names, looked_up, through_quantifiers}

abbrev pub scope_data : Scope → Names
scope_data s = record { enums = names_in s.names; values = λ text. in_table s.values text; types = λ text. in_table s.types text; patterns = λ text. in_table s.patterns text; lines = λ text. in_table s.lines text }

-- what is declared around, where anything is
abbrev pub around_data : Option (Bor Table) → Looking
around_data (Some t) = λ text. in_table t.now text
around_data None = no_names

abbrev pub look_data : Look → Looking
look_data l text = through_quantifiers (map mention_data l.quantified.now) text (looked_up l.sight (scope_data l.scope.now) (around_data l.around) text)
