-- What an item adds to the program's text.
use Rattle.std.specs.Prelude.{◌≡◌}
use Rattle.spectra_resolved.specs.declared.text.Text.{Text}
use Rattle.spectra_resolved.specs.Looks.{Names}
use Rattle.spectra_resolved.specs.TextViews.{variable_data, alias_data, definition_data, pattern_data, line_data}
use Rattle.spectra_items.specs.Meanings.{variables_in, aliases_in, definitions_in, patterns_in, lines_in}
use Rattle.spectra_items.specs.Steps.{Adds}
use Rattle.spectra_declared.specs.Items.{FiledItem}

-- what an item says stands behind what a text said
pub record AddsItem (s : Names) (i : FiledItem) (old new : Text) : Type 0 where
  pub names : new.names ≡ old.names
  pub variables : Adds variable_data old.variables.items new.variables.items (variables_in s i.0 i.1)
  pub types : Adds alias_data old.types.items new.types.items (aliases_in s i.0 i.1)
  pub definitions : Adds definition_data old.definitions.items new.definitions.items (definitions_in s i.0 i.1)
  pub patterns : Adds pattern_data old.patterns.items new.patterns.items (patterns_in s i.0 i.1)
  pub lines : Adds line_data old.lines.items new.lines.items (lines_in s i.0 i.1)
