-- What several files declare and say with each name resolved, and every fault of names in them.
use Rattle.std.specs.Prelude.{List, ◌++◌, flat_map}
use Rattle.spectra_trees.specs.Data.{TreeData}
use Rattle.spectra_resolved.specs.declared.findings.Finding.{Finding}
use Rattle.spectra_resolved.specs.Looks.{Names}
use Rattle.spectra_resolved.specs.Texts.{ResolvedText}
use Rattle.spectra_items.specs.Meanings.{variables_in, aliases_in, definitions_in, patterns_in, lines_in, faults_in}
use Rattle.spectra_declared.specs.Items.{FiledItem, items_from}
use Rattle.spectra_declared.specs.Declarations.{names_of, declaration_faults}

abbrev pub text_of_items : Names → List FiledItem → ResolvedText
text_of_items s items =
    record {
      names = s.enums;
      variables = flat_map (λ i. variables_in s i.0 i.1) items;
      types = flat_map (λ i. aliases_in s i.0 i.1) items;
      definitions = flat_map (λ i. definitions_in s i.0 i.1) items;
      patterns = flat_map (λ i. patterns_in s i.0 i.1) items;
      lines = flat_map (λ i. lines_in s i.0 i.1) items;
    }

-- what several files declare and say
abbrev pub text_of : List TreeData → ResolvedText
text_of trees = text_of_items (names_of (items_from 0 trees)) (items_from 0 trees)

abbrev pub item_faults : Names → List FiledItem → List Finding
item_faults s items = flat_map (λ i. faults_in s i.0 i.1) items

-- every fault of names in several files: of their declarations, and of what stands in them
abbrev pub faults_of : List TreeData → List Finding
faults_of trees = declaration_faults trees ++ item_faults (names_of (items_from 0 trees)) (items_from 0 trees)
