use Rattle.std.proofs.Common.{◌≡◌, ℕ, List, [], ◌∷◌, map, string_bytes, refl, ap, ◌∙◌}
use Rattle.std.proofs.lemmas.List.{take_all}
use Rattle.spectra_trees.specs.declared.tree.Name.{Name}
use Rattle.spectra_trees.specs.Data.{NameData}
use Rattle.spectra_trees.specs.Views.{name_data}
use Rattle.spectra_files.specs.Reading.{import_name}
use Rattle.spectra_files.proofs.importing.import_names.Goals as goal

of_each : (file : List ℕ) (items : List Name) → map (λ (n : Name). import_name file (string_bytes n.text)) items ≡ map (λ (n : NameData). import_name file n.text) (map name_data items)
of_each file [] = refl
of_each file (n ∷ items) = ap (λ names. import_name file (string_bytes n.text) ∷ names) (of_each file items)

pub returns : goal.returns
returns c =
    let all = take_all c.loop-import.import-index c.imports-import-items.result.now c.loop-import-test.false ∙ c.imports-import-items.ensures in
    c.loop-import.invariant ∙ (ap (map (λ (n : Name). import_name c.args.file.now (string_bytes n.text))) all ∙ of_each c.args.file.now c.args.tree.now.imports.items)
