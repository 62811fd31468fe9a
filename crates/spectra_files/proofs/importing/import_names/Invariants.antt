use Rattle.std.proofs.Common.{◌≡◌, map, take, string_bytes}
use Rattle.spectra_files.specs.Reading.{import_name}
use Rattle.spectra_files.proofs.importing.import_names.Given as goal

-- the names so far
abbrev pub invariant-loop-import : goal.invariant-loop-import
invariant-loop-import l = map string_bytes l.names.items ≡ map (λ n. import_name l.file (string_bytes n.text)) (take l.import-index l.import-items)
