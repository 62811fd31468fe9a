use Rattle.std.proofs.Common.{◌∙◌, rules}
use Rattle.std.proofs.lemmas.Map.Text.{hash_map_updates_str}
use Rattle.spectra_resolved.specs.Tables.{in_table}
use Rattle.spectra_resolved.proofs.Entered.{put_first}
use Rattle.spectra_resolved.proofs.table.Table.put.Goals as goal

pub returns-in_ok-insert : goal.returns-in_ok-insert
returns-in_ok-insert c = λ text.
    hash_map_updates_str c.args.name.now c.args.self.now.entries c.insert.new.self _ c.in_ok-insert.ensures.updates text ∙ put_first (in_table c.args.self.now) c.args.name.now c.args.named (search rules) text
