use Rattle.std.proofs.Common.{map, ap, ◌∙◌, Bor, List, ℕ}
use Rattle.spectra_resolved.proofs.Mapped.{map-insert_key}
use Rattle.spectra_resolved.proofs.enum_names.EnumNames.add.Goals as goal

pub returns : goal.returns
returns c = ap (map (λ (x : Bor (List ℕ)). x.now)) c.in_ok-insert.ensures.keys ∙ map-insert_key c.as_str.result _ _ c.as_str.ensures.value
