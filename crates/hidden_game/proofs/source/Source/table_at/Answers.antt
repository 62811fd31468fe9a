use Rattle.std.proofs.Common.{Some, None, sym, ap, ◌∙◌, arith}
use Rattle.std.proofs.lemmas.List.{length-map}
use Rattle.std.proofs.lemmas.Option.{slice_get_past}
use Rattle.spec_model.specs.Views.{trigger_data, spec_data}
use Rattle.hidden_game.proofs.Limits.{element, trigger_is_narrow}
use Rattle.hidden_game.proofs.Making.{table-trigger}
use Rattle.hidden_game.proofs.source.Source.table_at.Goals as goal

pub trigger_table-requires-clause-narrow : goal.trigger_table-requires-clause-narrow
trigger_table-requires-clause-narrow c =
    trigger_is_narrow (spec_data c.args.self.now.spec.now) c.requires.typed c.args.t (trigger_data c.index-trigger.result.now)
    (element trigger_data c.args.self.now.spec.now.triggers.items c.args.t c.index-trigger.result.now (omega (arith, c.if-t-len.false, c.len.ensures)) c.index-trigger.ensures)

pub returns-then-t-len : goal.returns-then-t-len
returns-then-t-len c =
    let s = spec_data c.args.self.now.spec.now in
    let many = length-map c.args.self.now.spec.now.triggers.items trigger_data in
    record { table = sym (table-trigger s c.args.t None (slice_get_past s.triggers c.args.t (omega (arith, c.if-t-len.true, c.len.ensures, many)))) }

pub returns : goal.returns
returns c =
    let s = spec_data c.args.self.now.spec.now in
    let there = element trigger_data c.args.self.now.spec.now.triggers.items c.args.t c.index-trigger.result.now (omega (arith, c.if-t-len.false, c.len.ensures)) c.index-trigger.ensures in
    record { table = ap Some c.in_ok-table.ensures ∙ sym (table-trigger s c.args.t (Some (trigger_data c.index-trigger.result.now)) there) }
