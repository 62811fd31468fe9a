use Rattle.std.proofs.Common.{map}
use Rattle.spec_model.specs.GameViews.{game_data, hidden_data}
use Rattle.bit_compile.proofs.DomainLemmas.{tables_filled, joined_domains}
use Rattle.bit_compile.proofs.codes.Codes.make.Goals as goal

pub with_tables-requires : goal.with_tables-requires
with_tables-requires c = rw c.deref.ensures.value (tables_filled _ (map hidden_data c.args.game.now.hidden.items) c.requires.made.hidden)

pub returns : goal.returns
returns c = record { domains = joined_domains (game_data c.args.game.now) c.nothing.result c.in_ok-tables.tables c.in_ok-inputs.inputs c.with_variables-2.result c.nothing.ensures (rw c.deref.ensures.value at c.in_ok-tables.ensures) (rw c.deref-2.ensures.value at c.in_ok-inputs.ensures) (rw c.deref-3.ensures.value at c.with_variables-2.ensures) }
