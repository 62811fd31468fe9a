use Rattle.std.proofs.Common.{◌∙◌, sym, ap}
use Rattle.strategy_tables.specs.Views.{node_data}
use Rattle.game_play.specs.Sights.{read_so_far}
use Rattle.table_check.specs.Turns.{game_at}
use Rattle.table_check.proofs.turn.Turn.broken_by_input.Goals as goal

pub returns-in-Some : goal.returns-in-Some
returns-in-Some c =
    let read = rw c.in-Some.is at c.requires.turn.read in
    let s = (node_data c.in-Some.field-0.now).state in
    rw c.in-Some.is
    (c.first_broken_after.ensures.none s read.0
    (record {
      lists = read.1.lists ∙ sym c.deref-in-Some.ensures.value;
      read = ap (read_so_far (game_at c.args.self.now).hidden) c.deref-in-Some-2.ensures.value ∙ read.1.read;
      next = c.deref-in-Some-3.ensures.value ∙ read.1.next;
    }))
