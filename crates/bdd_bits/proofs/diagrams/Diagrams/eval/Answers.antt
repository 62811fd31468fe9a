use Rattle.std.proofs.Common.{◌≡◌, ◌∙◌, Bool, List, length, sym, ap, subst, arith}
use Rattle.std.proofs.lemmas.List.{with_items_is}
use Rattle.spec_model.specs.Diagrams.{Diagram, value}
use Rattle.spec_model.specs.DiagramReads.{bits_of}
use Rattle.bdd_store.specs.State.{diagram_of}
use Rattle.bdd_ops.specs.Together.{Together}
use Rattle.bdd_bits.specs.Contents.{Contents, function_at}
use Rattle.bdd_bits.proofs.PathLemmas.{bits_by_level}
use Rattle.bdd_bits.proofs.diagrams.Diagrams.eval.Goals as goal

pub returns-clause-value : goal.returns-clause-value
returns-clause-value c =
    let v : Contents = record { state = c.self.inside.over_levels.state; lists = c.self.inside.over_levels.lists; order = c.self.inside.order } in
    let d : Diagram = diagram_of v.state c.args.a.now in
    let bits : List Bool = c.args.bits.now in
    let placed : List Bool = c.write_by_level.new.by_level in
    let seen : c.args.self.now.state.table.levels ≡ v.state.table.levels = ap (λ (e : Contents). e.state.table.levels) (sym c.self.view_is) in
    let each : length bits ≡ v.state.table.levels = c.requires.one_each ∙ seen in
    let asked : c.all.inside.room.over_levels.levels ≡ c.args.all.now.levels = ap (λ (t : Together). t.levels) c.all.view_is in
    let room = c.all.invariant.by_level in
    let levels = c.requires.levels in
    let long = c.write_by_level.auto.by_level in
    let whole = c.deref_mut.ensures.len in
    let placed_each : length placed ≡ v.state.table.levels = omega (arith, seen, asked, room, levels, long, whole) in
    let ok = c.all.inside.room.by_level.ok.0 in
    let written : c.deref.result.now ≡ placed = c.deref.ensures.value ∙ with_items_is c.all.inside.room.by_level placed (omega (arith, ok, long, whole)) in
    subst (λ (e : Contents). c.eval.result ≡ function_at e c.args.a.now (bits_of bits)) c.self.view_is
    (c.eval.ensures ∙ (ap (λ (bs : List Bool). value d (bits_of bs)) written ∙ ap (value d) (sym (bits_by_level v.state.table.levels v.order c.self.invariant.0 bits placed each placed_each (λ level below. c.write_by_level.ensures level (omega (arith, below, each)))))))
