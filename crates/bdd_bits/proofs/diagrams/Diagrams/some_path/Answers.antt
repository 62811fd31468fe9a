use Rattle.std.proofs.Common.{◌≡◌, ◌∙◌, ℕ, length, refl, sym, ap, subst, arith}
use Rattle.spec_model.specs.DiagramReads.{bits_of}
use Rattle.bdd_ops.specs.Paths.{HasNone}
use Rattle.bdd_bits.specs.Contents.{Contents}
use Rattle.bdd_bits.specs.Paths.{all_of}
use Rattle.bdd_bits.specs.Settling.{IsSome}
use Rattle.bdd_bits.proofs.PathLemmas.{some_by_level, none_by_level}
use Rattle.bdd_bits.proofs.diagrams.Diagrams.some_path.Goals as goal

pub returns-then-not-first_common_path-clause-none : goal.returns-then-not-first_common_path-clause-none
returns-then-not-first_common_path-clause-none c = λ no.
    let v : Contents = record { state = c.self.inside.over_levels.state; lists = c.self.inside.over_levels.lists; order = c.self.inside.order } in
    let seen : c.args.self.now.state.table.levels ≡ v.state.table.levels = ap (λ (d : Contents). d.state.table.levels) (sym c.self.view_is) in
    let each : length c.args.fixed.now ≡ v.state.table.levels = c.requires.each.0 ∙ seen in
    let placed_each : length c.write_fixed.new.by_level ≡ v.state.table.levels = c.write_fixed.auto.by_level ∙ (c.requires.room.0 ∙ seen) in
    subst (λ (d : Contents). HasNone c.args.fixed.now (all_of d c.args.rows.now.roots) 0) c.self.view_is
    (none_by_level v v.state.table.levels c.self.invariant.0 c.args.fixed.now c.write_fixed.new.by_level c.args.rows.now.roots each placed_each (λ level below. c.write_fixed.ensures level (omega (arith, below, each)))
    (c.if-not-first_common_path.ensures.none refl))

pub returns-clause-some : goal.returns-clause-some
returns-clause-some c = λ yes.
    let v : Contents = record { state = c.self.inside.over_levels.state; lists = c.self.inside.over_levels.lists; order = c.self.inside.order } in
    let seen : c.args.self.now.state.table.levels ≡ v.state.table.levels = ap (λ (d : Contents). d.state.table.levels) (sym c.self.view_is) in
    let each : length c.args.fixed.now ≡ v.state.table.levels = c.requires.each.0 ∙ seen in
    let placed_each : length c.write_fixed.new.by_level ≡ v.state.table.levels = c.write_fixed.auto.by_level ∙ (c.requires.room.0 ∙ seen) in
    let bits_each : length c.write_bits.new.bits ≡ v.state.table.levels = c.write_bits.auto.bits ∙ (c.requires.each.1 ∙ seen) in
    let by_each : length c.first_common_path.new.out ≡ v.state.table.levels = c.first_common_path.auto.out ∙ (c.requires.room.1 ∙ seen) in
    subst (λ (d : Contents). IsSome c.args.fixed.now (all_of d c.args.rows.now.roots) (bits_of c.write_bits.new.bits)) c.self.view_is
    (some_by_level v v.state.table.levels c.self.invariant.0 c.args.fixed.now c.write_fixed.new.by_level c.write_bits.new.bits c.first_common_path.new.out c.args.rows.now.roots _ each placed_each (λ level below. c.write_fixed.ensures level (omega (arith, below, each)))
    bits_each by_each (λ bit below. c.write_bits.ensures bit (omega (arith, below, by_each))) (c.if-not-first_common_path.ensures.first yes))
