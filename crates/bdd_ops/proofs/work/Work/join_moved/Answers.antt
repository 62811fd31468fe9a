use Rattle.std.proofs.Common.{◌≡◌, ◌++◌, ◌∷◌, [], Err, sym, ◌∙◌, ap, rules}
use Rattle.bdd_store.proofs.Whole.{fault_of}
use Rattle.bdd_ops.specs.Questions.{MayMove}
use Rattle.bdd_ops.proofs.StayLemmas.{held_there, works_less, works_remembered}
use Rattle.bdd_ops.proofs.SpentLemmas.{full_spent, spent_results}
use Rattle.bdd_ops.proofs.ShiftLemmas.{target_known, target_below, moved_low_ignores, moved_high_ignores, moved_low_may, moved_high_may, moved_given, shifted_remembered}
use Rattle.bdd_ops.proofs.work.Work.join_moved.Goals as goal

pub target-to-requires-clause-known : goal.target-to-requires-clause-known
target-to-requires-clause-known c = target_known c.args.self.now c.args.list c.args.level 0 c.args.asked c.args.low.0 c.args.high.0 c.requires.halves

pub join-requires-clause-below : goal.join-requires-clause-below
join-requires-clause-below c = target_below c.args.self.now c.args.list c.args.level c.target-to.result c.args.asked c.args.low.0 c.args.high.0 c.requires.halves c.target-to.ensures

pub join-requires-clause-low_ignores : goal.join-requires-clause-low_ignores
join-requires-clause-low_ignores c = moved_low_ignores c.args.self.now c.args.list c.args.level c.target-to.result c.args.asked c.args.low.0 c.args.high.0 c.requires.halves c.target-to.ensures

pub join-requires-clause-high_ignores : goal.join-requires-clause-high_ignores
join-requires-clause-high_ignores c = moved_high_ignores c.args.self.now c.args.list c.args.level c.target-to.result c.args.asked c.args.low.0 c.args.high.0 c.requires.halves c.target-to.ensures

pub returns-in_err-edge-clause-works : goal.returns-in_err-edge-clause-works
returns-in_err-edge-clause-works c = works_less c.args.self.now c.join.new.self c.args.self.now.state.stack (c.args.low.0 ∷ c.args.high.0 ∷ []) c.join.ensures.works

pub returns-in_err-edge-clause-full : goal.returns-in_err-edge-clause-full
returns-in_err-edge-clause-full c full =
    let same : c.from_residual.result ≡ Err c.in_err-edge.field-0.0 = search rules in
    let may = MayMove c.args.self.now c.args.list c.args.asked.0 in
    spent_results c.args.self.now c.join.new.self c.args.self.now.state.stack c.args.low.0 c.args.high.0 may c.requires.halves.awaits.low_is.live c.requires.halves.high_is.live c.join.ensures.works
    (moved_low_may c.args.self.now c.args.list c.args.level 0 c.args.asked c.args.low.0 c.args.high.0 c.requires.halves) (moved_high_may c.args.self.now c.args.list c.args.level 0 c.args.asked c.args.low.0 c.args.high.0 c.requires.halves)
    (full_spent c.join.new.self (c.args.self.now.state.stack ++ c.args.low.0 ∷ c.args.high.0 ∷ []) may (c.join.ensures.full (c.in_err-edge.was ∙ ap Err (fault_of _ _ (sym same ∙ full)))))

pub remember_moved-requires-clause-moved : goal.remember_moved-requires-clause-moved
remember_moved-requires-clause-moved c =
    let works = works_less c.args.self.now c.join.new.self c.args.self.now.state.stack (c.args.low.0 ∷ c.args.high.0 ∷ []) c.join.ensures.works in
    moved_given c.args.self.now c.args.list c.args.level c.target-to.result c.args.asked c.args.low.0 c.args.high.0 c.requires.halves c.target-to.ensures c.join.new.self c.args.self.now.state.stack c.in_ok-edge.edge.0 works c.requires.held c.in_ok-edge.ensures.joined

pub returns-clause-given : goal.returns-clause-given
returns-clause-given c =
    let works = works_less c.args.self.now c.join.new.self c.args.self.now.state.stack (c.args.low.0 ∷ c.args.high.0 ∷ []) c.join.ensures.works in
    shifted_remembered c.join.new.self c.remember_moved.new.self c.args.list c.args.asked.0 c.in_ok-edge.edge.0 c.remember_moved.ensures.same (held_there c.args.self.now c.join.new.self c.args.self.now.state.stack c.args.asked.0 works c.requires.held).0
    (moved_given c.args.self.now c.args.list c.args.level c.target-to.result c.args.asked c.args.low.0 c.args.high.0 c.requires.halves c.target-to.ensures c.join.new.self c.args.self.now.state.stack c.in_ok-edge.edge.0 works c.requires.held c.in_ok-edge.ensures.joined)

pub returns-clause-works : goal.returns-clause-works
returns-clause-works c =
    works_remembered c.args.self.now c.join.new.self c.remember_moved.new.self c.args.self.now.state.stack (works_less c.args.self.now c.join.new.self c.args.self.now.state.stack (c.args.low.0 ∷ c.args.high.0 ∷ []) c.join.ensures.works) c.remember_moved.ensures.same

pub remember_moved-requires-clause-live : goal.remember_moved-requires-clause-live
remember_moved-requires-clause-live c = (held_there c.args.self.now c.join.new.self c.args.self.now.state.stack c.args.asked.0 (works_less c.args.self.now c.join.new.self c.args.self.now.state.stack (c.args.low.0 ∷ c.args.high.0 ∷ []) c.join.ensures.works) c.requires.held).0
