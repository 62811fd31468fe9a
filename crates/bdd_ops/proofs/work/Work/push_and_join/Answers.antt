use Rattle.std.proofs.Common.{◌≡◌, ◌++◌, ◌∷◌, [], IfOk, sym, ◌∙◌, subst}
use Rattle.std.proofs.lemmas.List.{append-nil}
use Rattle.spec_model.specs.Diagrams.{value}
use Rattle.node_table.specs.Table.{Table, diagram_at}
use Rattle.bdd_ops.specs.Functions.{joined, join_of}
use Rattle.bdd_ops.specs.Steps.{HasFunction, IsJoinOfParts}
use Rattle.bdd_ops.proofs.StayLemmas.{same_there, same_on, two_pushed, works_same}
use Rattle.bdd_ops.proofs.PushLemmas.{low_on_stack, high_on_stack, works_pushed, over_pushed, spent_pushed}
use Rattle.bdd_ops.proofs.work.Work.push_and_join.Goals as goal

pub returns-in_err-push-clause-works : goal.returns-in_err-push-clause-works
returns-in_err-push-clause-works c = works_same c.args.self.now c.push.new.self _ c.push.ensures.same

pub returns-in_err-push-clause-over : goal.returns-in_err-push-clause-over
returns-in_err-push-clause-over c = ([], c.in_err-push.ensures.refused ∙ sym (append-nil c.args.self.now.state.stack))

pub push-requires-2 : goal.push-requires-2
push-requires-2 c = (same_there c.args.self.now c.push.new.self c.args.high.0 c.push.ensures.same c.requires.high_live).0

pub returns-in_err-push-2-clause-works : goal.returns-in_err-push-2-clause-works
returns-in_err-push-2-clause-works c = works_same c.args.self.now c.push-2.new.self _ (same_on c.args.self.now c.push.new.self c.push-2.new.self c.push.ensures.same c.push-2.ensures.same)

pub returns-in_err-push-2-clause-over : goal.returns-in_err-push-2-clause-over
returns-in_err-push-2-clause-over c = (c.args.low.0 ∷ [], c.in_err-push-2.ensures.refused ∙ c.in_ok-push.ensures.pushed)

pub joined-requires-clause-a_held : goal.joined-requires-clause-a_held
joined-requires-clause-a_held c =
    let same = same_on c.args.self.now c.push.new.self c.push-2.new.self c.push.ensures.same c.push-2.ensures.same in
    let two = two_pushed c.args.self.now.state.stack c.push.new.self.state.stack c.push-2.new.self.state.stack c.args.low.0 c.args.high.0 c.in_ok-push.ensures.pushed c.in_ok-push-2.ensures.pushed in
    low_on_stack c.args.self.now c.push-2.new.self c.args.low.0 c.args.high.0 same two c.requires.low_live

pub joined-requires-clause-b_held : goal.joined-requires-clause-b_held
joined-requires-clause-b_held c =
    let same = same_on c.args.self.now c.push.new.self c.push-2.new.self c.push.ensures.same c.push-2.ensures.same in
    let two = two_pushed c.args.self.now.state.stack c.push.new.self.state.stack c.push-2.new.self.state.stack c.args.low.0 c.args.high.0 c.in_ok-push.ensures.pushed c.in_ok-push-2.ensures.pushed in
    high_on_stack c.args.self.now c.push-2.new.self c.args.low.0 c.args.high.0 same two c.requires.high_live

pub returns-clause-joined : goal.returns-clause-joined
returns-clause-joined c =
    let same = same_on c.args.self.now c.push.new.self c.push-2.new.self c.push.ensures.same c.push-2.ensures.same in
    subst (λ (t : Table). IfOk c.joined.result (λ e. HasFunction c.joined.new.self (joined (join_of c.args.all) (value (diagram_at t c.args.low.0)) (value (diagram_at t c.args.high.0))) e.0)) same.table c.joined.ensures.joined

pub returns-clause-works : goal.returns-clause-works
returns-clause-works c =
    let same = same_on c.args.self.now c.push.new.self c.push-2.new.self c.push.ensures.same c.push-2.ensures.same in
    let two = two_pushed c.args.self.now.state.stack c.push.new.self.state.stack c.push-2.new.self.state.stack c.args.low.0 c.args.high.0 c.in_ok-push.ensures.pushed c.in_ok-push-2.ensures.pushed in
    works_pushed c.args.self.now c.push-2.new.self c.args.low.0 c.args.high.0 same two c.joined.new.self c.joined.ensures.works

pub returns-clause-over : goal.returns-clause-over
returns-clause-over c =
    let same = same_on c.args.self.now c.push.new.self c.push-2.new.self c.push.ensures.same c.push-2.ensures.same in
    let two = two_pushed c.args.self.now.state.stack c.push.new.self.state.stack c.push-2.new.self.state.stack c.args.low.0 c.args.high.0 c.in_ok-push.ensures.pushed c.in_ok-push-2.ensures.pushed in
    over_pushed c.args.self.now c.push-2.new.self c.args.low.0 c.args.high.0 same two c.joined.new.self c.joined.ensures.stack

pub returns-clause-full : goal.returns-clause-full
returns-clause-full c is =
    let same = same_on c.args.self.now c.push.new.self c.push-2.new.self c.push.ensures.same c.push-2.ensures.same in
    let two = two_pushed c.args.self.now.state.stack c.push.new.self.state.stack c.push-2.new.self.state.stack c.args.low.0 c.args.high.0 c.in_ok-push.ensures.pushed c.in_ok-push-2.ensures.pushed in
    spent_pushed c.args.self.now c.push-2.new.self c.args.low.0 c.args.high.0 same two c.joined.new.self (IsJoinOfParts (join_of c.args.all)) (c.joined.ensures.full is)
