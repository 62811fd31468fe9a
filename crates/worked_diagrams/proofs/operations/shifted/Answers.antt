use Rattle.std.proofs.Common.{◌≡◌, ◌∙◌, Ok, [], ◌∷◌, arith}
use Rattle.spec_model.specs.Diagrams.{exists_over}
use Rattle.bdd_store.specs.State.{AddsRoot}
use Rattle.bdd_ops.specs.Contents.{function_at}
use Rattle.bdd_ops.proofs.ReadingLemmas.{some_without}
use Rattle.worked_diagrams.proofs.RootLemmas.{rises_but_last, root_stays}
use Rattle.worked_diagrams.proofs.operations.shifted.Goals as goal

pub shift-requires-clause-rising : goal.shift-requires-clause-rising
shift-requires-clause-rising g c =
    let is_ok : c.exists.result ≡ Ok c.expect-some.result = c.expect-some.ensures in
    let is : function_at c.exists.new.self c.expect-some.result ≡ exists_over (2 ∷ []) (function_at c.args.diagrams.now c.args.a.now) = rw is_ok at c.exists.ensures.meaning in
    rises_but_last _ _ (c.exists.ensures.keeps.levels ∙ c.requires.levels) (some_without 2 (function_at c.args.diagrams.now c.args.a.now) _ is)

pub release-requires : goal.release-requires
release-requires g c =
    let some_ok : c.exists.result ≡ Ok c.expect-some.result = c.expect-some.ensures in
    let moved_ok : c.shift.result ≡ Ok c.expect-moved.result = c.expect-moved.ensures in
    let some_adds : AddsRoot c.args.diagrams.now.state c.exists.new.self.state c.expect-some.result = rw some_ok at c.exists.ensures.added in
    let moved_adds : AddsRoot c.exists.new.self.state c.shift.new.self.state c.expect-moved.result = rw moved_ok at c.shift.ensures.added in
    root_stays c.args.diagrams.now.state c.exists.new.self.state c.shift.new.self.state _ _ some_adds moved_adds

pub returns-clause-added : goal.returns-clause-added
returns-clause-added g c n =
    let some_ok : c.exists.result ≡ Ok c.expect-some.result = c.expect-some.ensures in
    let moved_ok : c.shift.result ≡ Ok c.expect-moved.result = c.expect-moved.ensures in
    let some_adds : AddsRoot c.args.diagrams.now.state c.exists.new.self.state c.expect-some.result = rw some_ok at c.exists.ensures.added in
    let moved_adds : AddsRoot c.exists.new.self.state c.shift.new.self.state c.expect-moved.result = rw moved_ok at c.shift.ensures.added in
    omega (arith, some_adds n, moved_adds n, c.release.ensures.released n)
