use Rattle.std.proofs.Common.{◌≡◌, Some, length, map, slice_get, refl, subst, arith}
use Rattle.std.proofs.lemmas.Option.{slice_get_read}
use Rattle.spectra_uses.specs.Searching.{AreKnown}
use Rattle.spectra_uses.specs.Walking.{Enters}
use Rattle.spectra_uses.proofs.Marked.{marked-most}
use Rattle.spectra_uses.proofs.Walked.{walk_begins, walk_on, walk_done}
use Rattle.spectra_uses.proofs.walking.walk.Goals as goal

pub loop-head-init : goal.loop-head-init
loop-head-init c =
    let links = map (λ us. us.items) c.args.links.now in
    let old = c.args.marks.now.items in
    let marks = c.enter_each.new.marks.items in
    let none = c.new-reached.result.items in
    let reached = c.enter_each.new.reached.items in
    walk_begins links c.args.from old marks none reached c.new-reached.ensures.items
    (subst (Enters old marks none reached) c.uses_at.ensures c.in_ok-enter_each.ensures.enters) (subst (AreKnown marks) c.uses_at.ensures c.in_ok-enter_each.ensures.known)

pub loop-head-smaller : goal.loop-head-smaller
loop-head-smaller c =
    let walk = c.loop-head.invariant in
    let most = marked-most c.loop-head.marks.items in
    let counted = walk.counted in
    let size = c.in_ok-enter_each-2.ensures.enters.size in
    omega arith

pub loop-head-preserved : goal.loop-head-preserved
loop-head-preserved c =
    let links = map (λ us. us.items) c.args.links.now in
    let mid = c.loop-head.marks.items in
    let marks = c.enter_each-in-loop-head.new.marks.items in
    let reached = c.loop-head.reached.items in
    let new = c.enter_each-in-loop-head.new.reached.items in
    let head = c.loop-head.head in
    let p = c.index.result.now in
    let at : slice_get reached head ≡ Some p = slice_get_read reached (length reached) head p refl (omega arith) c.index.ensures in
    walk_on links c.args.from c.args.marks.now.items mid marks reached new head p c.loop-head.invariant at
    (subst (Enters mid marks reached new) c.uses_at-list.ensures c.in_ok-enter_each-2.ensures.enters) (subst (AreKnown marks) c.uses_at-list.ensures c.in_ok-enter_each-2.ensures.known)

pub returns : goal.returns
returns c =
    walk_done (map (λ us. us.items) c.args.links.now) c.args.from c.args.marks.now.items c.loop-head.marks.items c.loop-head.reached.items c.loop-head.head c.loop-head.invariant (omega arith)
