use Rattle.std.proofs.Common.{true, false, map, ap, subst}
use Rattle.spectra_uses.specs.Walking.{Walks, Marks}
use Rattle.spectra_uses.specs.Settling.{rings_data}
use Rattle.spectra_uses.proofs.Settled.{settles_on, is_settled}
use Rattle.spectra_uses.proofs.cycles.Rings.settle_new.Goals as goal

pub returns-clause-on : goal.returns-clause-on
returns-clause-on c =
    let s = rings_data c.args.self.now in
    let old = c.requires.settling in
    let number = c.args.number in
    let behind = c.in_ok-behind.behind.items in
    let around = c.in_ok-around.around.items in
    let after = c.walk.new.marks.items in
    let opened = c.set_marks.new.marks.items in
    let mid = c.walk-2.new.marks.items in
    let closed = c.set_marks-2.new.marks.items in
    let ended = c.set_marks-3.new.marks.items in
    let last = c.set_marks-4.new.marks.items in
    let settled = c.set_mark.new.marks.items in
    let table = c.set_marks-5.new.marks.items in
    let back = subst (λ us. Walks us number s.settled after behind) (ap (map (λ us. us.items)) c.deref.ensures.value) c.in_ok-behind.ensures in
    let begun = subst (λ xs. Marks s.apart opened xs false) c.deref-2.ensures.value c.set_marks.ensures in
    let shut = subst (λ xs. Marks mid closed xs true) c.deref-3.ensures.value c.set_marks-2.ensures in
    let freed = subst (λ xs. Marks after ended xs false) c.deref-4.ensures.value c.set_marks-3.ensures in
    let ringed = subst (λ xs. Marks ended last xs true) c.deref-5.ensures.value c.set_marks-4.ensures in
    let told = subst (λ xs. Marks s.table table xs true) c.deref-6.ensures.value c.set_marks-5.ensures in
    settles_on s.uses s.users number s.settled after s.apart mid opened s.table behind around old.users old.settled c.requires.new back old.room old.apart begun c.in_ok-around.ensures
    closed ended last settled table shut freed ringed c.set_mark.ensures told

pub returns-clause-known : goal.returns-clause-known
returns-clause-known c =
    let s = rings_data c.args.self.now in
    let old = c.requires.settling in
    let number = c.args.number in
    let behind = c.in_ok-behind.behind.items in
    let around = c.in_ok-around.around.items in
    let after = c.walk.new.marks.items in
    let opened = c.set_marks.new.marks.items in
    let mid = c.walk-2.new.marks.items in
    let closed = c.set_marks-2.new.marks.items in
    let ended = c.set_marks-3.new.marks.items in
    let last = c.set_marks-4.new.marks.items in
    let settled = c.set_mark.new.marks.items in
    let table = c.set_marks-5.new.marks.items in
    let back = subst (λ us. Walks us number s.settled after behind) (ap (map (λ us. us.items)) c.deref.ensures.value) c.in_ok-behind.ensures in
    let begun = subst (λ xs. Marks s.apart opened xs false) c.deref-2.ensures.value c.set_marks.ensures in
    let shut = subst (λ xs. Marks mid closed xs true) c.deref-3.ensures.value c.set_marks-2.ensures in
    let freed = subst (λ xs. Marks after ended xs false) c.deref-4.ensures.value c.set_marks-3.ensures in
    let ringed = subst (λ xs. Marks ended last xs true) c.deref-5.ensures.value c.set_marks-4.ensures in
    let told = subst (λ xs. Marks s.table table xs true) c.deref-6.ensures.value c.set_marks-5.ensures in
    is_settled s.uses s.users number s.settled after s.apart mid opened s.table behind around old.users old.settled c.requires.new back old.room old.apart begun c.in_ok-around.ensures
    closed ended last settled table shut freed ringed c.set_mark.ensures told
