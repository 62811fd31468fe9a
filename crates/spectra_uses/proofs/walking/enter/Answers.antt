use Rattle.std.proofs.Common.{true, [], ◌∷◌, slice_get, slice_set, sym, subst, ◌∙◌}
use Rattle.spectra_uses.specs.Searching.{is_unmarked, IsKnown}
use Rattle.spectra_uses.specs.Walking.{Enters}
use Rattle.spectra_uses.proofs.Marked.{unmarked, set-there}
use Rattle.spectra_uses.proofs.Walked.{enters_not, enters_one}
use Rattle.spectra_uses.proofs.walking.enter.Goals as goal

pub returns-in_ok-push-clause-enters : goal.returns-in_ok-push-clause-enters
returns-in_ok-push-clause-enters c =
    let marks = c.args.marks.now.items in
    let reached = c.args.reached.now.items in
    let v = c.args.number in
    let new = unmarked (slice_get marks v) ((λ i. is_unmarked (slice_get (sym c.deref.ensures.value i) v)) ∙ sym c.is_new.ensures ∙ c.if-is_new.true) in
    subst (λ ms. Enters marks ms reached c.push.new.self.items (v ∷ [])) (sym c.set_mark.ensures)
    (subst (λ rs. Enters marks (slice_set marks v true) reached rs (v ∷ [])) (sym c.in_ok-push.ensures.items) (enters_one marks reached v new))

pub returns-in_ok-push-clause-known : goal.returns-in_ok-push-clause-known
returns-in_ok-push-clause-known c = subst (λ ms. IsKnown ms c.args.number) (sym c.set_mark.ensures) (set-there c.args.marks.now.items c.args.number)

pub returns-else-is_new-clause-enters : goal.returns-else-is_new-clause-enters
returns-else-is_new-clause-enters c = enters_not c.args.marks.now.items c.args.reached.now.items (c.args.number ∷ [])
