use Rattle.std.proofs.Common.{◌<◌, true, slice_set, sym, subst}
use Rattle.spectra_uses.specs.Placing.{placing_data, left, PlacesOn}
use Rattle.spectra_uses.proofs.Marked.{set-there}
use Rattle.spectra_uses.proofs.Placed.{open_one, opens_on, opens_less}
use Rattle.spectra_uses.proofs.placing.Placer.open.Goals as goal

pub returns-clause-on : goal.returns-clause-on
returns-clause-on c =
    let s = placing_data c.args.self.now in
    subst (λ p. PlacesOn s (record s { path = p; marks = slice_set s.marks c.args.number true })) (sym c.in_ok-push.ensures.items) (opens_on s c.args.number c.requires.placing c.requires.new c.requires.next)

pub returns-clause-known : goal.returns-clause-known
returns-clause-known c = set-there c.args.self.now.marks.items c.args.number

pub returns-clause-less : goal.returns-clause-less
returns-clause-less c =
    let s = placing_data c.args.self.now in
    subst (λ p. left (record s { path = p; marks = slice_set s.marks c.args.number true }) < left s) (sym c.in_ok-push.ensures.items)
    (opens_less s c.args.number c.requires.placing (open_one s c.args.number c.requires.placing c.requires.new c.requires.next))
