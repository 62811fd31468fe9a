use Rattle.std.proofs.Common.{◌≡◌, ◌<◌, length, vec_len, sym, subst, arith}
use Rattle.spectra_uses.specs.Placing.{placing_data, left, PlacesOn}
use Rattle.spectra_uses.proofs.Placed.{popped, places_on, places_less}
use Rattle.spectra_uses.proofs.placing.Placer.place.Goals as goal

pub returns-clause-on : goal.returns-clause-on
returns-clause-on c =
    let s = placing_data c.args.self.now in
    let size : vec_len c.args.self.now.path ≡ length s.path = omega arith in
    let path = popped s.path c.pop.new.self.items (vec_len c.args.self.now.path) c.args.number size c.pop.ensures.rest c.requires.last in
    subst (λ o. PlacesOn s (record s { path = c.pop.new.self.items; order = o })) (sym c.in_ok-push.ensures.items)
    (places_on s c.pop.new.self.items c.args.number path c.requires.placing c.requires.known)

pub returns-clause-less : goal.returns-clause-less
returns-clause-less c =
    let s = placing_data c.args.self.now in
    let size : vec_len c.args.self.now.path ≡ length s.path = omega arith in
    let path = popped s.path c.pop.new.self.items (vec_len c.args.self.now.path) c.args.number size c.pop.ensures.rest c.requires.last in
    subst (λ o. left (record s { path = c.pop.new.self.items; order = o }) < left s) (sym c.in_ok-push.ensures.items)
    (places_less s c.pop.new.self.items c.args.number path c.requires.placing c.requires.known)
