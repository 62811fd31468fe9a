use Rattle.std.proofs.Common.{◌≡◌, Some, length, map, option_map, slice_get, slice_set, refl, ap, ◌∙◌, arith}
use Rattle.std.proofs.lemmas.List.{length-map}
use Rattle.std.proofs.lemmas.Option.{slice_get_read, slice_get-map}
use Rattle.spectra_uses.proofs.UsersFound.{map-one_set, adds_one, adds_not}
use Rattle.spectra_uses.proofs.users.add_user.Goals as goal

pub returns-else-used-len : goal.returns-else-used-len
returns-else-used-len c = adds_not (map (λ us. us.items) c.args.users.now.items) c.args.user c.args.used (let size = length-map c.args.users.now.items (λ us. us.items) in omega arith)

pub returns-in_ok-push : goal.returns-in_ok-push
returns-in_ok-push c =
    let xs = c.args.users.now.items in
    let used = c.args.used in
    let x = c.index_mut.result.now in
    let at : slice_get xs used ≡ Some x = slice_get_read xs (length xs) used x refl (let n = c.len.ensures in let m = c.args.users.now.ok in omega (arith, n, m, c.if-used-len.true)) c.index_mut.ensures.value in
    adds_one (map (λ us. us.items) xs) (map (λ us. us.items) (slice_set xs used c.push.new.self)) c.args.user used x.items
    (slice_get-map (λ us. us.items) xs used ∙ ap (option_map (λ us. us.items)) at)
    (map-one_set (λ us. us.items) xs used c.push.new.self ∙ ap (slice_set (map (λ us. us.items) xs) used) c.in_ok-push.ensures.items)
