use Rattle.std.proofs.Common.{length, map, subst, sym, ap, ◌∙◌, arith}
use Rattle.std.proofs.lemmas.List.{length-map, length_push}
use Rattle.spectra_resolved.proofs.Mapped.{map_push}
use Rattle.spectra_uses.proofs.UsersFound.{HasNoUser, no_user_more, users_none}
use Rattle.spectra_uses.proofs.users.no_users.Goals as goal

pub returns : goal.returns
returns c =
    let uses = map (λ us. us.items) c.args.uses.now in
    let lists = map (λ us. us.items) c.loop-alloc.users.items in
    users_none uses lists
    (length-map c.loop-alloc.users.items (λ us. us.items) ∙ (let few = c.loop-alloc.invariant.few in omega arith) ∙ sym (length-map c.args.uses.now (λ us. us.items)))
    c.loop-alloc.invariant.none

pub loop-alloc-preserved : goal.loop-alloc-preserved
loop-alloc-preserved c =
    let users = c.loop-alloc.users.items in
    let x = c.new.result in
    record {
      few = let pushed = ap length c.in_ok-push.ensures.items in let more = length_push users x in let n = c.len.ensures in let m = c.loop-alloc.users.ok in omega (arith, pushed, more, n, m, c.loop-alloc-test.true);
      none = subst HasNoUser (sym (ap (map (λ us. us.items)) c.in_ok-push.ensures.items ∙ map_push (λ us. us.items) users x)) (no_user_more (map (λ us. us.items) users) x.items c.new.ensures.items c.loop-alloc.invariant.none);
    }
