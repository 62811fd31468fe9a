use Rattle.std.proofs.Common.{rules, ◌≡◌, ℕ, Err, length, sym, ◌∙◌, subst, arith}
use Rattle.spec_model.specs.GameViews.{game_data}
use Rattle.bdd_bits.specs.Orders.{IsDeclared}
use Rattle.region_bdd.specs.Room.{IsRoom}
use Rattle.region_bdd.proofs.MakingLaws.{new_fits, object_made, object_bound, too_small}
use Rattle.region_bdd.proofs.NeedLaws.{same_halt}
use Rattle.region_bdd.proofs.object.RegionBdd.make.Goals as goal

pub own-requires-clause-fits : goal.own-requires-clause-fits
own-requires-clause-fits c =
    let o = c.in-Ok-order_of.order in
    new_fits (game_data c.args.game) (length o.names) c.args.budget c.in-Ok-make.diagrams o c.in-Ok-next_levels.levels.to.items c.deref.result.now c.in-Ok-make.ensures.store c.in-Ok-make.ensures.order c.in-Ok-order_of.ensures.bits.0 c.deref.ensures.value c.in-Ok-order_of.ensures.bits.1

pub own-requires-clause-named : goal.own-requires-clause-named
own-requires-clause-named c = λ declared. c.is_moved-grouped.ensures (subst IsDeclared c.in-Ok-make.ensures.order declared)

pub release_own-requires : goal.release_own-requires
release_own-requires c n = let all = c.in_ok-own.ensures.part.added n in omega (arith, all)

pub invariant_of-result : goal.invariant_of-result
invariant_of-result c =
    let o = c.in-Ok-order_of.order in
    let fits = new_fits (game_data c.args.game) (length o.names) c.args.budget c.in-Ok-make.diagrams o c.in-Ok-next_levels.levels.to.items c.deref.result.now c.in-Ok-make.ensures.store c.in-Ok-make.ensures.order c.in-Ok-order_of.ensures.bits.0 c.deref.ensures.value c.in-Ok-order_of.ensures.bits.1 in
    record {
      whole = object_made (game_data c.args.game) (length o.names) c.args.budget c.in-Ok-make.diagrams c.own.new.diagrams c.in_ok-own.own c.in-Ok-next_levels.levels c.none.result.slots.items c.none.ensures c.requires.made
          c.in-Ok-next_levels.ensures c.in-Ok-make.ensures.store fits c.in_ok-own.ensures.part c.in_ok-own.ensures.early;
      coded = c.in-Ok.ensures.domains;
      room = subst (λ (n : ℕ). IsRoom n c.in_ok-own.own c.in-Ok-room.search) c.levels.ensures c.in-Ok-room.ensures;
    }

pub returns-clause-bound : goal.returns-clause-bound
returns-clause-bound c = λ plain.
    let o = c.in-Ok-order_of.order in
    object_bound (length o.names) c.args.budget c.in-Ok-make.diagrams c.own.new.diagrams o c.in-Ok-make.ensures.store c.in-Ok-make.ensures.order (c.in-Ok-order_of.ensures.declared plain) c.in_ok-own.ensures.part.keeps

pub returns-in_err-own-clause-cause : goal.returns-in_err-own-clause-cause
returns-in_err-own-clause-cause c = λ plain e.
    let o = c.in-Ok-order_of.order in
    let handed : c.from_residual.result ≡ Err c.in_err-own.field-0.0 = search rules in
    too_small (game_data c.args.game) (length o.names) c.args.budget c.in-Ok-make.diagrams c.own.new.diagrams (Err c.in_err-own.field-0.0) c.in-Ok-order_of.ensures.bits.0 c.in-Ok-make.ensures.store c.in_err-own.ensures.part.keeps c.in_err-own.ensures.part.cause
    (subst IsDeclared (sym c.in-Ok-make.ensures.order) (c.in-Ok-order_of.ensures.declared plain)) (same_halt (sym handed ∙ e))
