use Rattle.std.proofs.Common.{◌∙◌, ◌∷◌, [], ◌++◌, List, length, refl, sym, ap, subst, arith}
use Rattle.spec_model.specs.declared.value.Owner.TheVariants.{Env}
use Rattle.regions.specs.declared.types.When.TheVariants.{Later}
use Rattle.strategy_parts.specs.Owned.{MakesAll}
use Rattle.strategy_parts.specs.Told.{leadings}
use Rattle.counterstrategy.specs.Owned.{list_items, AreLike}
use Rattle.counterstrategy.proofs.Adding.{list_items-append, list_items-push, none_of_some, one_added, like_both, as_many}
use Rattle.counterstrategy.proofs.making.add_list.Goals as goal

pub returns-then-is_err-clause-halted : goal.returns-then-is_err-clause-halted
returns-then-is_err-clause-halted g c =
    let k = g.G.Regions.kept c.args.g.now in
    none_of_some list_items refl list_items-append k k (λ w. omega arith) c.args.chains.now.items c.reserve.new.self.items c.reserve.ensures.items

pub returns-in-Ok-clause-added : goal.returns-in-Ok-clause-added
returns-in-Ok-clause-added g c =
    let kept = g.G.Regions.kept in
    let k = kept c.args.g.now in
    let new = kept c.moves_into.new.g in
    let v = c.in-Ok.moves in
    one_added list_items refl list_items-append k new c.args.chains.now.items v c.push_reserved.new.self.items (leadings k Env Later c.args.list.now)
    (c.push_reserved.ensures.items ∙ ap (λ (vs : List _). vs ++ v ∷ []) c.reserve.ensures.items)
    (subst (λ (is : List _). MakesAll k new is (leadings k Env Later c.args.list.now)) (sym (list_items-push [] v)) c.in-Ok.ensures.made)

pub returns-in-Ok-clause-alike : goal.returns-in-Ok-clause-alike
returns-in-Ok-clause-alike g c = λ done u like is.
    let kept = g.G.Regions.kept in
    let k = kept c.args.g.now in
    let v = c.in-Ok.moves in
    subst (λ (vs : List _). AreLike vs (done ++ u ∷ [])) (sym (c.push_reserved.ensures.items ∙ ap (λ (vs : List _). vs ++ v ∷ []) c.reserve.ensures.items))
    (like_both c.args.chains.now.items done v u like (as_many k (kept c.moves_into.new.g) Env Later v.items c.args.list.now c.in-Ok.ensures.made ∙ ap (λ (rs : List _). length rs) (sym is)))

pub returns-in-Err-clause-halted : goal.returns-in-Err-clause-halted
returns-in-Err-clause-halted g c =
    let kept = g.G.Regions.kept in
    none_of_some list_items refl list_items-append (kept c.args.g.now) (kept c.moves_into.new.g) c.in-Err.ensures.halted c.args.chains.now.items c.reserve.new.self.items c.reserve.ensures.items
