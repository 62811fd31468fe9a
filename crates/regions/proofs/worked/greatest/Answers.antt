use Rattle.std.proofs.Common.{◌≡◌, sym, ◌∙◌}
use Rattle.std.proofs.lemmas.Bool.{false≢true}
use Rattle.std.proofs.lemmas.Result.{err_from_is_err_and}
use Rattle.regions.specs.declared.types.Halt.TheVariants as Halt
use Rattle.spec_model.specs.Sets.{pre_sys}
use Rattle.spec_model.proofs.SetLaws.{pre_sys_grows, pre_sys-inside}
use Rattle.spec_model.proofs.Fixpoints.{falling-first, falling-next, falling-last, falling-fewer}
use Rattle.regions.proofs.Holding.{made_is, replaced_is}
use Rattle.regions.proofs.Forces.{told}
use Rattle.regions.proofs.worked.greatest.Goals as goal

pub loop-next-init : goal.loop-next-init
loop-next-init g c =
    let kept = g.G.Regions.kept in
    let k = kept c.all.new.self in
    let is = made_is (kept c.args.g.now) k c.in_ok-z.z _ (g.met.G.Regions.exact c.all.new.self) c.in_ok-z.ensures.made in
    record {
      made = is.1;
      same = c.all.ensures.keeps;
      falling = rw (is.0, ← c.all.ensures.keeps.game) (falling-first k.game (pre_sys k.game) (pre_sys_grows k.game) (pre_sys-inside k.game));
    }

pub loop-next-preserved : goal.loop-next-preserved
loop-next-preserved g c =
    let kept = g.G.Regions.kept in
    let k = kept c.loop-next.g in
    let new = kept c.forced_into.new.g in
    let is = replaced_is (kept c.args.g.now) k new c.loop-next.z c.in_ok-next.next _ (g.met.G.Regions.exact c.forced_into.new.g) c.loop-next.invariant.made c.in_ok-next.ensures.made in
    let next = falling-next k.game (pre_sys k.game) (pre_sys_grows k.game) (pre_sys-inside k.game) (k.set c.loop-next.z) c.loop-next.invariant.falling in
    record {
      made = is.1;
      same = record { game = c.forced_into.ensures.keeps.game ∙ c.loop-next.invariant.same.game; bound = c.forced_into.ensures.keeps.bound ∙ c.loop-next.invariant.same.bound };
      falling = rw (is.0, c.forced_into.ensures.keeps.game) next;
    }

pub loop-next-smaller : goal.loop-next-smaller
loop-next-smaller g c =
    let kept = g.G.Regions.kept in
    let k = kept c.loop-next.g in
    let new = kept c.forced_into.new.g in
    let is = (replaced_is (kept c.args.g.now) k new c.loop-next.z c.in_ok-next.next _ (g.met.G.Regions.exact c.forced_into.new.g) c.loop-next.invariant.made c.in_ok-next.ensures.made).0 in
    let unsettled : k.set c.loop-next.z ≡ pre_sys k.game (k.set c.loop-next.z) → ⊥ = λ e. false≢true (sym c.if-settled.false ∙ c.in_ok-next.ensures.settled.1 e) in
    rw (is, c.forced_into.ensures.keeps.game) (falling-fewer k.game (pre_sys k.game) (pre_sys_grows k.game) (pre_sys-inside k.game) (k.set c.loop-next.z) c.loop-next.invariant.falling unsettled)

pub returns-then-settled-clause-made : goal.returns-then-settled-clause-made
returns-then-settled-clause-made g c =
    let kept = g.G.Regions.kept in
    (replaced_is (kept c.args.g.now) (kept c.loop-next.g) (kept c.forced_into.new.g) c.loop-next.z c.in_ok-next.next _ (g.met.G.Regions.exact c.forced_into.new.g) c.loop-next.invariant.made c.in_ok-next.ensures.made).1

pub returns-then-settled-clause-greatest : goal.returns-then-settled-clause-greatest
returns-then-settled-clause-greatest g c =
    let kept = g.G.Regions.kept in
    let k = kept c.loop-next.g in
    let new = kept c.forced_into.new.g in
    let is = (replaced_is (kept c.args.g.now) k new c.loop-next.z c.in_ok-next.next _ (g.met.G.Regions.exact c.forced_into.new.g) c.loop-next.invariant.made c.in_ok-next.ensures.made).0 in
    let settled = c.in_ok-next.ensures.settled.0 c.if-settled.true in
    let found = falling-last k.game (pre_sys k.game) (pre_sys_grows k.game) (pre_sys-inside k.game) (k.set c.loop-next.z) c.loop-next.invariant.falling settled in
    rw (c.forced_into.ensures.keeps.game, is, ← settled) found

pub returns-in_err-z-clause-told : goal.returns-in_err-z-clause-told
returns-in_err-z-clause-told g c = λ is_budget.
    let p = err_from_is_err_and c.from_residual.result c.from_residual.ensures.1 in
    let is : c.in_err-z.field-0.0 ≡ Halt.Budget = cc (p.1, p.2, is_budget) in
    told _ _ _ _ c.in_err-z.field-0.0 c.in_err-z.ensures.halted is
