use Rattle.std.proofs.Common.{◌∙◌, sym, subst, arith}
use Rattle.spec_model.specs.Rules.{after}
use Rattle.spec_model.specs.Games.{GameData}
use Rattle.trace_planes.specs.Audits.{IsPosition}
use Rattle.session_lines.specs.Views.{read_of}
use Rattle.session.proofs.Logging.{position_in, position_for, pushed_as, checked}
use Rattle.session.proofs.auditing.push.Goals as goal

pub push-requires-clause-position : goal.push-requires-clause-position
push-requires-clause-position c =
    let some = c.requires.serves in
    let of = some.stands in
    let p = position_in some.spec _ (read_of c.args.lines.now) some.suits.wanted c.requires.read in (
      record { input = p.front; output = p.back },
      subst (λ (g : GameData). IsPosition g (record { input = p.front; output = p.back }) c.deref.result.now) (sym of.2.judged.game)
          (position_for some.spec c.args.audit.now some.log of p.front p.back c.deref.result.now (c.deref.ensures.value ∙ p.whole) p.first p.second),
    )

pub check-requires : goal.check-requires
check-requires c =
    let some = c.requires.serves in
    let p = position_in some.spec _ (read_of c.args.lines.now) some.suits.wanted c.requires.read in
    let on = pushed_as some.spec c.args.audit.now c.push.new.self some.log some.stands c.deref.result.now c.push.ensures.pushed p.front p.back (c.deref.ensures.value ∙ p.whole) p.first p.second in
    record { stands = (on.0, after some.log p.front p.back, on.2) }

pub returns-then-room-eq0 : goal.returns-then-room-eq0
returns-then-room-eq0 c = λ s log suits of x y whole input output.
    let on = pushed_as s c.args.audit.now c.push.new.self log of c.deref.result.now c.push.ensures.pushed x y (c.deref.ensures.value ∙ whole) input output in
    checked s c.push.new.self c.check.new.self (after log x y) on c.check.result (c.check.ensures.first on.0 (after log x y) on.2) (c.check.ensures.goes_on on.0 (after log x y) on.2) c.check.ensures.room

pub returns : goal.returns
returns c = λ s log suits of x y whole input output. (
  pushed_as s c.args.audit.now c.push.new.self log of c.deref.result.now c.push.ensures.pushed x y (c.deref.ensures.value ∙ whole) input output,
  omega (arith, c.if-room-eq0.false, c.room.ensures),
)
