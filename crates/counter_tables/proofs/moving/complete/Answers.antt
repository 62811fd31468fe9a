use Rattle.std.proofs.Common.{◌≡◌, ◌∙◌, List, length, sym, ap, subst, arith}
use Rattle.spec_model.specs.Values.{Assignment}
use Rattle.counterstrategy.specs.Objects.{GoesOn}
use Rattle.counter_tables.proofs.Moves.{written_over}
use Rattle.counter_tables.proofs.moving.complete.Goals as goal

pub reply-requires-clause-room : goal.reply-requires-clause-room
reply-requires-clause-room g c = ap (λ (vs : List _). length vs) c.deref_mut.ensures.value ∙ c.requires.room

pub returns-clause-answered : goal.returns-clause-answered
returns-clause-answered g c = λ e h notes b k st.
    let from = ap (λ (vs : List _). length vs) c.deref_mut.ensures.value in
    let long : length c.reply.new.input ≡ length c.args.input.now.items = omega (arith, from) in
    let now = written_over c.args.input.now c.reply.new.input long in
    let on = c.reply.ensures.answered e h notes b k st in
    (c.reply.result, on.0, subst (λ (x : Assignment). GoesOn g.G.Regions.kept c.args.play.now c.reply.new.self e h notes b k c.args.output.now c.reply.result on.0 x) (sym now) on.1)

pub returns-clause-keeps : goal.returns-clause-keeps
returns-clause-keeps g c =
    let from = ap (λ (vs : List _). length vs) c.deref_mut.ensures.value in
    let long : length c.reply.new.input ≡ length c.args.input.now.items = omega (arith, from) in
    (ap (λ (vs : List _). length vs) (written_over c.args.input.now c.reply.new.input long) ∙ long, c.reply.ensures.keeps)
