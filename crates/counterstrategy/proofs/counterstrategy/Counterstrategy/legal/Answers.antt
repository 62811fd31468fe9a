use Rattle.std.proofs.Common.{◌∙◌, None, IsTrue, sym, ap, subst}
use Rattle.spec_model.specs.Games.{GameData}
use Rattle.spec_model.specs.Steps.{is_input, legal_output}
use Rattle.gr1_env.specs.Solved.{counts_of}
use Rattle.counterstrategy.proofs.Turning.{given_fits}
use Rattle.counterstrategy.proofs.Completing.{no_state}
use Rattle.counterstrategy.proofs.counterstrategy.Counterstrategy.legal.Goals as goal

pub first_broken_after-requires-clause-input : goal.first_broken_after-requires-clause-input
first_broken_after-requires-clause-input g c =
    let some = c.requires.stands in
    let given = some.5.given c.requires.given in
    subst (λ (h : GameData). IsTrue (is_input h c.deref-then-last-3.result.now)) (sym c.game-game.ensures)
    (subst (λ x. IsTrue (is_input (g.G.Regions.kept c.args.self.now.g).game x)) (sym c.deref-then-last-3.ensures.value)
    (given_fits (g.G.Regions.kept c.args.self.now.g).game some.0 _ (counts_of c.args.self.now.layers.items) some.5.sound.lost some.3 some.4 given.0 c.args.self.now.given.items given.1))

pub first_broken_at_start-requires-clause-input : goal.first_broken_at_start-requires-clause-input
first_broken_at_start-requires-clause-input g c =
    let some = c.requires.stands in
    let given = some.5.given c.requires.given in
    subst (λ (h : GameData). IsTrue (is_input h c.deref-else-last-2.result.now)) (sym c.game-game.ensures)
    (subst (λ x. IsTrue (is_input (g.G.Regions.kept c.args.self.now.g).game x)) (sym c.deref-else-last-2.ensures.value)
    (given_fits (g.G.Regions.kept c.args.self.now.g).game some.0 _ (counts_of c.args.self.now.layers.items) some.5.sound.lost some.3 some.4 given.0 c.args.self.now.given.items given.1))

pub returns-else-last-clause-none : goal.returns-else-last-clause-none
returns-else-last-clause-none g c = λ e h notes b k st.
    let none = no_state b (sym st.place.position.started ∙ c.if-last.false) in
    c.first_broken_at_start.ensures.none
    ∙ (ap (λ (h : GameData). legal_output h None c.deref-else-last-2.result.now c.args.out.now) c.game-game.ensures
    ∙ (ap (λ x. legal_output (g.G.Regions.kept c.args.self.now.g).game None x c.args.out.now) c.deref-else-last-2.ensures.value
    ∙ ap (λ b. legal_output (g.G.Regions.kept c.args.self.now.g).game b c.args.self.now.given.items c.args.out.now) (sym none)))
