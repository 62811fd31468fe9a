use Rattle.std.proofs.Common.{◌∙◌, List, length, map, subst, sym, arith, ◌≡◌, ◌<◌, ℕ, ap}
use Rattle.regions.specs.Kept.{MakesRegion}
use Rattle.gr1_sys.specs.Solution.{meet}
use Rattle.gr1_sys.specs.Held.{HasEach}
use Rattle.gr1_env.specs.Held.{list_regions, last_set}
use Rattle.gr1_sys.proofs.Lists.{region_stays, set_kept, held_each, together_as, made_and_spent_all}
use Rattle.gr1_env.proofs.Holding.{turns_to}
use Rattle.spec_model.specs.Steps.{states_of}
use Rattle.gr1_env.specs.Solution.{at, cover_of}
use Rattle.gr1_env.specs.Moment.{delay_at}
use Rattle.gr1_env.specs.Told.{TellsHalt}
use Rattle.gr1_env.proofs.Told.{handed_on, past_many}
use Rattle.gr1_env.proofs.Holding.{last_sets_stand, cover_of-inside}
use Rattle.gr1_env.proofs.Naming.{of_one, last_stands, lists_named, cover_stands}
use Rattle.gr1_env.proofs.holds.turn.Goals as goal

pub common-requires-clause-none : goal.common-requires-clause-none
common-requires-clause-none g c =
    let kept = g.G.Regions.kept in
    region_stays (kept c.args.g.now) (kept c.delays_for.new.g) c.args.none.now (λ w. omega (arith, c.in_ok-xs.ensures.made.made.held w)) c.requires.none

pub common-requires-clause-xs : goal.common-requires-clause-xs
common-requires-clause-xs g c =
    let kept = g.G.Regions.kept in
    let made = c.in_ok-xs.ensures.made.made in
    subst (λ (vs : List _). HasEach (kept c.delays_for.new.g) (list_regions vs)) (sym c.deref.ensures.value) (held_each (kept c.delays_for.new.g) (list_regions c.in_ok-xs.xs.items) _ made.counted (λ w. omega (arith, made.held w)))

pub spend_lists-requires : goal.spend_lists-requires
spend_lists-requires g c =
    let made = c.in_ok-xs.ensures.made.made in
    together_as (g.G.Regions.kept c.common.new.g) (list_regions c.in_ok-xs.xs.items) _ (g.met.G.Regions.exact _) made.counted (λ w. omega (arith, made.held w, c.in-Err.ensures.halted w))

pub returns-in-Ok-clause-turned : goal.returns-in-Ok-clause-turned
returns-in-Ok-clause-turned g c =
    let kept = g.G.Regions.kept in
    let k = kept c.args.g.now in
    let k1 = kept c.delays_for.new.g in
    let none = c.args.none.now in
    let have = c.in_ok-xs.ensures.made in
    let empty = set_kept k k1 none (g.met.G.Regions.exact _) (λ w. omega (arith, have.made.held w)) c.requires.none ∙ c.requires.empty in
    turns_to k.game k k1 (kept c.common.new.g) none c.in-Ok.next (k.set c.args.base.now) (k.set c.args.y.now) (map k.set c.args.asms.now) c.in_ok-xs.xs.items (g.met.G.Regions.exact _) c.delays_for.ensures.keeps.game empty have
    (subst (λ (vs : List _). MakesRegion k1 (kept c.common.new.g) c.in-Ok.next (meet k1.game (last_set k1 none vs) (length vs))) c.deref.ensures.value c.in-Ok.ensures.made)

pub returns-in-Err-clause-halted : goal.returns-in-Err-clause-halted
returns-in-Err-clause-halted g c =
    let kept = g.G.Regions.kept in
    made_and_spent_all (kept c.args.g.now) (kept c.delays_for.new.g) (kept c.common.new.g) (kept c.spend_lists.new.g) (list_regions c.in_ok-xs.xs.items) _ (g.met.G.Regions.exact _) c.in_ok-xs.ensures.made.made c.in-Err.ensures.halted c.spend_lists.ensures.spends

pub returns-in_err-xs-clause-told : goal.returns-in_err-xs-clause-told
returns-in_err-xs-clause-told g c = λ game m a j same are.
    let kept = g.G.Regions.kept in
    handed_on c.from_residual.result c.in_err-xs.field-0.0 (TellsHalt game (kept c.args.g.now) (kept c.delays_for.new.g) m) c.from_residual.ensures.1 (c.in_err-xs.ensures.told game m a j same are)

pub returns-in-Err-clause-told : goal.returns-in-Err-clause-told
returns-in-Err-clause-told g c = λ game m a j same are.
    let kept = g.G.Regions.kept in
    let k = kept c.args.g.now in
    let k1 = kept c.delays_for.new.g in
    let none = c.args.none.now in
    let xs = c.in_ok-xs.xs.items in
    let have = c.in_ok-xs.ensures.made in
    let asms = map k.set c.args.asms.now in
    let cover = cover_of k.game (k.set c.args.base.now) (k.set c.args.y.now) in
    let cover_is = cover_stands game m k.game a j (k.set c.args.base.now) (k.set c.args.y.now) asms same are in
    let empty = set_kept k k1 none (g.met.G.Regions.exact _) (λ w. omega (arith, have.made.held w)) c.requires.none ∙ c.requires.empty in
    let asked = c.deref.ensures.value in
    let counted = ap (λ (ss : List _). length ss) are.asms_are in
    let last : (i : ℕ) → i < length xs → last_set k1 none xs i ≡ delay_at game m a j i (length (states_of game)) =
    λ i before.
    last_sets_stand k.game k k1 none cover asms (g.met.G.Regions.exact _) empty (cover_of-inside k.game (k.set c.args.base.now) (k.set c.args.y.now)) xs have i before ∙
    last_stands game m k.game a j i cover (at asms i) same (of_one game m a j i cover asms are.goal_in cover_is are.asms_are (omega (arith, before, have.counted))) in
    past_many game m k k1 (kept c.common.new.g) (kept c.spend_lists.new.g) (list_regions xs) _ c.in-Err.halt have.made
    (lists_named game m k.game a j cover asms xs same are.goal_in cover_is are.asms_are (omega (arith, have.counted))) c.spend_lists.ensures.spends.jam
    (c.in-Err.ensures.told game m a j (c.delays_for.ensures.keeps.game ∙ same) are.goal_in (let here = ap (λ (vs : List _). length vs) asked in omega (arith, here, have.counted, counted))
    (subst (λ (vs : List _). (i : ℕ) → i < length vs → last_set k1 none vs i ≡ delay_at game m a j i (length (states_of game))) (sym asked) last))
