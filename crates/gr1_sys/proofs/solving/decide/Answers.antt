use Rattle.std.proofs.Common.{◌∷◌, arith, ◌∙◌, [], refl, sym, subst}
use Rattle.gr1_sys.specs.Held.{all_regions}
use Rattle.gr1_sys.proofs.Lists.{together_stays, takes_all}
use Rattle.gr1_sys.proofs.Popped.{first_together, rest_together, first_and_rest}
use Rattle.gr1_sys.proofs.Rounds.{without_later, spent_later}
use Rattle.regions.specs.Kept.{StartSys, States}
use Rattle.gr1_sys.specs.Moment.{iterated, this_value}
use Rattle.gr1_sys.specs.Told.{TellsHalt}
use Rattle.gr1_sys.proofs.Told.{told, still_told}
use Rattle.gr1_sys.proofs.solving.decide.Goals as goal

pub start_sys-requires-clause-t : goal.start_sys-requires-clause-t
start_sys-requires-clause-t g c = first_together (g.G.Regions.kept c.args.g.now) c.args.z (all_regions c.args.goals.items) c.requires.held

pub counted-requires : goal.counted-requires
counted-requires g c =
    let kept = g.G.Regions.kept in
    record { held = together_stays (kept c.args.g.now) (kept c.start_sys.new.self) (c.args.z ∷ all_regions c.args.goals.items) (g.met.G.Regions.exact _) (λ w. omega (arith, c.in-Ok-true.ensures.held.held w)) c.requires.held }

pub spend-requires : goal.spend-requires
spend-requires g c =
    let kept = g.G.Regions.kept in
    first_together (kept c.start_sys.new.self) c.args.z (all_regions c.args.goals.items)
    (together_stays (kept c.args.g.now) (kept c.start_sys.new.self) (c.args.z ∷ all_regions c.args.goals.items) (g.met.G.Regions.exact _) (λ w. omega (arith, c.in-Ok-false.ensures.held.held w)) c.requires.held)

pub spend_goals-requires : goal.spend_goals-requires
spend_goals-requires g c =
    let kept = g.G.Regions.kept in
    rest_together (kept c.start_sys.new.self) (kept c.spend.new.self) c.args.z (all_regions c.args.goals.items) (g.met.G.Regions.exact _)
    (together_stays (kept c.args.g.now) (kept c.start_sys.new.self) (c.args.z ∷ all_regions c.args.goals.items) (g.met.G.Regions.exact _) (λ w. omega (arith, c.in-Ok-false.ensures.held.held w)) c.requires.held) c.spend.ensures.spends

pub spend-requires-in-Err : goal.spend-requires-in-Err
spend-requires-in-Err g c =
    let kept = g.G.Regions.kept in
    first_together (kept c.start_sys.new.self) c.args.z (all_regions c.args.goals.items)
    (together_stays (kept c.args.g.now) (kept c.start_sys.new.self) (c.args.z ∷ all_regions c.args.goals.items) (g.met.G.Regions.exact _) (λ w. omega (arith, c.in-Err.ensures.halted.held w)) c.requires.held)

pub spend_goals-requires-in-Err : goal.spend_goals-requires-in-Err
spend_goals-requires-in-Err g c =
    let kept = g.G.Regions.kept in
    rest_together (kept c.start_sys.new.self) (kept c.spend-in-Err.new.self) c.args.z (all_regions c.args.goals.items) (g.met.G.Regions.exact _)
    (together_stays (kept c.args.g.now) (kept c.start_sys.new.self) (c.args.z ∷ all_regions c.args.goals.items) (g.met.G.Regions.exact _) (λ w. omega (arith, c.in-Err.ensures.halted.held w)) c.requires.held) c.spend-in-Err.ensures.spends

pub returns-in-Err-counted-clause-halted : goal.returns-in-Err-counted-clause-halted
returns-in-Err-counted-clause-halted g c =
    let kept = g.G.Regions.kept in
    without_later (kept c.args.g.now) (kept c.start_sys.new.self) (kept c.counted.new.g) (c.args.z ∷ all_regions c.args.goals.items) (g.met.G.Regions.exact _) c.requires.held c.in-Ok-true.ensures.held.held c.in-Err-counted.ensures.halted

pub returns-in-Ok-false-clause-decided : goal.returns-in-Ok-false-clause-decided
returns-in-Ok-false-clause-decided g c =
    let kept = g.G.Regions.kept in
    let k1 = kept c.start_sys.new.self in
    let held = together_stays (kept c.args.g.now) k1 (c.args.z ∷ all_regions c.args.goals.items) (g.met.G.Regions.exact _) (λ w. omega (arith, c.in-Ok-false.ensures.held.held w)) c.requires.held in (
      spent_later (kept c.args.g.now) k1 (kept c.spend_goals.new.g) (c.args.z ∷ all_regions c.args.goals.items) (g.met.G.Regions.exact _) c.requires.held c.in-Ok-false.ensures.held
          (first_and_rest k1 (kept c.spend.new.self) (kept c.spend_goals.new.g) c.args.z (all_regions c.args.goals.items) (g.met.G.Regions.exact _) held c.spend.ensures.spends c.spend_goals.ensures.spends),
      cc (c.in-Ok-false.ensures.answer, c.in-Ok-false.field-0-test),
    )

pub returns-in-Err-clause-halted : goal.returns-in-Err-clause-halted
returns-in-Err-clause-halted g c =
    let kept = g.G.Regions.kept in
    let k1 = kept c.start_sys.new.self in
    let held = together_stays (kept c.args.g.now) k1 (c.args.z ∷ all_regions c.args.goals.items) (g.met.G.Regions.exact _) (λ w. omega (arith, c.in-Err.ensures.halted.held w)) c.requires.held in
    takes_all (kept c.args.g.now) k1 (kept c.spend_goals-in-Err.new.g) (c.args.z ∷ all_regions c.args.goals.items) (g.met.G.Regions.exact _) c.requires.held c.in-Err.ensures.halted.held
    (first_and_rest k1 (kept c.spend-in-Err.new.self) (kept c.spend_goals-in-Err.new.g) c.args.z (all_regions c.args.goals.items) (g.met.G.Regions.exact _) held c.spend-in-Err.ensures.spends c.spend_goals-in-Err.ensures.spends)

pub returns-in-Err-counted-clause-told : goal.returns-in-Err-counted-clause-told
returns-in-Err-counted-clause-told g c =
    let kept = g.G.Regions.kept in
    let k = kept c.args.g.now in
    let refused = c.in-Err-counted.ensures.told in
    subst (TellsHalt k (kept c.counted.new.g) (k.set c.args.z)) (sym refused.0) (refused.1 ∙ (c.in-Ok-true.ensures.held.jam ∙ c.requires.free))

pub returns-in-Err-clause-told : goal.returns-in-Err-clause-told
returns-in-Err-clause-told g c =
    let kept = g.G.Regions.kept in
    let k = kept c.args.g.now in
    let k1 = kept c.start_sys.new.self in
    let z = k.set c.args.z in
    still_told k k1 (kept c.spend_goals-in-Err.new.g) z c.in-Err.halt (c.spend_goals-in-Err.ensures.spends.jam ∙ c.spend-in-Err.ensures.spends.jam)
    (told k k1 z StartSys (States z ∷ []) c.in-Err.halt c.in-Err.ensures.halted.jam (iterated (this_value refl), tt) refl)
