use Rattle.std.proofs.Common.{arith, ◌≡◌, [], ◌∷◌, ap, ◌∙◌, refl}
use Rattle.std.proofs.lemmas.Result.{err_from_is_err_and}
use Rattle.regions.specs.declared.types.Halt.TheVariants as Halt
use Rattle.spec_model.specs.Sets.{pre_sys, pre_env}
use Rattle.regions.specs.Kept.{States}
use Rattle.regions.specs.Worked.{IsForced, first, second, by_system, by_environment}
use Rattle.regions.proofs.Holding.{held_as, set_is, spent, jam_adds}
use Rattle.regions.proofs.Forces.{second_made, third_made}
use Rattle.regions.proofs.worked.one_forces.Goals as goal

pub returns-in-Err-clause-halted : goal.returns-in-Err-clause-halted
returns-in-Err-clause-halted g c =
    let k = g.G.Regions.kept c.args.g.now in
    let x_made = c.in_ok-x.ensures.made in
    let halted = c.in-Err.ensures.halted in
    let gone = spent _ _ _ (pre_sys k.game (k.set c.args.a.now)) (g.met.G.Regions.exact _) c.spend.ensures.spends (λ w. omega (arith, halted.held w, x_made.held w)) in
    λ w. omega (arith, gone w, halted.held w, x_made.held w)

pub returns-in-Ok-or-clause-made : goal.returns-in-Ok-or-clause-made
returns-in-Ok-or-clause-made g c =
    let kept = g.G.Regions.kept in
    let exact = g.met.G.Regions.exact in
    let k = kept c.args.g.now in
    let x = pre_sys k.game (k.set c.args.a.now) in
    let y = pre_env k.game (k.set c.args.b.now) in
    let two = second_made k (kept c.pre_sys.new.self) (kept c.pre_env.new.self) c.in_ok-x.x c.in-Ok.y c.args.b.now x (exact _) c.requires.b c.pre_sys.ensures.keeps c.in_ok-x.ensures.made c.in-Ok.ensures.made in
    let three = third_made k (kept c.pre_sys.new.self) (kept c.pre_env.new.self) (kept c.or.new.self) c.in_ok-x.x c.in-Ok.y c.in-Ok-or.joined x y (exact _) two.0 two.1 c.in-Ok-or.ensures.made in
    let x_gone = spent _ _ _ x (exact _) c.spend-in-Ok-or.ensures.spends (λ w. omega (arith, three.held w, two.1.held w, two.0.held w)) in
    let y_gone = spent _ _ _ y (exact _) c.spend-in-Ok-or-2.ensures.spends (λ w. omega (arith, x_gone w, three.held w, two.1.held w, two.0.held w)) in
    record { held = λ w. omega (arith, y_gone w, x_gone w, three.held w, two.1.held w, two.0.held w); jam = cc (c.spend-in-Ok-or-2.ensures.spends.jam, c.spend-in-Ok-or.ensures.spends.jam, three.jam) }

pub returns-in-Err-or-clause-halted : goal.returns-in-Err-or-clause-halted
returns-in-Err-or-clause-halted g c =
    let kept = g.G.Regions.kept in
    let exact = g.met.G.Regions.exact in
    let k = kept c.args.g.now in
    let x = pre_sys k.game (k.set c.args.a.now) in
    let y = pre_env k.game (k.set c.args.b.now) in
    let halted = c.in-Err-or.ensures.halted in
    let two = second_made k (kept c.pre_sys.new.self) (kept c.pre_env.new.self) c.in_ok-x.x c.in-Ok.y c.args.b.now x (exact _) c.requires.b c.pre_sys.ensures.keeps c.in_ok-x.ensures.made c.in-Ok.ensures.made in
    let x_gone = spent _ _ _ x (exact _) c.spend-in-Err-or.ensures.spends (λ w. omega (arith, halted.held w, two.1.held w, two.0.held w)) in
    let y_gone = spent _ _ _ y (exact _) c.spend-in-Err-or-2.ensures.spends (λ w. omega (arith, x_gone w, halted.held w, two.1.held w, two.0.held w)) in
    λ w. omega (arith, y_gone w, x_gone w, halted.held w, two.1.held w, two.0.held w)

pub returns-in_err-x-clause-budget : goal.returns-in_err-x-clause-budget
returns-in_err-x-clause-budget g c = λ is_budget.
    let k = g.G.Regions.kept c.args.g.now in
    let p = err_from_is_err_and c.from_residual.result c.from_residual.ensures.1 in
    let is : c.in_err-x.field-0.0 ≡ Halt.Budget = cc (p.1, p.2, is_budget) in
    jam_adds k k _ _ _ [] (IsForced k.game (k.set c.args.a.now) (k.set c.args.b.now)) c.in_err-x.field-0.0 c.in_err-x.ensures.halted is (λ w. omega arith) tt (first refl, tt)

pub returns-in-Err-clause-budget : goal.returns-in-Err-clause-budget
returns-in-Err-clause-budget g c = λ is_budget.
    let kept = g.G.Regions.kept in
    let k = kept c.args.g.now in
    let k1 = kept c.pre_sys.new.self in
    let x_made = c.in_ok-x.ensures.made in
    let is : c.in-Err.halt ≡ Halt.Budget = cc is_budget in
    let b_is = set_is k1 c.args.b.now (k.set c.args.b.now) (g.met.G.Regions.exact _) (λ w. omega (arith, x_made.held w, held_as _ _ c.requires.b w)) in
    let told = jam_adds k k1 _ _ _ (States (pre_sys k.game (k.set c.args.a.now)) ∷ []) (IsForced k.game (k.set c.args.a.now) (k.set c.args.b.now)) c.in-Err.halt c.in-Err.ensures.halted is (λ w. x_made.held (λ i m. w m)) (by_system refl, tt) (second (ap States b_is), tt) in
    (told.0, c.spend.ensures.spends.jam ∙ told.1, told.2)

pub returns-in-Err-or-clause-budget : goal.returns-in-Err-or-clause-budget
returns-in-Err-or-clause-budget g c = λ is_budget.
    let kept = g.G.Regions.kept in
    let exact = g.met.G.Regions.exact in
    let k = kept c.args.g.now in
    let k2 = kept c.pre_env.new.self in
    let x = pre_sys k.game (k.set c.args.a.now) in
    let y = pre_env k.game (k.set c.args.b.now) in
    let two = second_made k (kept c.pre_sys.new.self) k2 c.in_ok-x.x c.in-Ok.y c.args.b.now x (exact _) c.requires.b c.pre_sys.ensures.keeps c.in_ok-x.ensures.made c.in-Ok.ensures.made in
    let is : c.in-Err-or.halt ≡ Halt.Budget = cc is_budget in
    let x_is = set_is k2 c.in_ok-x.x x (exact _) (λ w. omega (arith, two.1.held w, two.0.held w)) in
    let y_is = set_is k2 c.in-Ok.y y (exact _) (λ w. omega (arith, two.1.held w)) in
    let told = jam_adds k k2 _ _ _ (States y ∷ States x ∷ []) (IsForced k.game (k.set c.args.a.now) (k.set c.args.b.now)) c.in-Err-or.halt c.in-Err-or.ensures.halted is
    (λ w. omega (arith, two.1.held (λ i m. w m), two.0.held (λ i m. w m))) (by_environment refl, (by_system refl, tt)) (by_system (ap States x_is), (by_environment (ap States y_is), tt)) in
    (told.0, c.spend-in-Err-or-2.ensures.spends.jam ∙ (c.spend-in-Err-or.ensures.spends.jam ∙ told.1), told.2)
