use Rattle.std.proofs.Common.{◌∙◌, ◌++◌, ◌∷◌, [], List, ap, subst, sym, arith}
use Rattle.std.proofs.lemmas.Bool.{false≢true}
use Rattle.regions.specs.Kept.{HasRegion, MakesRegion}
use Rattle.regions.proofs.Holding.{set_is, spent}
use Rattle.gr1_sys.specs.Held.{HasTogether, SpendsAll}
use Rattle.gr1_sys.proofs.Lists.{together_each, together_stays, takes_all, region_stays, set_kept}
use Rattle.gr1_env.specs.Solution.{rising}
use Rattle.gr1_env.specs.Held.{last_of}
use Rattle.gr1_env.proofs.Gathered.{last_held}
use Rattle.gr1_env.proofs.Told.{still_told}
use Rattle.gr1_env.proofs.delays.grow.Goals as goal

pub next_delay-requires-clause-t : goal.next_delay-requires-clause-t
next_delay-requires-clause-t g c =
    let k = g.G.Regions.kept c.args.g.now in
    let last_is = c.last_or.ensures ∙ ap (last_of c.args.none.now) (c.deref.ensures.value ∙ c.reserve.ensures.items) in
    subst (HasRegion k) (sym last_is) (last_held k c.args.none.now c.args.rs.items c.requires.none (together_each k c.args.rs.items c.requires.rs))

pub same-requires-clause-a : goal.same-requires-clause-a
same-requires-clause-a g c =
    let kept = g.G.Regions.kept in
    let k = kept c.args.g.now in
    let asked_is = c.last_or-in-Ok.ensures ∙ ap (last_of c.args.none.now) (c.deref-in-Ok.ensures.value ∙ c.reserve.ensures.items) in
    let here = last_held k c.args.none.now c.args.rs.items c.requires.none (together_each k c.args.rs.items c.requires.rs) in
    subst (HasRegion (kept c.next_delay.new.g)) (sym asked_is) (region_stays k (kept c.next_delay.new.g) _ (λ w. omega (arith, c.in-Ok.ensures.made.held w)) here)

pub spend_all-requires-in-Err : goal.spend_all-requires-in-Err
spend_all-requires-in-Err g c =
    let kept = g.G.Regions.kept in
    subst (λ (rs : List _). HasTogether (kept c.next_delay.new.g) rs) (sym c.reserve.ensures.items)
    (together_stays (kept c.args.g.now) (kept c.next_delay.new.g) c.args.rs.items (g.met.G.Regions.exact _) (λ w. omega (arith, c.in-Err.ensures.halted w)) c.requires.rs)

pub returns-then-same-clause-grown : goal.returns-then-same-clause-grown
returns-then-same-clause-grown g c =
    let kept = g.G.Regions.kept in
    let k = kept c.args.g.now in
    let k1 = kept c.next_delay.new.g in
    let last = last_of c.args.none.now c.args.rs.items in
    let here = last_held k c.args.none.now c.args.rs.items c.requires.none (together_each k c.args.rs.items c.requires.rs) in
    let below_is = c.last_or.ensures ∙ ap (last_of c.args.none.now) (c.deref.ensures.value ∙ c.reserve.ensures.items) in
    let asked_is = c.last_or-in-Ok.ensures ∙ ap (last_of c.args.none.now) (c.deref-in-Ok.ensures.value ∙ c.reserve.ensures.items) in
    let value = rising k.game (k.set c.args.cover.now) (k.set c.args.asm.now) in
    let made = subst (λ t. MakesRegion k k1 c.in-Ok.next (value (k.set t))) below_is c.in-Ok.ensures.made in
    let next_is = set_is k1 c.in-Ok.next (value (k.set last)) (g.met.G.Regions.exact _) (λ w. omega (arith, made.held w)) in
    let last_kept = set_kept k k1 last (g.met.G.Regions.exact _) (λ w. omega (arith, made.held w)) here in
    let equal = ap k1.set (sym asked_is) ∙ c.same.ensures.0 c.if-same.true in
    let left = spent k1 (kept c.spend.new.self) c.in-Ok.next (value (k.set last)) (g.met.G.Regions.exact _) c.spend.ensures.spends (λ w. omega (arith, made.held w)) in
    (c.reserve.ensures.items, ((λ w. omega (arith, left w, made.held w)), (c.spend.ensures.spends.jam ∙ made.jam, sym last_kept ∙ (equal ∙ next_is))))

pub returns-else-same-clause-grown : goal.returns-else-same-clause-grown
returns-else-same-clause-grown g c =
    let kept = g.G.Regions.kept in
    let k = kept c.args.g.now in
    let k1 = kept c.next_delay.new.g in
    let last = last_of c.args.none.now c.args.rs.items in
    let here = last_held k c.args.none.now c.args.rs.items c.requires.none (together_each k c.args.rs.items c.requires.rs) in
    let below_is = c.last_or.ensures ∙ ap (last_of c.args.none.now) (c.deref.ensures.value ∙ c.reserve.ensures.items) in
    let asked_is = c.last_or-in-Ok.ensures ∙ ap (last_of c.args.none.now) (c.deref-in-Ok.ensures.value ∙ c.reserve.ensures.items) in
    let value = rising k.game (k.set c.args.cover.now) (k.set c.args.asm.now) in
    let made = subst (λ t. MakesRegion k k1 c.in-Ok.next (value (k.set t))) below_is c.in-Ok.ensures.made in
    let next_is = set_is k1 c.in-Ok.next (value (k.set last)) (g.met.G.Regions.exact _) (λ w. omega (arith, made.held w)) in
    let last_kept = set_kept k k1 last (g.met.G.Regions.exact _) (λ w. omega (arith, made.held w)) here in (
      c.in-Ok.next,
      (
        c.push_reserved.ensures.items ∙ ap (λ (ls : List _). ls ++ c.in-Ok.next ∷ []) c.reserve.ensures.items,
        (made, λ e. false≢true (sym c.if-same.false ∙ c.same.ensures.1 (ap k1.set asked_is ∙ (last_kept ∙ (e ∙ sym next_is))))),
      ),
    )

pub returns-in-Err-clause-halted : goal.returns-in-Err-clause-halted
returns-in-Err-clause-halted g c =
    let kept = g.G.Regions.kept in
    takes_all (kept c.args.g.now) (kept c.next_delay.new.g) (kept c.spend_all-in-Err.new.g) c.args.rs.items (g.met.G.Regions.exact _) c.requires.rs c.in-Err.ensures.halted
    (subst (λ (rs : List _). SpendsAll (kept c.next_delay.new.g) (kept c.spend_all-in-Err.new.g) rs) c.reserve.ensures.items c.spend_all-in-Err.ensures.spends)

pub returns-in-Err-clause-told : goal.returns-in-Err-clause-told
returns-in-Err-clause-told g c = λ game m a j i r same are is.
    let kept = g.G.Regions.kept in
    let k = kept c.args.g.now in
    let below_is = c.last_or.ensures ∙ ap (last_of c.args.none.now) (c.deref.ensures.value ∙ c.reserve.ensures.items) in
    still_told game m k (kept c.next_delay.new.g) (kept c.spend_all-in-Err.new.g) c.in-Err.halt c.spend_all-in-Err.ensures.spends.jam (c.in-Err.ensures.told game m a j i r same are (ap k.set below_is ∙ is))
