use Rattle.std.proofs.Common.{rules, ◌≡◌, ◌<◌, length, sym, ◌∙◌, subst, arith}
use Rattle.std.specs.List.{remove}
use Rattle.std.proofs.lemmas.Bool.{false≢true}
use Rattle.core_min.specs.Sets.{IsPartOf, IsLosing}
use Rattle.core_min.proofs.Few.{few}
use Rattle.core_min.proofs.Removed.{removed_is_set}
use Rattle.core_min.proofs.Guessed.{part_without, taken_known}
use Rattle.core_min.proofs.trying.turn.Goals as goal

pub returns-then-not-has-clause-stays : goal.returns-then-not-has-clause-stays
returns-then-not-has-clause-stays g c =
    let set = c.args.set.now.items in
    let lost = c.args.losing.now.lost.items in
    let inside : c.args.at < length set = search rules in
    let part : IsPartOf lost (remove set c.args.at) =
    part_without (g.J.Judge.size c.args.judge.now) set lost c.args.at c.index.result.now c.requires.set inside c.requires.inside c.index.ensures (c.has.ensures c.if-not-has.true) in
    (λ yes. absurd (false≢true yes), λ won. absurd (c.requires.known.loses (g.met.J.Judge.parts c.args.judge.now (remove set c.args.at) lost part won)))

pub returns-then-not-has-clause-inside : goal.returns-then-not-has-clause-inside
returns-then-not-has-clause-inside g c =
    let set = c.args.set.now.items in
    let lost = c.args.losing.now.lost.items in
    let inside : c.args.at < length set = search rules in
    subst (IsPartOf lost) (sym c.remove.ensures.items)
    (part_without (g.J.Judge.size c.args.judge.now) set lost c.args.at c.index.result.now c.requires.set inside c.requires.inside c.index.ensures (c.has.ensures c.if-not-has.true))

pub stays-requires-clause-set : goal.stays-requires-clause-set
stays-requires-clause-set g c =
    let inside : c.args.at < length c.args.set.now.items = search rules in
    removed_is_set (g.J.Judge.size c.args.judge.now) c.args.set.now.items c.args.at c.requires.set inside

pub returns-then-branch-clause-inside : goal.returns-then-branch-clause-inside
returns-then-branch-clause-inside g c =
    let items : c.stays.new.set.items ≡ c.args.set.now.items = search rules in
    subst (IsPartOf c.args.losing.now.lost.items) (sym items) c.requires.inside

pub take-requires : goal.take-requires
take-requires g c =
    let set = c.args.set.now.items in
    let inside : c.args.at < length set = search rules in
    let items : c.stays.new.set.items ≡ remove set c.args.at = search rules in
    let short = few (g.J.Judge.size c.args.judge.now) (remove set c.args.at) (removed_is_set (g.J.Judge.size c.args.judge.now) set c.args.at c.requires.set inside) in
    let room = c.requires.known.room in
    record { room = rw (c.as_slice.ensures.value, items) (omega (arith, short, room)) }

pub returns-clause-known : goal.returns-clause-known
returns-clause-known g c =
    let j = g.J.Judge in
    let set = c.args.set.now.items in
    let inside : c.args.at < length set = search rules in
    let items : c.stays.new.set.items ≡ remove set c.args.at = search rules in
    let lost : IsLosing (j.IsWinning c.args.judge.now) (remove set c.args.at) = λ won. false≢true (sym c.if-branch.false ∙ c.in_ok-stays.ensures.stays.1 won) in
    taken_known j.size j.IsWinning j.MayFail j.faults c.args.judge.now c.stays.new.judge c.args.losing.now c.take.new.self (remove set c.args.at) c.stays.ensures.keeps
    (removed_is_set (j.size c.args.judge.now) set c.args.at c.requires.set inside) lost c.requires.known.room c.requires.known.part_room
    (c.take.ensures.set ∙ (c.as_slice.ensures.value ∙ items)) c.take.ensures.room c.take.ensures.part
