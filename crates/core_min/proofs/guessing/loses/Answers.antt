use Rattle.std.proofs.Common.{◌≡◌, true, filter, vec_capacity, sym, ◌∙◌, ap, subst, arith}
use Rattle.std.specs.List.{Contains}
use Rattle.std.proofs.lemmas.Bool.{false≢true}
use Rattle.core_min.specs.Sets.{IsSetBelow, IsLosing}
use Rattle.core_min.specs.Known.{is_picked}
use Rattle.core_min.proofs.Few.{few}
use Rattle.core_min.proofs.Guessed.{picked_is_set, picked_part, taken_known}
use Rattle.core_min.proofs.guessing.loses.Goals as goal

pub pick-requires : goal.pick-requires
pick-requires g c =
    let short = few (g.J.Judge.size c.args.judge.now) c.args.losing.now.lost.items c.requires.known.numbers in
    let room = c.requires.known.part_room in
    record { room = rw c.as_slice.ensures.value (omega (arith, short, room)) }

pub wins-requires : goal.wins-requires
wins-requires g c =
    let lost = c.args.losing.now.lost.items in
    let guess = c.guess-guess.result in
    let items : c.as_slice-2.result.now ≡ filter (is_picked guess) lost =
    c.as_slice-2.ensures.value ∙ (c.pick.ensures.picked ∙ ap (filter (is_picked guess)) c.as_slice.ensures.value) in
    record { set = subst (IsSetBelow (g.J.Judge.size c.args.judge.now)) (sym items) (picked_is_set (g.J.Judge.size c.args.judge.now) (is_picked guess) lost c.requires.known.numbers) }

-- what was picked is now the set that loses
pub returns : goal.returns
returns g c =
    let j = g.J.Judge in
    let w = j.IsWinning c.args.judge.now in
    let lost = c.args.losing.now.lost.items in
    let p = is_picked c.guess-guess.result in
    let picked : c.pick.new.picked.items ≡ filter p lost = c.pick.ensures.picked ∙ ap (filter p) c.as_slice.ensures.value in
    let is : c.swap.new.x.items ≡ filter p lost = ap (λ v. v.items) c.swap.ensures.x_after ∙ picked in
    let wide = ap (λ v. vec_capacity v) c.swap.ensures.x_after in
    let more = c.pick.ensures.room in
    let part_room = c.requires.known.part_room in
    let loses : IsLosing w (filter p lost) = λ won. false≢true (sym c.if-branch.false ∙ c.in_ok-wins.ensures.answer.1 (subst w (sym (c.as_slice-2.ensures.value ∙ picked)) won)) in
    record {
      guesses =
          record {
            same = c.wins.ensures.keeps;
            known = taken_known j.size j.IsWinning j.MayFail j.faults c.args.judge.now c.wins.new.self (record { lost = c.pick.new.picked; part = c.args.losing.now.lost; guesses = true }) _ (filter p lost) c.wins.ensures.keeps
                (picked_is_set (j.size c.args.judge.now) p lost c.requires.known.numbers) loses (omega (arith, part_room, more)) c.requires.known.room is (omega (arith, wide)) c.swap.ensures.y_after;
            inside = λ k there. picked_part p lost k (subst (λ xs. Contains xs k) is there);
          };
    }
