use Rattle.std.proofs.Common.{◌+◌, List, ◌∷◌, map, drop, string_bytes, sym, ap, ◌∙◌, subst, arith}
use Rattle.std.proofs.lemmas.List.{drop_more, drop_all}
use Rattle.spec_model.specs.declared.value.Var.{Var}
use Rattle.spec_model.specs.Views.{variable_data}
use Rattle.session_lines.specs.Room.{HasRoom}
use Rattle.session_lines.proofs.Rooms.{room_more, room_none}
use Rattle.session_lines.proofs.make.room_for.Goals as goal

pub loop-var-preserved : goal.loop-var-preserved
loop-var-preserved c = λ k rest xs are.
    let names = map string_bytes c.args.names.now in
    let var = c.var-item.result in
    let item = c.in_ok-item.item in
    let later = drop (c.loop-var.var-index + 1) c.args.vars.now in
    let front = drop_more c.args.vars.now c.loop-var.var-index var c.loop-var-test.true ∙ ap (λ (v : Var). v ∷ later) (sym c.var-item.is) in
    let more = room_more names (variable_data var) (map variable_data later) item k c.in_ok-item.ensures rest in
    let there = subst (λ (vs : List Var). HasRoom names (map variable_data vs) ((item + k) + 1)) (sym front) more in
    omega (arith, c.loop-var.invariant (item + k) there xs are, c.in_ok-room.ensures)

pub returns : goal.returns
returns c = λ xs are.
    let names = map string_bytes c.args.names.now in
    let none = drop_all c.loop-var.var-index c.args.vars.now c.loop-var-test.false in
    let done = subst (λ (vs : List Var). HasRoom names (map variable_data vs) 1) (sym none) (room_none names) in
    omega (arith, c.loop-var.invariant 0 done xs are)
