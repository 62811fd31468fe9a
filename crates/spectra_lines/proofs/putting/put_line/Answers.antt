use Rattle.std.proofs.Common.{◌≡◌, true, false, not, if◌then◌else◌, Some, None, is_some, option_map, sym, ap, ◌∙◌}
use Rattle.spectra_resolved.specs.TextViews.{body_data, line_data}
use Rattle.spectra_lines.specs.Contents.{trees_in, line_put}
use Rattle.spectra_lines.specs.Limits.{all_fit, room_behind, is_small}
use Rattle.spectra_lines.specs.Lines.{put_trees}
use Rattle.spectra_lines.specs.Views.{facts_data}
use Rattle.spectra_lines.proofs.Rooms.{none_behind, large_behind, if_some, if_none}
use Rattle.spectra_lines.proofs.putting.put_line.Goals as goal

-- ---- no room before

pub returns-in-None-clause-room : goal.returns-in-None-clause-room
returns-in-None-clause-room c =
    let f = facts_data c.args.facts.now in
    let ts = put_trees f (line_data c.args.line.now) in
    c.in-None.is ∙ sym (none_behind f.known 0 ts) ∙ ap (λ o. room_behind f.known 0 o ts) (sym c.in-None.is)

pub returns-in-None-clause-made : goal.returns-in-None-clause-made
returns-in-None-clause-made c =
    let f = facts_data c.args.facts.now in
    let l = line_data c.args.line.now in
    let ts = put_trees f l in
    let small : is_small f.known 0 c.args.room.now ts ≡ false = ap (λ o. is_small f.known 0 o ts) c.in-None.is ∙ ap is_some (none_behind f.known 0 ts) in
    λ i. if sym small i then Some (line_put f l) else None

-- ---- what is put in is too large

pub returns-in-None-2-clause-room : goal.returns-in-None-2-clause-room
returns-in-None-2-clause-room c =
    let f = facts_data c.args.facts.now in
    let l = line_data c.args.line.now in
    let ts = put_trees f l in
    let large = if_none (all_fit ts) (line_put f l).body (sym (ap (option_map body_data) c.in-None-2.is) ∙ c.in_ok-body.ensures) in
    sym (large_behind f.known 0 c.args.room.now ts large)

pub returns-in-None-2-clause-made : goal.returns-in-None-2-clause-made
returns-in-None-2-clause-made c =
    let f = facts_data c.args.facts.now in
    let l = line_data c.args.line.now in
    let ts = put_trees f l in
    let large = if_none (all_fit ts) (line_put f l).body (sym (ap (option_map body_data) c.in-None-2.is) ∙ c.in_ok-body.ensures) in
    let small : is_small f.known 0 c.args.room.now ts ≡ false = ap is_some (large_behind f.known 0 c.args.room.now ts large) in
    λ i. if sym small i then Some (line_put f l) else None

-- ---- its formulas are too large

pub returns-then-is_none-clause-room : goal.returns-then-is_none-clause-room
returns-then-is_none-clause-room c =
    let f = facts_data c.args.facts.now in
    let l = line_data c.args.line.now in
    let made = if_some (all_fit (put_trees f l)) (body_data c.in-Some-2.body) (line_put f l).body (sym (ap (option_map body_data) c.in-Some-2.is) ∙ c.in_ok-body.ensures) in
    let trees = ap trees_in made.1 in
    c.in_ok-room.ensures (ap all_fit trees ∙ made.0) ∙ (λ i. room_behind f.known 0 (sym c.in-Some.is i) (trees i))

pub returns-then-is_none-clause-made : goal.returns-then-is_none-clause-made
returns-then-is_none-clause-made c =
    let f = facts_data c.args.facts.now in
    let l = line_data c.args.line.now in
    let made = if_some (all_fit (put_trees f l)) (body_data c.in-Some-2.body) (line_put f l).body (sym (ap (option_map body_data) c.in-Some-2.is) ∙ c.in_ok-body.ensures) in
    let trees = ap trees_in made.1 in
    let left = c.in_ok-room.ensures (ap all_fit trees ∙ made.0) ∙ (λ i. room_behind f.known 0 (sym c.in-Some.is i) (trees i)) in
    let small : is_small f.known 0 c.args.room.now (put_trees f l) ≡ false = sym (ap is_some left) ∙ c.is_none.ensures ∙ ap not c.if-is_none.true in
    λ i. if sym small i then Some (line_put f l) else None

-- ---- it is made

pub returns-clause-room : goal.returns-clause-room
returns-clause-room c =
    let f = facts_data c.args.facts.now in
    let l = line_data c.args.line.now in
    let made = if_some (all_fit (put_trees f l)) (body_data c.in-Some-2.body) (line_put f l).body (sym (ap (option_map body_data) c.in-Some-2.is) ∙ c.in_ok-body.ensures) in
    let trees = ap trees_in made.1 in
    c.in_ok-room.ensures (ap all_fit trees ∙ made.0) ∙ (λ i. room_behind f.known 0 (sym c.in-Some.is i) (trees i))

pub returns-clause-made : goal.returns-clause-made
returns-clause-made c =
    let f = facts_data c.args.facts.now in
    let l = line_data c.args.line.now in
    let made = if_some (all_fit (put_trees f l)) (body_data c.in-Some-2.body) (line_put f l).body (sym (ap (option_map body_data) c.in-Some-2.is) ∙ c.in_ok-body.ensures) in
    let trees = ap trees_in made.1 in
    let left = c.in_ok-room.ensures (ap all_fit trees ∙ made.0) ∙ (λ i. room_behind f.known 0 (sym c.in-Some.is i) (trees i)) in
    let small : is_small f.known 0 c.args.room.now (put_trees f l) ≡ true = sym (ap is_some left) ∙ c.is_none.ensures ∙ ap not c.if-is_none.false in
    (λ i. Some (record l { body = made.1 i })) ∙ (λ i. if sym small i then Some (line_put f l) else None)
