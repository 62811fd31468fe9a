use Rattle.std.proofs.Common.{◌≡◌, ◌++◌, length, map, sym, ap, ◌∙◌, arith, Some}
use Rattle.std.proofs.lemmas.List.{length-map}
use Rattle.spec_model.specs.Views.{pattern_data}
use Rattle.pattern_rows.specs.Rows.{may_follow}
use Rattle.pattern_rows.proofs.Marks.{each_told, each_place, one_open, on_ok}
use Rattle.pattern_rows.proofs.found.add_block.Goals as goal

pub returns-in-Some-true-clause-added : goal.returns-in-Some-true-clause-added
returns-in-Some-true-clause-added c =
    let letters = map (λ c. c.items) c.args.letters.now in
    let long = length-map c.args.letters.now (λ c. c.items) in
    let sized : length c.find.new.found ≡ length letters = omega (arith, long, c.find.ensures.lengths, c.split_at_mut-found.ensures.front_len) in
    on_ok c.add_found.result c.add_found.ensures.added c.add_found.ensures.told
    (λ added told. added
    ∙ ap (λ ks. c.args.next.now.items ++ ks)
    (each_place (λ letter. may_follow (pattern_data c.args.pattern.now) letter c.args.own.now) (map (λ c. c.items) c.args.owns.now) letters c.find.new.found sized
    (λ l below. c.find.ensures.found (c.in-Some-true.is ∙ ap Some c.in-Some-true.field-0-test) l (omega (arith, long, below))) told))

pub returns-in-Some-true-clause-told : goal.returns-in-Some-true-clause-told
returns-in-Some-true-clause-told c =
    let letters = map (λ c. c.items) c.args.letters.now in
    let long = length-map c.args.letters.now (λ c. c.items) in
    let sized : length c.find.new.found ≡ length letters = omega (arith, long, c.find.ensures.lengths, c.split_at_mut-found.ensures.front_len) in
    on_ok c.add_found.result c.add_found.ensures.told c.add_found.ensures.told
    (λ told again.
    sym (each_told (λ letter. may_follow (pattern_data c.args.pattern.now) letter c.args.own.now) (map (λ c. c.items) c.args.owns.now) letters c.find.new.found sized
    (λ l below. c.find.ensures.found (c.in-Some-true.is ∙ ap Some c.in-Some-true.field-0-test) l (omega (arith, long, below)))) ∙ told)

pub returns-in-Some-true-clause-open : goal.returns-in-Some-true-clause-open
returns-in-Some-true-clause-open c = λ is.
    let letters = map (λ c. c.items) c.args.letters.now in
    let long = length-map c.args.letters.now (λ c. c.items) in
    let sized : length c.find.new.found ≡ length letters = omega (arith, long, c.find.ensures.lengths, c.split_at_mut-found.ensures.front_len) in
    sym (each_told (λ letter. may_follow (pattern_data c.args.pattern.now) letter c.args.own.now) (map (λ c. c.items) c.args.owns.now) letters c.find.new.found sized
    (λ l below. c.find.ensures.found (c.in-Some-true.is ∙ ap Some c.in-Some-true.field-0-test) l (omega (arith, long, below)))) ∙ c.add_found.ensures.open is

pub returns-in-Some-false-clause-open : goal.returns-in-Some-false-clause-open
returns-in-Some-false-clause-open c = λ is.
    let letters = map (λ c. c.items) c.args.letters.now in
    let long = length-map c.args.letters.now (λ c. c.items) in
    let one = c.find.ensures.open (c.in-Some-false.is ∙ ap Some c.in-Some-false.field-0-test) in
    one_open (λ letter. may_follow (pattern_data c.args.pattern.now) letter c.args.own.now) (map (λ c. c.items) c.args.owns.now) letters one.0 (omega (arith, long, one.1)) one.2
