use Rattle.std.proofs.Common.{◌≡◌, ℕ, ◌+◌, List, [], ◌∷◌, ◌++◌, false, map, string_bytes, length, get_or, ap, ◌∙◌, arith, length-append}
use Rattle.spec_model.specs.declared.value.Value.TheVariants as value
use Rattle.spec_model.specs.declared.value.Var.{Var}
use Rattle.spec_model.specs.Views.{variable_data}
use Rattle.session_lines.specs.Shown.{item_of, show}
use Rattle.session_lines.proofs.Printing.{led, led_by_none, rest_of, parts, parts_fit}
use Rattle.session_lines.proofs.print.push_line.Goals as goal

pub loop-i-init : goal.loop-i-init
loop-i-init c =
    let names = map string_bytes c.args.names.now in
    let items = rest_of names c.args.vars.now c.args.values.now 0 in
    record {
      so_far =
          ap (λ (s : List ℕ). c.args.out.now.items ++ led s items) c.as_slice-separator.ensures
          ∙ ap (λ (l : List ℕ). c.args.out.now.items ++ l) (led_by_none items);
      capacity = omega arith;
    }

pub push_bytes-requires : goal.push_bytes-requires
push_bytes-requires c =
    let names = map string_bytes c.args.names.now in
    let line = show names (map variable_data c.args.vars.now) c.args.values.now in
    let out = c.args.out.now in
    let fit = parts_fit names c.args.vars.now c.args.values.now c.loop-i.i c.index-vars-i.result (value.Bool false) c.loop-i-test.true c.requires.places
    c.loop-i.separator.now c.loop-i.out.items (out.items ++ line) c.loop-i.invariant.so_far in
    record { room = omega (arith, fit, length-append out.items line, out.ok.0, c.loop-i.out.ok.0, c.requires.room, c.loop-i.invariant.capacity) }

pub push_item-requires : goal.push_item-requires
push_item-requires c =
    let names = map string_bytes c.args.names.now in
    let line = show names (map variable_data c.args.vars.now) c.args.values.now in
    let out = c.args.out.now in
    let x = get_or c.args.values.now c.loop-i.i (value.Bool false) in
    let fit = parts_fit names c.args.vars.now c.args.values.now c.loop-i.i c.index-vars-i.result (value.Bool false) c.loop-i-test.true c.requires.places
    c.loop-i.separator.now c.loop-i.out.items (out.items ++ line) c.loop-i.invariant.so_far in
    let same = ap (λ (v : Var). length (item_of names (variable_data v) x)) c.index-vars-i.is in
    record {
      room = omega (arith, fit, same, length-append out.items line, out.ok.0, c.loop-i.out.ok.0, c.push_bytes.new.out.ok.0, ap length c.push_bytes.ensures.items, length-append c.loop-i.out.items c.loop-i.separator.now, c.push_bytes.ensures.capacity, c.requires.room, c.loop-i.invariant.capacity);
    }

pub loop-i-preserved : goal.loop-i-preserved
loop-i-preserved c =
    let names = map string_bytes c.args.names.now in
    let line = show names (map variable_data c.args.vars.now) c.args.values.now in
    let front = c.loop-i.out.items ++ c.loop-i.separator.now in
    let x = get_or c.args.values.now c.loop-i.i (value.Bool false) in
    let rest = rest_of names c.args.vars.now c.args.values.now (c.loop-i.i + 1) in
    let printed : c.push_item.new.out.items ≡ front ++ item_of names (variable_data (get_or c.args.vars.now c.loop-i.i c.index-vars-i.result)) x =
    c.push_item.ensures.items
    ∙ ap (λ (l : List ℕ). l ++ item_of names (variable_data c.index-vars-i.result) x) c.push_bytes.ensures.items
    ∙ ap (λ (v : Var). front ++ item_of names (variable_data v) x) c.index-vars-i.is in
    record {
      so_far =
          ap (λ (s : List ℕ). c.push_item.new.out.items ++ led s rest) c.as_slice-separator-in-loop-i.ensures
          ∙ ap (λ (l : List ℕ). l ++ led (32 ∷ []) rest) printed
          ∙ parts names c.args.vars.now c.args.values.now c.loop-i.i c.index-vars-i.result (value.Bool false) c.loop-i-test.true c.requires.places
          c.loop-i.separator.now c.loop-i.out.items (c.args.out.now.items ++ line) c.loop-i.invariant.so_far;
      capacity = omega (arith, c.loop-i.invariant.capacity, c.push_bytes.ensures.capacity, c.push_item.ensures.capacity);
    }
