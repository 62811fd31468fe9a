use Rattle.std.proofs.Common.{◌≡◌, ◌∙◌, refl, sym, rules}
use Rattle.counter_tables.proofs.Seating.{state_made}
use Rattle.counter_tables.proofs.nodes.node.Goals as goal

pub returns : goal.returns
returns c =
    let parts = c.parts.result in
    let hidden : c.in_ok-to_vec.field-0.items ≡ parts.0.now = search rules in
    let input : c.in_ok-to_vec-2.field-0.items ≡ parts.1.now = search rules in
    let output : c.in_ok-to_vec-3.field-0.items ≡ parts.2.now = search rules in
    let reply : c.in_ok-to_vec-4.field-0.items ≡ c.args.seat.now.reply.items = search rules in
    let next : c.in_ok-to_vec-5.field-0.items ≡ c.args.row.now = search rules in
    record {
      state = λ s inside lists.
          let split = c.parts.ensures s inside (lists ∙ sym c.deref.ensures.value) in
          state_made s _ _ _ (record { hidden = hidden ∙ split.hidden; input = input ∙ split.input; output = output ∙ split.output });
      spot = refl;
      reply = reply;
      next = next;
    }
