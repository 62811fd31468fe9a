use Rattle.std.proofs.Common.{◌≡◌, true, map, string_bytes}
use Rattle.spec_model.specs.Views.{variable_data}
use Rattle.session_lines.specs.Plain.{are_plain}
use Rattle.session_lines.proofs.InOrder.{begins_reads, plain_if}
use Rattle.session_lines.proofs.read.read_line.Goals as goal

pub returns-then-read_in_order-clause-read : goal.returns-then-read_in_order-clause-read
returns-then-read_in_order-clause-read c =
    let vs = map variable_data c.args.vars.now in
    let plain : are_plain (map (λ v. v.name) vs) ≡ true = (let told = c.requires.plainly in let test = c.if-not-plain.false in cc) in
    begins_reads (map string_bytes c.args.names.now) vs c.read_in_order.new.values c.args.line.now (plain_if (map (λ v. v.name) vs) plain) c.if-read_in_order.ensures.items
