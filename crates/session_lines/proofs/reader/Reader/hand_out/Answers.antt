use Rattle.std.proofs.Common.{ℕ, ◌≡◌, ◌+◌, ◌-◌, ap, ◌∙◌, arith, take, drop, length-take}
use Rattle.session_lines.proofs.Slices.{rest_of}
use Rattle.session_lines.proofs.reader.Reader.hand_out.Goals as goal

pub returns-clause-rest : goal.returns-clause-rest
returns-clause-rest c =
    let r = c.args.self.now in
    let place : (r.start + c.args.at) + 1 ≡ r.start + (c.args.at + 1) = omega arith in
    ap (λ (m : ℕ). take (r.end - m) (drop m r.buffer.items)) place
    ∙ rest_of r.buffer.items r.start r.end (c.args.at + 1) (omega (arith, c.requires, length-take (r.end - r.start) (drop r.start r.buffer.items)))
