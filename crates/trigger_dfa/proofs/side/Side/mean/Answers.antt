use Rattle.std.proofs.Common.{◌≡◌, ◌<◌, arith, ap, bit_or, ◌^◌, refl, ◌∙◌, length}
use Rattle.std.proofs.Common.{get_or}
use Rattle.std.proofs.lemmas.List.{get_or_read}
use Rattle.trigger_dfa.proofs.Parts.{meaning}
use Rattle.trigger_dfa.proofs.side.Side.mean.Goals as goal

pub returns-then-atom-len : goal.returns-then-atom-len
returns-then-atom-len c =
    let meant = c.args.self.now.meant in
    let inside : c.args.atom < length meant.items = omega (arith, meant.ok.0) in
    let read = get_or_read meant.items c.args.atom c.index_mut.result.now inside c.index_mut.ensures.value 0 in
    let word : bit_or c.index_mut.result.now c.single.result ≡ bit_or (get_or meant.items c.args.atom 0) (2 ^ c.args.p) =
    ap (λ x. bit_or x c.single.result) read ∙ ap (λ x. bit_or (get_or meant.items c.args.atom 0) x) c.single.ensures in
    record {
      follow = refl;
      meant = λ k q below. meaning c.args.atom c.args.p (bit_or c.index_mut.result.now c.single.result) meant.items inside word k q (omega (arith, below, meant.ok.0));
      atoms = refl;
    }
