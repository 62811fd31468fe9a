use Rattle.std.proofs.Common.{Bool, ◌+◌, ◌-◌, ◌*◌, ◌<◌, arith, rules, ap, sym, ◌∙◌, length, if◌then◌else◌}
use Rattle.spec_model.specs.Syntax.{Formula}
use Rattle.spec_model.specs.Views.{formula}
use Rattle.spec_model.specs.Meaning.{holds_at}
use Rattle.game_values.proofs.Letters.{safe_at, lighter_at, letter_step, letter_fits}
use Rattle.game_values.proofs.eval.+eval.Goals as goal

pub letter-holds-requires : goal.letter-holds-requires
letter-holds-requires g t c κs within =
    let test = c.loop-k-test.true in
    let inside = c.loop-k.invariant.within in
    let below : c.loop-k.k - 1 < length c.args.atoms.now = omega arith in
    let less = lighter_at c.args.atoms.now (c.loop-k.k - 1) c.index-atoms-k.result below c.index-atoms-k.is in
    let safe = safe_at (g.S.Seen.reading c.args.s.now) c.args.atoms.now (c.loop-k.k - 1) c.index-atoms-k.result below c.index-atoms-k.is c.requires.safe in
    search rules

pub letter-overflow_mul-letter : goal.letter-overflow_mul-letter
letter-overflow_mul-letter g t c =
    let test = c.loop-k-test.true in
    let fits = letter_fits (length c.args.atoms.now) (c.loop-k.k - 1) c.loop-k.k c.loop-k.letter c.holds.result (omega arith) c.loop-k.invariant.within c.loop-k.invariant.below c.requires.few in
    omega (arith, fits.1)

pub letter-overflow_add-letter : goal.letter-overflow_add-letter
letter-overflow_add-letter g t c =
    let test = c.loop-k-test.true in
    let fits = letter_fits (length c.args.atoms.now) (c.loop-k.k - 1) c.loop-k.k c.loop-k.letter c.holds.result (omega arith) c.loop-k.invariant.within c.loop-k.invariant.below c.requires.few in
    omega (arith, fits.1, c.bit.ensures)

pub letter-loop-k-preserved : goal.letter-loop-k-preserved
letter-loop-k-preserved g t c =
    let test = c.loop-k-test.true in
    let inside = c.loop-k.invariant.within in
    let fits = letter_fits (length c.args.atoms.now) (c.loop-k.k - 1) c.loop-k.k c.loop-k.letter c.holds.result (omega arith) c.loop-k.invariant.within c.loop-k.invariant.below c.requires.few in
    let f : Formula → Bool = λ e. holds_at (g.S.Seen.reading c.args.s.now) e 0 in
    let below : c.loop-k.k - 1 < length c.args.atoms.now = omega arith in
    record {
      within = omega arith;
      value =
          ap (λ b. b + 2 * c.loop-k.letter) (c.bit.ensures ∙ ap (λ b. if b then 1 else 0) c.holds.ensures)
          ∙ (ap (λ n. (if f (formula c.index-atoms-k.result) then 1 else 0) + 2 * n) c.loop-k.invariant.value
          ∙ sym (letter_step f c.args.atoms.now (c.loop-k.k - 1) c.loop-k.k c.index-atoms-k.result below (omega arith) c.index-atoms-k.is));
      below = omega (arith, fits.0, c.bit.ensures);
    }
