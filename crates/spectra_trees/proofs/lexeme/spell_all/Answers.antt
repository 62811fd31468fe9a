use Rattle.std.proofs.Common.{◌≡◌, ◌+◌, refl, sym, arith}
use Rattle.std.proofs.lemmas.List.{map_push}
use Rattle.spectra_trees.specs.Views.{lexeme_of}
use Rattle.spectra_trees.proofs.Spelling.{slice_at, lexemes_from-take}
use Rattle.spectra_trees.proofs.lexeme.spell_all.Goals as goal

pub spell-requires-clause-forward : goal.spell-requires-clause-forward
spell-requires-clause-forward c = (slice_at c.args.text.now 0 c.args.tokens.now c.loop-token.token-index c.requires.slices c.loop-token-test.true).1.forward

pub spell-requires-clause-within : goal.spell-requires-clause-within
spell-requires-clause-within c = (slice_at c.args.text.now 0 c.args.tokens.now c.loop-token.token-index c.requires.slices c.loop-token-test.true).1.within

pub spell-requires-clause-utf8 : goal.spell-requires-clause-utf8
spell-requires-clause-utf8 c =
    let slice = (slice_at c.args.text.now 0 c.args.tokens.now c.loop-token.token-index c.requires.slices c.loop-token-test.true).1 in
    (slice.characters, (slice.scalars, sym slice.bytes))

pub loop-token-preserved : goal.loop-token-preserved
loop-token-preserved c =
    let more = lexemes_from-take c.args.text.now 0 c.loop-token.token-index c.args.tokens.now c.loop-token-test.true in
    let zero_plus : 0 + c.loop-token.token-index ≡ c.loop-token.number = omega (arith, c.loop-token.invariant.numbered) in
    record {
      numbered = omega (arith, c.loop-token.invariant.numbered);
      spelled = rw (c.in_ok-push.ensures.items, map_push lexeme_of c.loop-token.found.items c.spell.result, c.spell.ensures, more, zero_plus, c.loop-token.invariant.spelled) refl;
    }
