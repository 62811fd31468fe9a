use Rattle.std.proofs.Common.{◌*◌, ap, ◌∙◌, subst, map, drop}
use Rattle.std.specs.List.{list_all}
use Rattle.pattern_rows.specs.Blocks.{is_letter, AreWordsOf}
use Rattle.pattern_rows.proofs.Parts.{block_few, part_passes, one_longer, one_block}
use Rattle.pattern_rows.proofs.words.block_words.Goals as goal

pub parameter_words-requires-clause-few : goal.parameter_words-requires-clause-few
parameter_words-requires-clause-few c = block_few (λ c. c.items) c.block_of.result.now (drop (64 * c.loop-c.c) (map (λ c. c.items) c.args.letters.now)) c.block_of.ensures

pub parameter_words-requires-clause-letters : goal.parameter_words-requires-clause-letters
parameter_words-requires-clause-letters c =
    ap (λ ls. list_all (is_letter c.args.params) ls) c.block_of.ensures ∙ part_passes (is_letter c.args.params) 64 (64 * c.loop-c.c) (map (λ c. c.items) c.args.letters.now) c.requires

pub loop-c-preserved : goal.loop-c-preserved
loop-c-preserved c =
    let letters = map (λ c. c.items) c.args.letters.now in
    record {
      many = one_longer (λ c. c.items) letters c.loop-c.blocks.items c.push.new.self.items c.in_ok-parameter_words.field-0 c.loop-c.c c.in_ok-push.ensures.items c.loop-c.invariant.many;
      words = one_block (λ c. c.items) letters c.loop-c.blocks.items c.push.new.self.items c.in_ok-parameter_words.field-0 c.loop-c.c c.in_ok-push.ensures.items c.loop-c.invariant.many c.loop-c.invariant.words
          (subst (λ ls. AreWordsOf ls c.in_ok-parameter_words.field-0.items) c.block_of.ensures c.in_ok-parameter_words.ensures);
    }
