use Rattle.std.proofs.Common.{◌==◌, ◌*◌, length, map, ap, ◌∙◌}
use Rattle.std.specs.List.{list_all, position_or_len}
use Rattle.spec_model.specs.Views.{pattern_data}
use Rattle.pattern_rows.specs.declared.fault.RowFault.TheVariants.{Open}
use Rattle.pattern_rows.specs.Rows.{may_follow}
use Rattle.pattern_rows.specs.ToldRows.{is_told}
use Rattle.pattern_rows.proofs.Handed.{handed_on}
use Rattle.pattern_rows.proofs.Parts.{part_passes, told_block, open_block, added_block}
use Rattle.pattern_rows.proofs.filling.add_next.Goals as goal

pub add_block-requires-clause-letters : goal.add_block-requires-clause-letters
add_block-requires-clause-letters c =
    ap (λ ls. list_all (λ l. length l == (pattern_data c.args.pattern.now).params) ls) c.block_of.ensures
    ∙ part_passes (λ l. length l == (pattern_data c.args.pattern.now).params) 64 (64 * c.loop-c.c) (map (λ c. c.items) c.args.letters.now) c.requires.letters

pub returns-in_err-add_block-clause-open : goal.returns-in_err-add_block-clause-open
returns-in_err-add_block-clause-open c = λ is.
    open_block (λ letter. is_told (may_follow (pattern_data c.args.pattern.now) letter c.args.own.now) (map (λ c. c.items) c.args.owns.now)) c.loop-c.c (map (λ c. c.items) c.args.letters.now) (map (λ c. c.items) c.block_of.result.now) c.block_of.ensures _ c.loop-c.invariant.told
    (c.in_err-add_block.ensures.open (handed_on c.from_residual.result c.in_err-add_block.field-0.0 Open c.from_residual.ensures.1 is))

pub loop-c-preserved : goal.loop-c-preserved
loop-c-preserved c =
    let letters = map (λ c. c.items) c.args.letters.now in
    let block = map (λ c. c.items) c.block_of.result.now in
    record {
      added =
          added_block (λ letter. position_or_len (may_follow (pattern_data c.args.pattern.now) letter c.args.own.now) (map (λ c. c.items) c.args.owns.now)) c.loop-c.c letters block c.block_of.ensures c.loop-c.next.items c.add_block.new.next.items _
          c.in_ok-add_block.ensures.added c.loop-c.invariant.added;
      told =
          told_block (λ letter. is_told (may_follow (pattern_data c.args.pattern.now) letter c.args.own.now) (map (λ c. c.items) c.args.owns.now)) c.loop-c.c letters block c.block_of.ensures _ c.loop-c.invariant.told
          c.in_ok-add_block.ensures.told;
    }
