use Rattle.std.proofs.Common.{◌≡◌, ◌<◌, ◌∙◌, ◌++◌, ℕ, List, [], ◌∷◌, Some, None, Err, ap, sym, subst, refl, arith}
use Rattle.node_table.specs.Table.{Table}
use Rattle.bdd_store.specs.declared.fault.StoreFault.TheVariants as fault
use Rattle.bdd_reorder.specs.declared.frames.Frame.{Frame}
use Rattle.bdd_reorder.specs.declared.frames.Turn.TheVariants.{Asks, Answer}
use Rattle.bdd_reorder.specs.Copying.{CanCopy}
use Rattle.bdd_reorder.specs.Frames.{turns_of, all_turns}
use Rattle.bdd_reorder.specs.Turns.{IsCopying, IsTurn, Gives, own_turns}
use Rattle.bdd_reorder.proofs.StepLemmas.{not_memory}
use Rattle.bdd_reorder.proofs.ReadyLemmas.{fits_after}
use Rattle.bdd_reorder.proofs.TurnLemmas.{refusal, refused}
use Rattle.bdd_reorder.proofs.ReplyLemmas.{asked, asked_fewer}
use Rattle.bdd_reorder.proofs.parts.ask.Goals as goal

pub returns-then-is_err-clause-copying : goal.returns-then-is_err-clause-copying
returns-then-is_err-clause-copying c = λ o same copying.
    let from = c.end_frame.new.from in
    let to = c.end_frame.new.to in
    let copies = c.args.memo.now.copies.items in
    let fs = c.args.frames.now.items in
    let gone = c.end_frame.ensures in
    subst (λ (gs : List Frame). IsCopying o from to copies gs (Some (Err fault.Memory))) (sym c.reserve.ensures.items)
    (refused o c.args.from.now c.args.to.now copies fs c.args.frame None copying from to fault.Memory (λ e. not_memory (refusal fault.Memory) refl e) (λ n. refl) gone.from_table gone.from_released gone.to_table gone.to_released)

pub hand-requires : goal.hand-requires
hand-requires c =
    let from = c.args.from.now in
    let next = c.reply.new.from in
    let to = c.args.to.now in
    let levels = c.args.levels.now in
    let gives : Gives from next to c.reply.new.to levels c.waited.result.now c.in-Answer.made = c.in-Answer.ensures.replies levels c.requires.ready in
    record {
      fits = fits_after from next to c.reply.new.to levels c.reply.ensures.table gives.made.keeps.levels c.requires.ready.fits;
      level = subst (λ (x : Table). c.args.frame.split.level < x.levels) (sym c.reply.ensures.table) c.requires.level;
      parts = λ n. (let one = gives.roots n in let two = c.requires.parts n in omega (arith, one, two));
      copies = λ n. (let one = gives.made.added n in let two = c.requires.copy n in omega (arith, one, two));
    }

pub returns-in-Answer-clause-copying : goal.returns-in-Answer-clause-copying
returns-in-Answer-clause-copying c = λ o same copying.
    let from = c.args.from.now in
    let next = c.reply.new.from in
    let to = c.args.to.now in
    let copies = c.args.memo.now.copies.items in
    let fs = c.args.frames.now.items in
    let f = c.args.frame in
    let can : CanCopy from to o.levels c.args.truth.now copies = subst (λ (ls : List ℕ). CanCopy from to ls c.args.truth.now copies) (sym same) c.requires.ready in
    let made = c.in-Answer.made in
    let answered : IsCopying o next c.reply.new.to copies (fs ++ f ∷ []) (Some made) = asked o from next to c.reply.new.to copies fs (fs ++ f ∷ []) f c.waited.result.now (Answer made) copying c.waited.ensures c.reply.ensures.table (c.in-Answer.ensures.replies o.levels can) refl in
    subst (λ (gs : List Frame). IsTurn o c.hand.new.from c.hand.new.to c.hand.new.memo.copies.items gs c.hand.result) (sym c.reserve.ensures.items) (c.hand.ensures.copying o fs same answered)

pub returns-in-Answer-clause-fewer : goal.returns-in-Answer-clause-fewer
returns-in-Answer-clause-fewer c =
    let f = c.args.frame in
    let same = ap (all_turns c.args.from.now.state.table) c.reserve.ensures.items in
    let less = subst (λ (x : Table). own_turns x c.hand.result < turns_of x f) c.reply.ensures.table c.hand.ensures.fewer in
    omega (arith, same, less)

pub returns-in-Asks-clause-copying : goal.returns-in-Asks-clause-copying
returns-in-Asks-clause-copying c = λ o same copying.
    let from = c.args.from.now in
    let next = c.reply.new.from in
    let to = c.args.to.now in
    let copies = c.args.memo.now.copies.items in
    let fs = c.args.frames.now.items in
    let f = c.args.frame in
    let can : CanCopy from to o.levels c.args.truth.now copies = subst (λ (ls : List ℕ). CanCopy from to ls c.args.truth.now copies) (sym same) c.requires.ready in
    let waits = c.push_reserved.ensures.items ∙ ap (λ (gs : List Frame). gs ++ f ∷ []) c.reserve.ensures.items in
    asked o from next to c.reply.new.to copies fs c.push_reserved.new.self.items f c.waited.result.now (Asks c.in-Asks.next) copying c.waited.ensures c.reply.ensures.table (c.in-Asks.ensures.replies o.levels can) waits

pub returns-in-Asks-clause-fewer : goal.returns-in-Asks-clause-fewer
returns-in-Asks-clause-fewer c =
    let from = c.args.from.now in
    let next = c.reply.new.from in
    let to = c.args.to.now in
    let copies = c.args.memo.now.copies.items in
    let fs = c.args.frames.now.items in
    let f = c.args.frame in
    let waits = c.push_reserved.ensures.items ∙ ap (λ (gs : List Frame). gs ++ f ∷ []) c.reserve.ensures.items in
    asked_fewer from next to c.reply.new.to c.args.levels.now fs c.push_reserved.new.self.items f c.waited.result.now (Asks c.in-Asks.next) c.waited.ensures (c.in-Asks.ensures.replies c.args.levels.now c.requires.ready) waits
