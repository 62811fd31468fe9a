use Rattle.std.proofs.Common.{◌≡◌, ◌<◌, ◌++◌, List, [], ◌∷◌, Option, Some, None, sym, subst, refl, arith}
use Rattle.node_table.specs.Table.{Table}
use Rattle.bdd_reorder.specs.declared.frames.Frame.{Frame}
use Rattle.bdd_reorder.specs.declared.frames.Turn.{Turn}
use Rattle.bdd_reorder.specs.Frames.{turns_of}
use Rattle.bdd_reorder.specs.Turns.{origin, IsCopying, IsTurn, own_turns}
use Rattle.bdd_reorder.proofs.TurnLemmas.{begun, can_copy, last_parts, last_copies, last_frame, replied}
use Rattle.bdd_reorder.proofs.ReplyLemmas.{handed_fewer}
use Rattle.bdd_reorder.proofs.parts.part.Goals as goal

pub loop-turn-init : goal.loop-turn-init
loop-turn-init c =
    let from = c.args.from.now in
    let to = c.args.to.now in
    let copies = c.args.memo.now.copies.items in
    let o = origin from to c.args.levels.now c.args.a.now copies in
    let turn = c.reply-turn.result in
    subst (λ (fs : List Frame). IsTurn o c.reply-turn.new.from c.reply-turn.new.to copies fs turn) (sym c.requires.empty)
    (replied o from c.reply-turn.new.from to c.reply-turn.new.to copies [] c.args.a.now (begun o) refl c.reply-turn.ensures.table turn (c.reply-turn.ensures.replies c.args.levels.now c.requires.ready))

pub ask-requires-clause-ready : goal.ask-requires-clause-ready
ask-requires-clause-ready c =
    let o = origin c.args.from.now c.args.to.now c.args.levels.now c.args.a.now c.args.memo.now.copies.items in
    let l = c.loop-turn in
    let copies = l.memo.copies.items in
    let f = c.in-Asks.frame in
    let asking : IsCopying o l.from l.to copies (l.frames.items ++ f ∷ []) None = subst (λ (turn : Turn). IsTurn o l.from l.to copies l.frames.items turn) c.in-Asks.is l.invariant in
    can_copy o l.from l.to copies (l.frames.items ++ f ∷ []) None asking c.args.truth.now c.requires.ready

pub ask-requires-clause-level : goal.ask-requires-clause-level
ask-requires-clause-level c =
    let o = origin c.args.from.now c.args.to.now c.args.levels.now c.args.a.now c.args.memo.now.copies.items in
    let l = c.loop-turn in
    let copies = l.memo.copies.items in
    let f = c.in-Asks.frame in
    let asking : IsCopying o l.from l.to copies (l.frames.items ++ f ∷ []) None = subst (λ (turn : Turn). IsTurn o l.from l.to copies l.frames.items turn) c.in-Asks.is l.invariant in
    subst (λ (x : Table). f.split.level < x.levels) (sym asking.table) (last_frame o l.from l.to copies l.frames.items f None asking).split.below

pub ask-requires-clause-parts : goal.ask-requires-clause-parts
ask-requires-clause-parts c =
    let o = origin c.args.from.now c.args.to.now c.args.levels.now c.args.a.now c.args.memo.now.copies.items in
    let l = c.loop-turn in
    let copies = l.memo.copies.items in
    let f = c.in-Asks.frame in
    let asking : IsCopying o l.from l.to copies (l.frames.items ++ f ∷ []) None = subst (λ (turn : Turn). IsTurn o l.from l.to copies l.frames.items turn) c.in-Asks.is l.invariant in
    last_parts o l.from l.to copies l.frames.items f None asking

pub ask-requires-clause-copy : goal.ask-requires-clause-copy
ask-requires-clause-copy c =
    let o = origin c.args.from.now c.args.to.now c.args.levels.now c.args.a.now c.args.memo.now.copies.items in
    let l = c.loop-turn in
    let copies = l.memo.copies.items in
    let f = c.in-Asks.frame in
    let asking : IsCopying o l.from l.to copies (l.frames.items ++ f ∷ []) None = subst (λ (turn : Turn). IsTurn o l.from l.to copies l.frames.items turn) c.in-Asks.is l.invariant in
    λ n. (let kept = last_copies o l.from l.to copies l.frames.items f None asking n in omega (arith, kept))

pub hand-requires-clause-level : goal.hand-requires-clause-level
hand-requires-clause-level c =
    let o = origin c.args.from.now c.args.to.now c.args.levels.now c.args.a.now c.args.memo.now.copies.items in
    let l = c.loop-turn in
    let copies = l.memo.copies.items in
    let f = c.in-Some.frame in
    let rest = c.pop.new.self.items in
    let made = c.in-Answer.made in
    let answered : IsCopying o l.from l.to copies l.frames.items (Some made) = subst (λ (turn : Turn). IsTurn o l.from l.to copies l.frames.items turn) c.in-Answer.is l.invariant in
    let handing : IsCopying o l.from l.to copies (rest ++ f ∷ []) (Some made) = subst (λ (fs : List Frame). IsCopying o l.from l.to copies fs (Some made)) c.in-Some.ensures.items answered in
    subst (λ (x : Table). f.split.level < x.levels) (sym handing.table) (last_frame o l.from l.to copies rest f (Some made) handing).split.below

pub hand-requires-clause-parts : goal.hand-requires-clause-parts
hand-requires-clause-parts c =
    let o = origin c.args.from.now c.args.to.now c.args.levels.now c.args.a.now c.args.memo.now.copies.items in
    let l = c.loop-turn in
    let copies = l.memo.copies.items in
    let f = c.in-Some.frame in
    let rest = c.pop.new.self.items in
    let made = c.in-Answer.made in
    let answered : IsCopying o l.from l.to copies l.frames.items (Some made) = subst (λ (turn : Turn). IsTurn o l.from l.to copies l.frames.items turn) c.in-Answer.is l.invariant in
    let handing : IsCopying o l.from l.to copies (rest ++ f ∷ []) (Some made) = subst (λ (fs : List Frame). IsCopying o l.from l.to copies fs (Some made)) c.in-Some.ensures.items answered in
    last_parts o l.from l.to copies rest f (Some made) handing

pub hand-requires-clause-copies : goal.hand-requires-clause-copies
hand-requires-clause-copies c =
    let o = origin c.args.from.now c.args.to.now c.args.levels.now c.args.a.now c.args.memo.now.copies.items in
    let l = c.loop-turn in
    let copies = l.memo.copies.items in
    let f = c.in-Some.frame in
    let rest = c.pop.new.self.items in
    let made = c.in-Answer.made in
    let answered : IsCopying o l.from l.to copies l.frames.items (Some made) = subst (λ (turn : Turn). IsTurn o l.from l.to copies l.frames.items turn) c.in-Answer.is l.invariant in
    let handing : IsCopying o l.from l.to copies (rest ++ f ∷ []) (Some made) = subst (λ (fs : List Frame). IsCopying o l.from l.to copies fs (Some made)) c.in-Some.ensures.items answered in
    last_copies o l.from l.to copies rest f (Some made) handing

pub loop-turn-preserved-in-Asks : goal.loop-turn-preserved-in-Asks
loop-turn-preserved-in-Asks c =
    let o = origin c.args.from.now c.args.to.now c.args.levels.now c.args.a.now c.args.memo.now.copies.items in
    let l = c.loop-turn in
    let copies = l.memo.copies.items in
    let f = c.in-Asks.frame in
    let asking : IsCopying o l.from l.to copies (l.frames.items ++ f ∷ []) None = subst (λ (turn : Turn). IsTurn o l.from l.to copies l.frames.items turn) c.in-Asks.is l.invariant in
    c.ask.ensures.copying o refl asking

pub loop-turn-smaller : goal.loop-turn-smaller
loop-turn-smaller c =
    let o = origin c.args.from.now c.args.to.now c.args.levels.now c.args.a.now c.args.memo.now.copies.items in
    let l = c.loop-turn in
    let copies = l.memo.copies.items in
    let f = c.in-Some.frame in
    let rest = c.pop.new.self.items in
    let made = c.in-Answer.made in
    let answered : IsCopying o l.from l.to copies l.frames.items (Some made) = subst (λ (turn : Turn). IsTurn o l.from l.to copies l.frames.items turn) c.in-Answer.is l.invariant in
    let handing : IsCopying o l.from l.to copies (rest ++ f ∷ []) (Some made) = subst (λ (fs : List Frame). IsCopying o l.from l.to copies fs (Some made)) c.in-Some.ensures.items answered in
    handed_fewer c.args.from.now.state.table l.frames.items rest f l.turn c.hand.result c.in-Some.ensures.items (subst (λ (x : Table). own_turns x c.hand.result < turns_of x f) handing.table c.hand.ensures.fewer)
