use Rattle.std.proofs.Common.{◌<◌, ◌++◌, ℕ, [], ◌∷◌, Result, Some, Ok, Err, length, ap, subst, refl, arith}
use Rattle.bdd_store.specs.declared.fault.StoreFault.{StoreFault}
use Rattle.bdd_reorder.specs.Turns.{IsCopying}
use Rattle.bdd_reorder.proofs.ElementLemmas.{got}
use Rattle.bdd_reorder.proofs.TurnLemmas.{refused, low_made}
use Rattle.bdd_reorder.proofs.ReplyLemmas.{handed}
use Rattle.bdd_reorder.proofs.parts.hand.Goals as goal

pub returns-in-Err-clause-copying : goal.returns-in-Err-clause-copying
returns-in-Err-clause-copying c = λ o fs same copying.
    let from = c.args.from.now in
    let to = c.args.to.now in
    let copies = c.args.memo.now.copies.items in
    let f = c.args.frame in
    let h = c.in-Err.fault in
    let answered : IsCopying o from to copies (fs ++ f ∷ []) (Some (Err h)) = subst (λ (m : Result ℕ StoreFault). IsCopying o from to copies (fs ++ f ∷ []) (Some m)) c.in-Err.is copying in
    let gone = c.end_frame.ensures in
    refused o from to copies fs f (Some (Err h)) answered c.end_frame.new.from c.end_frame.new.to h (λ e. ap (λ (m : Result ℕ StoreFault). Some m) e) (λ n. refl) gone.from_table gone.from_released gone.to_table gone.to_released

pub returns-in_default-clause-copying : goal.returns-in_default-clause-copying
returns-in_default-clause-copying c = λ o fs same copying.
    let from = c.args.from.now in
    let to = c.args.to.now in
    let copies = c.args.memo.now.copies.items in
    let f = c.args.frame in
    let root = c.in-Ok.root in
    let answered : IsCopying o from to copies (fs ++ f ∷ []) (Some (Ok root)) = subst (λ (m : Result ℕ StoreFault). IsCopying o from to copies (fs ++ f ∷ []) (Some m)) c.in-Ok.is copying in
    low_made o from to copies fs f (record { number = f.number; split = f.split; low_copy = Some root }) root answered c.in_default.is refl

pub returns-clause-copying : goal.returns-clause-copying
returns-clause-copying c = λ o fs same copying.
    let from = c.args.from.now in
    let to = c.args.to.now in
    let levels = c.args.levels.now in
    let copies = c.args.memo.now.copies.items in
    let f = c.args.frame in
    let root = c.in-Ok.root in
    let answered : IsCopying o from to copies (fs ++ f ∷ []) (Some (Ok root)) = subst (λ (m : Result ℕ StoreFault). IsCopying o from to copies (fs ++ f ∷ []) (Some m)) c.in-Ok.is copying in
    let below : f.split.level < length levels = omega (arith, c.requires.level, c.requires.fits.each) in
    let noted = c.remember.ensures in
    handed o levels from c.end_split.new.from to c.join-joined.new.to c.remember.new.to copies c.remember.new.self.copies.items fs f c.in-Some.low root _ c.join-joined.result c.remember.result same answered c.in-Some.is (got levels f.split.level _ f.split.level below) c.join-joined.ensures c.end_split.ensures.table c.end_split.ensures.released
    noted.keeps noted.same noted.noted noted.added noted.refused noted.full
