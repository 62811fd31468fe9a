use Rattle.std.proofs.Common.{◌≡◌, ◌<◌, ◌⊎◌, ℕ, inl, inr, ◌∙◌, ap, sym, subst, refl, arith, length, get_or, set, get_or-set_same, get_or-set_other, length-set, List}
use Rattle.std.proofs.lemmas.Bool.{cases_eq}
use Rattle.controller.specs.declared.replies.Reply.{Reply}
use Rattle.controller.specs.Replies.{IsReply, noted_data}
use Rattle.controller.proofs.replies.Replies.keep.Goals as goal

pub returns-clause-added : goal.returns-clause-added
returns-clause-added c = λ b a s i o has.
    let replies : List Reply = c.args.self.now.replies.items in
    let place : ℕ = c.place_of-place.result in
    let new : Reply = c.fill.new.self in
    let below : place < length replies = omega (arith, c.place_of-place.ensures, c.requires.room.places) in
    let inside : has.0 < length replies = omega (arith, has.1, length-set replies place new) in
    elim (cases_eq has.0 place) [
      | inl at ↦
          let is : IsReply new b a s i o = subst (λ (r : Reply). IsReply r b a s i o) (ap (λ (k : ℕ). get_or (set replies place new) k new) at ∙ get_or-set_same replies place new new below) (has.2 new) in
          inr (
            sym is.noted_before ∙ ap (λ (r : Reply). noted_data r.before) c.fill.ensures.filled,
            sym is.noted_after ∙ ap (λ (r : Reply). noted_data r.after) c.fill.ensures.filled,
            sym is.state_is ∙ (c.fill.ensures.state ∙ c.deref-2.ensures.value),
            sym is.input_is ∙ c.fill.ensures.input,
            sym is.output_is ∙ c.fill.ensures.output,
          )
      | inr other ↦ inl (has.0, inside, λ d. subst (λ (r : Reply). IsReply r b a s i o) (get_or-set_other replies place has.0 new d other) (has.2 d))
    ]
