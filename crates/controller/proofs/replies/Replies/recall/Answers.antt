use Rattle.std.proofs.Common.{◌≡◌, ◌<◌, ℕ, ◌∙◌, ap, sym, subst, refl, arith, length, get_or, List}
use Rattle.std.proofs.lemmas.List.{get_or_default}
use Rattle.controller.specs.declared.replies.Reply.{Reply}
use Rattle.controller.specs.Replies.{IsReply, noted_data}
use Rattle.controller.proofs.replies.Replies.recall.Goals as goal

pub returns-clause-kept : goal.returns-clause-kept
returns-clause-kept c =
    let replies : List Reply = c.args.self.now.replies.items in
    let place : ℕ = c.place_of.result in
    let reply : Reply = c.index-reply.result.now in
    let below : place < length replies = omega (arith, c.place_of.ensures, c.requires.room.places) in
    let is : IsReply reply (noted_data c.args.before) (noted_data reply.after) c.args.state.now c.args.input.now c.copy_from_slice.new.self = record {
      filled = c.if-not-is_of.ensures.filled;
      noted_before = ap noted_data c.if-not-is_of.ensures.before;
      noted_after = refl;
      state_is = c.if-not-is_of.ensures.state;
      input_is = c.if-not-is_of.ensures.input;
      output_is = sym (c.copy_from_slice.ensures.after ∙ c.deref.ensures.value);
    } in
    (place, below, λ d. subst (λ (r : Reply). IsReply r (noted_data c.args.before) (noted_data reply.after) c.args.state.now c.args.input.now c.copy_from_slice.new.self) (c.index-reply.ensures ∙ get_or_default replies place reply d below) is)
