use Rattle.std.proofs.Common.{◌<◌, ◌++◌, ℕ, List, get_or, subst, sym}
use Rattle.std.specs.List.{Contains}
use Rattle.bdd_cache.specs.Kept.{HasLiveNodes}
use Rattle.bdd_store.specs.State.{IsEdge}
use Rattle.bdd_store.specs.Kept.{MarksAll, MakesRoom}
use Rattle.bdd_store.specs.contracts.store.Store.{the_view}
use Rattle.bdd_store.proofs.Whole.{store_of_whole}
use Rattle.bdd_store.proofs.Reclaiming.{still_live, marks_starts, room_made}
use Rattle.bdd_store.proofs.store.Store.make_room.Goals as goal

pub mark_entries-requires-2-clause-live : goal.mark_entries-requires-2-clause-live
mark_entries-requires-2-clause-live c n there =
    let live = subst (λ s. IsEdge s n) (sym c.self.view_is) (c.requires n there) in
    still_live c.mark_kept.new.nodes c.mark_entries.new.nodes _ c.mark_entries.ensures.marks n (still_live c.self.inside.nodes c.mark_kept.new.nodes _ c.mark_kept.ensures.marks n live)

pub invariant_of-self : goal.invariant_of-self
invariant_of-self c =
    let s = the_view c.self.inside in
    let live = λ (n : ℕ) (there : Contains c.args.more.now n). subst (λ s. IsEdge s n) (sym c.self.view_is) (c.requires n there) in
    let of_roots = subst (λ (xs : List ℕ). MarksAll c.self.inside.nodes c.mark_kept.new.nodes (λ r. 0 < get_or xs r 0)) c.deref.ensures.value c.mark_kept.ensures.marks in
    let of_stack = subst (λ (xs : List ℕ). MarksAll c.mark_kept.new.nodes c.mark_entries.new.nodes (λ r. Contains xs r)) c.deref-2.ensures.value c.mark_entries.ensures.marks in
    let marks = marks_starts s c.self.inside.roots c.self.invariant c.args.more.now live c.mark_kept.new.nodes c.mark_entries.new.nodes c.mark_entries-2.new.nodes of_roots of_stack c.mark_entries-2.ensures.marks in
    (room_made s c.self.inside.roots c.self.invariant c.args.more.now live c.mark_entries-2.new.nodes c.sweep.new.self marks c.mark_entries-2.ensures.sound c.sweep.ensures.sweeps c.sweep.ensures.sound c.keep_only.new.self
    (λ a kept. let h = (c.keep_only.ensures a).0 kept in (h.0, subst (λ live. HasLiveNodes live a) c.live.ensures h.1))
    (λ a h. (c.keep_only.ensures a).1 (h.0, subst (λ live. HasLiveNodes live a) (sym c.live.ensures) h.1))).0

pub returns-clause-room : goal.returns-clause-room
returns-clause-room c =
    let s = the_view c.self.inside in
    let live = λ (n : ℕ) (there : Contains c.args.more.now n). subst (λ s. IsEdge s n) (sym c.self.view_is) (c.requires n there) in
    let of_roots = subst (λ (xs : List ℕ). MarksAll c.self.inside.nodes c.mark_kept.new.nodes (λ r. 0 < get_or xs r 0)) c.deref.ensures.value c.mark_kept.ensures.marks in
    let of_stack = subst (λ (xs : List ℕ). MarksAll c.mark_kept.new.nodes c.mark_entries.new.nodes (λ r. Contains xs r)) c.deref-2.ensures.value c.mark_entries.ensures.marks in
    let marks = marks_starts s c.self.inside.roots c.self.invariant c.args.more.now live c.mark_kept.new.nodes c.mark_entries.new.nodes c.mark_entries-2.new.nodes of_roots of_stack c.mark_entries-2.ensures.marks in
    let made = room_made s c.self.inside.roots c.self.invariant c.args.more.now live c.mark_entries-2.new.nodes c.sweep.new.self marks c.mark_entries-2.ensures.sound c.sweep.ensures.sweeps c.sweep.ensures.sound c.keep_only.new.self
    (λ a kept. let h = (c.keep_only.ensures a).0 kept in (h.0, subst (λ live. HasLiveNodes live a) c.live.ensures h.1))
    (λ a h. (c.keep_only.ensures a).1 (h.0, subst (λ live. HasLiveNodes live a) (sym c.live.ensures) h.1)) in
    subst (λ s. MakesRoom s (record (the_view c.self.inside) { table = c.sweep.new.self; answers = c.keep_only.new.self }) (s.stack ++ c.args.more.now)) c.self.view_is made.1

pub returns-clause-sound : goal.returns-clause-sound
returns-clause-sound c = store_of_whole _ c.self.inside.roots (invariant_of-self c)
