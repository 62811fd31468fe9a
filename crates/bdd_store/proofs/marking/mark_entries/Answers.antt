use Rattle.std.proofs.Common.{◌≡◌, ◌+◌, ◌<◌, ◌≤◌, take, get_or, ◌++◌, ◌∷◌, [], suc, length, subst, sym, ap, arith}
use Rattle.std.specs.List.{Contains}
use Rattle.std.proofs.Math.Seq.{take-suc}
use Rattle.std.proofs.lemmas.List.{take_all}
use Rattle.std.proofs.lemmas.List.Elements.{Contains-get_or}
use Rattle.node_table.specs.Table.{Table, IsLive}
use Rattle.bdd_store.specs.Kept.{MarksAll}
use Rattle.bdd_store.proofs.Reclaiming.{marks_entry}
use Rattle.bdd_store.proofs.marking.mark_entries.Goals as goal

pub mark-requires : goal.mark-requires
mark-requires c =
    let below : c.loop-n.n-index < length c.args.entries.now = omega arith in
    record {
      live = subst (λ (t : Table). IsLive t (get_or c.args.entries.now c.loop-n.n-index 0)) (sym c.loop-n.invariant.marks.same)
          (c.requires.live (get_or c.args.entries.now c.loop-n.n-index 0) (Contains-get_or c.args.entries.now c.loop-n.n-index 0 below));
    }

pub loop-n-preserved : goal.loop-n-preserved
loop-n-preserved c =
    let i = c.loop-n.n-index in
    let below : i < length c.args.entries.now = omega arith in
    let next : suc i ≡ i + 1 = omega arith in
    record {
      marks = marks_entry c.args.nodes.now c.loop-n.nodes c.mark.new.self (take i c.args.entries.now) (take (i + 1) c.args.entries.now) (get_or c.args.entries.now i 0) (subst (λ k. take k c.args.entries.now ≡ take i c.args.entries.now ++ get_or c.args.entries.now i 0 ∷ []) next (take-suc c.args.entries.now i 0 below)) c.loop-n.invariant.marks c.mark.ensures.marks;
      sound = c.mark.ensures.sound;
    }

pub returns-clause-marks : goal.returns-clause-marks
returns-clause-marks c =
    let past : length c.args.entries.now ≤ c.loop-n.n-index = omega arith in
    subst (λ xs. MarksAll c.args.nodes.now c.loop-n.nodes (λ n. Contains xs n)) (take_all c.loop-n.n-index c.args.entries.now past) c.loop-n.invariant.marks
