use Rattle.std.proofs.Common.{◌≡◌, ℕ, List, [], ◌++◌, ◌+◌, ◌-◌, length, take, drop, Result, Ok, Err, ap, sym, refl, ◌∙◌, arith, length-take, length-drop}
use Rattle.std.proofs.lemmas.List.{append-nil, take_at}
use Rattle.std.specs.Result.{OnErr}
use Rattle.session_lines.specs.Pieces.{reader_pending}
use Rattle.session_lines.proofs.Slices.{grown, same, kept}
use Rattle.session_lines.proofs.reader.Reader.read_more.Goals as goal

on_err : {T E P : Type 0} (r : Result T E) → P → OnErr r P
on_err (Ok x) p = tt
on_err (Err e) p = p

pub returns-in_err-count-clause-none : goal.returns-in_err-count-clause-none
returns-in_err-count-clause-none g c =
    let r = c.move_to_front.new.self in
    let new = c.read_behind.new.buffer in
    let filled : take r.buffer.len (new ++ drop (length new) r.buffer.items) ≡ new = take_at new (drop (length new) r.buffer.items) r.buffer.len (omega (arith, c.read_behind.auto.buffer, c.deref_mut.ensures.len)) in
    on_err c.from_residual.result (record {
      got = [];
      count = refl;
      taken_from = kept _ _ c.in_err-count.ensures.none;
      behind =
          ap (λ (l : List ℕ). take (r.end - r.start) (drop r.start l)) filled
          ∙ same r.buffer.items new r.start r.end c.move_to_front.ensures.front (c.in_err-count.ensures.front ∙ ap (take r.end) c.deref_mut.ensures.value)
          ∙ c.move_to_front.ensures.keeps
          ∙ sym (append-nil (reader_pending c.args.self.now));
    })

pub returns-clause-grows : goal.returns-clause-grows
returns-clause-grows g c =
    let r = c.move_to_front.new.self in
    let new = c.read_behind.new.buffer in
    let n = c.in_ok-count.count in
    let filled : take r.buffer.len (new ++ drop (length new) r.buffer.items) ≡ new = take_at new (drop (length new) r.buffer.items) r.buffer.len (omega (arith, c.read_behind.auto.buffer, c.deref_mut.ensures.len)) in
    record {
      got = take n (drop r.end new);
      count = omega (arith, length-take n (drop r.end new), length-drop r.end new, c.in_ok-count.ensures.within);
      taken_from = c.in_ok-count.ensures.moved.0;
      behind =
          ap (λ (l : List ℕ). take ((r.end + n) - r.start) (drop r.start l)) filled
          ∙ grown r.buffer.items new r.start r.end n c.move_to_front.ensures.front (c.in_ok-count.ensures.front ∙ ap (take r.end) c.deref_mut.ensures.value)
          ∙ ap (λ (l : List ℕ). l ++ take n (drop r.end new)) c.move_to_front.ensures.keeps;
    }
