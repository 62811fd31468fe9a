use Rattle.std.proofs.Common.{◌≡◌, ℕ, length, take, sym, ap, subst, ◌∙◌, arith}
use Rattle.std.specs.Io.KnownBytes.{Consumes}
use Rattle.sp_outside.proofs.HowOften.{read_within, read_both}
use Rattle.sp_outside.proofs.Taken.{filled, filled_part}
use Rattle.sp_outside.proofs.input.read_input.Goals as goal

pub loop-bytes-preserved : goal.loop-bytes-preserved
loop-bytes-preserved g c =
    let so_far = c.loop-bytes.invariant in
    let room = c.in_ok-make_room.ensures in
    let fill = c.in_ok-end.ensures in
    let start = c.len-start.result in
    let buf = c.fill_behind.new.buf in
    let begun : start ≡ length c.loop-bytes.bytes.items = omega (arith, c.len-start.ensures, c.loop-bytes.bytes.ok.0) in
    let long : c.make_room.new.bytes.len ≡ length buf = omega (arith, c.fill_behind.auto.buf, c.as_mut_slice.ensures.len) in
    let front : take start buf ≡ c.loop-bytes.bytes.items =
    fill.front ∙ ap (take start) c.as_mut_slice.ensures.value ∙ ap (λ (n : ℕ). take n c.make_room.new.bytes.items) c.len-start.ensures ∙ room.front in
    record {
      within = room.within;
      taken = filled _ _ _ c.loop-bytes.bytes.items buf _ start c.in_ok-end.end c.make_room.new.bytes.len begun fill.within.1 long (λ below. omega (arith, below, c.if-end-len.false, c.len-in-loop-bytes.ensures)) front so_far.taken fill.taken;
      reads = read_within _ _ _ _ _ _ _ _ (omega (arith, begun, long)) (omega (arith, long, c.if-end-len.false, c.len-in-loop-bytes.ensures, fill.within.1)) (read_both _ _ _ _ _ _ _ _ _ _ so_far.reads fill.reads);
      later = omega (arith, so_far.later, fill.cause.later);
    }

pub returns-in_err-make_room-clause-reads : goal.returns-in_err-make_room-clause-reads
returns-in_err-make_room-clause-reads g c =
    let so_far = c.loop-bytes.invariant in read_within _ _ _ _ _ _ _ _ so_far.within (omega arith) so_far.reads

pub returns-in_err-end-clause-reads : goal.returns-in_err-end-clause-reads
returns-in_err-end-clause-reads g c =
    let so_far = c.loop-bytes.invariant in
    let room = c.in_ok-make_room.ensures in
    read_within _ _ _ _ _ _ _ _
    (omega (arith, room.within, c.len-start.ensures, c.fill_behind.auto.buf, c.as_mut_slice.ensures.len)) (omega arith) (read_both _ _ _ _ _ _ _ _ _ _ so_far.reads c.in_err-end.ensures.reads)

pub returns-then-end-len-clause-reads : goal.returns-then-end-len-clause-reads
returns-then-end-len-clause-reads g c =
    let so_far = c.loop-bytes.invariant in
    let room = c.in_ok-make_room.ensures in
    read_within _ _ _ _ _ _ _ _
    (omega (arith, room.within, c.len-start.ensures, c.fill_behind.auto.buf, c.as_mut_slice.ensures.len)) (omega arith) (read_both _ _ _ _ _ _ _ _ _ _ so_far.reads c.in_ok-end.ensures.reads)

pub returns-clause-reads : goal.returns-clause-reads
returns-clause-reads g c = let so_far = c.loop-bytes.invariant in read_within _ _ _ _ _ _ _ _ so_far.within (omega arith) so_far.reads

pub returns-then-end-len-clause-taken : goal.returns-then-end-len-clause-taken
returns-then-end-len-clause-taken g c =
    let so_far = c.loop-bytes.invariant in
    let fill = c.in_ok-end.ensures in
    let buf = c.fill_behind.new.buf in
    let long : c.make_room.new.bytes.len ≡ length buf = omega (arith, c.fill_behind.auto.buf, c.as_mut_slice.ensures.len) in
    let front : take c.len-start.result buf ≡ c.loop-bytes.bytes.items =
    fill.front ∙ ap (take c.len-start.result) c.as_mut_slice.ensures.value ∙ ap (λ (n : ℕ). take n c.make_room.new.bytes.items) c.len-start.ensures ∙ c.in_ok-make_room.ensures.front in
    record {
      taken = subst (Consumes (g.I.Source.left c.args.input.now) (g.I.Source.left c.fill_behind.new.input)) (sym c.truncate.ensures.items)
          (filled_part _ _ _ c.loop-bytes.bytes.items buf _ c.len-start.result c.in_ok-end.end c.make_room.new.bytes.len fill.within.0 fill.within.1 long front so_far.taken fill.taken);
      within = omega (arith, c.truncate.new.self.ok.0, c.truncate.ensures.len, c.if-end-len.true, c.len-in-loop-bytes.ensures, c.in_ok-make_room.ensures.within);
      whole = λ below. fill.at_end (omega (arith, c.if-end-len.true, c.len-in-loop-bytes.ensures, long));
    }
