use Rattle.std.proofs.Common.{◌≡◌, ℕ, ◌+◌, ◌-◌, ◌<◌, ◌≤◌, Bool, true, false, List, [], ◌∷◌, ◌++◌, length, drop, Some, slice_index, ap, sym, subst, ◌∙◌, arith, length-take, length-drop, length-append, append_assoc}
use Rattle.std.proofs.KnownBytes.{Consumes-nil}
use Rattle.std.proofs.lemmas.List.{nil_from_length, append-nil}
use Rattle.session_lines.specs.InputLines.{input_lines}
use Rattle.session_lines.specs.Taking.{GivesLine}
use Rattle.session_lines.specs.declared.reader.Taken.TheVariants as taken
use Rattle.session_lines.specs.Pieces.{reader_pending, reader_line, HasNoFeed, HasNoFeedBelow}
use Rattle.session_lines.specs.declared.reader.Reader.{Reader}
use Rattle.session_lines.proofs.Feeds.{first_line, open_lines, no_line, too_long, consumes_more, consumes_none, still_none, finished}
use Rattle.session_lines.proofs.HowOften.{spent_at_end, spent_at_fault, line_taken, none_taken, rest_taken}
use Rattle.session_lines.proofs.reader.Reader.take_line.Goals as goal

-- how much is there
count : (r : Reader) → length (reader_pending r) ≡ r.end - r.start
count r = omega (arith, length-take (r.end - r.start) (drop r.start r.buffer.items), length-drop r.start r.buffer.items, r.buffer.ok.0, r.room, r.within, r.ordered)

pub loop-at-init : goal.loop-at-init
loop-at-init g c =
    record {
      came = ([], Consumes-nil _, sym (append-nil _), omega arith);
      within = omega arith;
      none_before = λ k below. absurd (omega (arith, below));
      open_still = c.requires;
      later = omega arith;
    }

pub returns-in-Some-clause-takes : goal.returns-in-Some-clause-takes
returns-in-Some-clause-takes g c =
    let p = reader_pending c.loop-at.self in
    let came = c.loop-at.invariant.came in
    let at = c.in-Some.at in
    let found = c.in-Some.ensures in
    let is = c.pending.ensures in
    let rest = c.hand_out.ensures.rest in
    let plain : HasNoFeedBelow at p = subst (λ (l : List ℕ). HasNoFeedBelow at l) is found.before in
    let within : at < length p = omega (arith, found.within, ap length is) in
    let feed : slice_index p at ≡ 10 = ap (λ (l : List ℕ). slice_index l at) (sym is) ∙ found.found in
    let short : at ≤ 65536 = omega (arith, within, count c.loop-at.self, c.loop-at.self.within) in
    let new = c.hand_out.new.self in
    let open_now : new.ended ≡ false = c.hand_out.ensures.end ∙ c.loop-at.invariant.open_still in
    let gives : GivesLine taken.Line false (reader_pending c.args.self.now) came.0 (reader_line new) (reader_pending new) = λ at_end later.
    ap (input_lines at_end) (sym (append_assoc (reader_pending c.args.self.now) came.0 later) ∙ ap (λ (l : List ℕ). l ++ later) (sym came.2))
    ∙ first_line at_end p later at plain within feed short
    ∙ ap (λ (l : List ℕ). Some l ∷ input_lines at_end (drop (at + 1) p ++ later)) (sym c.hand_out.ensures.line)
    ∙ ap (λ (l : List ℕ). Some (reader_line new) ∷ input_lines at_end (l ++ later)) (sym rest) in
    record {
      got = came.0;
      taken_from = came.1;
      at_end = λ is. absurd (cc);
      gives = subst (λ (e : Bool). GivesLine taken.Line e (reader_pending c.args.self.now) came.0 (reader_line new) (reader_pending new)) (sym open_now) gives;
      each = omega (arith, came.3);
      within = line_taken (reader_pending c.args.self.now) came.0 p (reader_pending new) at came.2 rest short;
    }

pub returns-then-looked-gt-MOST_BYTES-clause-takes :
    goal.returns-then-looked-gt-MOST_BYTES-clause-takes
returns-then-looked-gt-MOST_BYTES-clause-takes g c =
    let p = reader_pending c.loop-at.self in
    let came = c.loop-at.invariant.came in
    let plain : HasNoFeed p = subst HasNoFeed c.pending.ensures c.in_default.ensures.none in
    let long : 65536 < length p = omega (arith, count c.loop-at.self, c.if-looked-gt-MOST_BYTES.true) in
    record {
      got = came.0;
      taken_from = came.1;
      at_end = let open_still = c.loop-at.invariant.open_still in λ is. absurd (cc);
      gives = (came.2, λ at_end later. too_long at_end p later plain long);
      each = omega (arith, came.3);
      within = none_taken (reader_pending c.args.self.now) came.0 p came.2;
    }

pub returns-in-Ok-eq0-clause-takes : goal.returns-in-Ok-eq0-clause-takes
returns-in-Ok-eq0-clause-takes g c =
    let old = reader_pending c.args.self.now in
    let p = reader_pending c.loop-at.self in
    let came = c.loop-at.invariant.came in
    let more = c.in-Ok-eq0.ensures.grows in
    let none : more.got ≡ [] = nil_from_length more.got (more.count ∙ c.in-Ok-eq0.field-0-test) in
    let all : reader_pending c.read_more.new.self ≡ old ++ came.0 = more.behind ∙ ap (λ (l : List ℕ). p ++ l) none ∙ append-nil p ∙ came.2 in
    let plain : HasNoFeed (old ++ came.0) = subst HasNoFeed (c.pending.ensures ∙ came.2) c.in_default.ensures.none in
    let short : length (old ++ came.0) ≤ 65536 = omega (arith, count c.loop-at.self, ap length came.2, c.if-looked-gt-MOST_BYTES.false) in
    let finish = c.finish.ensures in
    let new = c.finish.new.self in
    let gives : GivesLine c.finish.result true old came.0 (reader_line new) (reader_pending new) =
    finished c.finish.result old came.0 (reader_line new) (reader_pending new)
    (λ e. ((finish.last e).0 ∙ all, subst (λ (l : List ℕ). 0 < length l) all (finish.last e).1))
    finish.finish
    (λ e. sym all ∙ finish.none e)
    finish.rest plain short in
    record {
      got = came.0;
      taken_from = consumes_none _ _ _ came.0 more.got came.1 more.taken_from none;
      at_end = λ is. c.in-Ok-eq0.ensures.at_end c.in-Ok-eq0.field-0-test;
      gives = subst (λ (e : Bool). GivesLine c.finish.result e old came.0 (reader_line new) (reader_pending new)) (sym finish.end) gives;
      each = spent_at_end new.ended c.finish.result came.0 _ _ _ finish.end came.3 c.in-Ok-eq0.ensures.once;
      within = rest_taken old came.0 (reader_pending new) short;
    }

pub loop-at-preserved : goal.loop-at-preserved
loop-at-preserved g c =
    let old = reader_pending c.args.self.now in
    let p = reader_pending c.loop-at.self in
    let came = c.loop-at.invariant.came in
    let more = c.in-Ok.ensures.grows in
    let all : reader_pending c.read_more.new.self ≡ old ++ (came.0 ++ more.got) = more.behind ∙ ap (λ (l : List ℕ). l ++ more.got) came.2 ∙ append_assoc old came.0 more.got in
    let plain : HasNoFeed p = subst HasNoFeed c.pending.ensures c.in_default.ensures.none in
    let size = count c.loop-at.self in
    record {
      came = (came.0 ++ more.got, consumes_more _ _ _ came.0 more.got came.1 more.taken_from, all, omega (arith, came.3, c.in-Ok.ensures.once, more.count, length-append came.0 more.got));
      within = omega (arith, size, ap length more.behind, length-append p more.got);
      none_before = λ k below. let here : k < length p = omega (arith, size, below) in λ is. still_none p more.got plain k here (ap (λ (l : List ℕ). slice_index l k) (sym more.behind) ∙ is);
      open_still = c.in-Ok.ensures.end ∙ c.loop-at.invariant.open_still;
      later = omega (arith, c.loop-at.invariant.later, c.in-Ok.ensures.cause.later);
    }

pub returns-in-Err-clause-takes : goal.returns-in-Err-clause-takes
returns-in-Err-clause-takes g c =
    let old = reader_pending c.args.self.now in
    let p = reader_pending c.loop-at.self in
    let came = c.loop-at.invariant.came in
    let more = c.in-Err.ensures.none in
    let none : more.got ≡ [] = nil_from_length more.got more.count in
    let all : reader_pending c.read_more.new.self ≡ old ++ (came.0 ++ more.got) = more.behind ∙ ap (λ (l : List ℕ). l ++ more.got) came.2 ∙ append_assoc old came.0 more.got in
    let same : reader_pending c.read_more.new.self ≡ p = more.behind ∙ ap (λ (l : List ℕ). p ++ l) none ∙ append-nil p in
    let plain : HasNoFeed p = subst HasNoFeed c.pending.ensures c.in_default.ensures.none in
    let short : length p ≤ 65536 = omega (arith, count c.loop-at.self, c.if-looked-gt-MOST_BYTES.false) in
    record {
      got = came.0 ++ more.got;
      taken_from = consumes_more _ _ _ came.0 more.got came.1 more.taken_from;
      at_end = let open_now = c.in-Err.ensures.end ∙ c.loop-at.invariant.open_still in λ is. absurd (cc);
      each = spent_at_fault c.read_more.new.self.ended came.0 more.got _ _ _ came.3 c.in-Err.ensures.once;
      within = none_taken old (came.0 ++ more.got) (reader_pending c.read_more.new.self) all;
      gives = (all, ap (input_lines false) same ∙ open_lines false p plain ∙ no_line p short);
    }
