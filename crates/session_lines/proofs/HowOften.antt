-- How often an input is read for its lines, and how much is taken.
use Rattle.std.proofs.Common.{◌≡◌, ℕ, ◌+◌, ◌-◌, ◌≤◌, Bool, true, false, List, ◌++◌, length, drop, Option, Some, None, refl, sym, ap, subst, arith, length-append, length-drop, length-take}
use Rattle.std.proofs.KnownBytes.{Consumes-trans}
use Rattle.sp_outside.specs.Causes.{one_more}
use Rattle.sp_outside.specs.Parts.{ReadsUpTo}
use Rattle.sp_outside.proofs.HowOften.{read_within}
use Rattle.session_lines.specs.declared.reader.Taken.{Taken}
use Rattle.session_lines.specs.declared.reader.Taken.TheVariants as taken
use Rattle.session_lines.specs.declared.reader.Reader.{Reader}
use Rattle.session_lines.specs.declared.lines.Lines.{Lines}
use Rattle.session_lines.specs.Pieces.{reader_pending}
use Rattle.session_lines.specs.Views.{pending_of}
use Rattle.session_lines.specs.HowOften.{end_reads, idle_reads, ReadsLines, ReadsForLines, ReadsOneMore}
use Rattle.session_lines.specs.Taking.{Takes}

-- ---- one line

-- each read took some bytes, but for the last, which found the end or failed
pub spent_at_end : (ended : Bool) (what : Taken) (got : List ℕ) (r s t : ℕ) → ended ≡ true → s ≤ r + length got → t ≡ one_more s → t ≤ r + (length got + idle_reads ended what)
spent_at_end true what got r s t is each once = let one : idle_reads true what ≡ 1 = refl in omega (arith, each, once, one)
spent_at_end false what got r s t is each once = absurd (cc)

pub spent_at_fault : (ended : Bool) (got more : List ℕ) (r s t : ℕ) → s ≤ r + length got → t ≡ one_more s → t ≤ r + (length (got ++ more) + idle_reads ended taken.Failed)
spent_at_fault true got more r s t each once = let e = length-append got more in let one : idle_reads true taken.Failed ≡ 1 = refl in omega (arith, each, once, e, one)
spent_at_fault false got more r s t each once = let e = length-append got more in let one : idle_reads false taken.Failed ≡ 1 = refl in omega (arith, each, once, e, one)

-- a line and its line feed were handed out, or nothing was
pub line_taken : (before got all after : List ℕ) (at : ℕ) → all ≡ before ++ got → after ≡ drop (at + 1) all → at ≤ 65536 → length before + length got ≤ 65537 + length after
line_taken before got all after at is rest short =
    let whole = ap length is in
    let cut = ap length rest in
    let e = length-append before got in
    let d = length-drop (at + 1) all in
    omega (arith, whole, cut, e, d, short)

pub none_taken : (before got after : List ℕ) → after ≡ before ++ got → length before + length got ≤ 65537 + length after
none_taken before got after is =
    let whole = ap length is in
    let e = length-append before got in
    omega (arith, whole, e)

-- all that was there was handed out as a line without a line feed, or nothing was there
pub rest_taken : (before got after : List ℕ) → length (before ++ got) ≤ 65536 → length before + length got ≤ 65537 + length after
rest_taken before got after short = let e = length-append before got in omega (arith, e, short)

-- ---- line after line

-- there is never more than a line and its line feed
pub pending_within : (l : Lines) → length (pending_of l) ≤ 65537
pending_within l =
    let r = l.reader in
    let e = length-take (r.end - r.start) (drop r.start r.buffer.items) in
    let end = r.within in
    omega (arith, e, end)

idle_at_most : (ended : Bool) (what : Taken) → idle_reads ended what ≤ 1
idle_at_most true what = omega arith
idle_at_most false taken.Line = omega arith
idle_at_most false taken.TooLong = omega arith
idle_at_most false taken.Finish = omega arith
idle_at_most false taken.Failed = omega arith

idle_line : (ended : Bool) → idle_reads ended taken.Line ≡ end_reads ended
idle_line true = refl
idle_line false = refl

end_at_most : (ended : Bool) → end_reads ended ≤ 1
end_at_most true = omega arith
end_at_most false = omega arith

-- for these lines, whatever is there
pub for_lines : (lines : ℕ) (ended : Bool) (pending : List ℕ) (a b : Option (List ℕ)) (r s : ℕ) → length pending ≤ 65537 → ReadsLines lines ended pending a b r s → ReadsForLines lines a b r s
for_lines lines ended pending a b r s short so = let e = end_at_most ended in read_within _ _ _ _ a b r s (omega (arith, short)) e so

-- for fewer lines and for more
pub for_more_lines : (m n : ℕ) (a b : Option (List ℕ)) (r s : ℕ) → m ≤ n → ReadsForLines m a b r s → ReadsForLines n a b r s
for_more_lines m n a b r s few so = read_within _ _ _ _ a b r s (omega (arith, few)) (omega arith) so

-- a line was asked for, where the input hasn't given its end
module _ (ended : Bool) (a b c : Option (List ℕ)) (r s t lines : ℕ) (before line after : List ℕ) (what : Taken) (so : ReadsLines lines false before a b r s) (takes : Takes b c s t ended before line after what) where
  line_more : what ≡ taken.Line → ReadsLines (lines + 1) ended after a c r t
  line_more is =
      let e = length-append so.given takes.got in
      let idle = ap (idle_reads ended) is in
      let at_end = idle_line ended in
      let before_end : end_reads false ≡ 0 = refl in
      record {
        given = so.given ++ takes.got;
        taken_from = Consumes-trans a b c so.given takes.got so.taken_from takes.taken_from;
        within = omega (arith, e, so.within, takes.within);
        each = omega (arith, e, so.each, takes.each, idle, at_end, before_end);
      }

  last_asked : length after ≤ 65537 → ReadsForLines (lines + 1) a c r t
  last_asked short =
      let e = length-append so.given takes.got in
      let idle = idle_at_most ended what in
      let before_end : end_reads false ≡ 0 = refl in
      record {
        given = so.given ++ takes.got;
        taken_from = Consumes-trans a b c so.given takes.got so.taken_from takes.taken_from;
        within = omega (arith, e, so.within, takes.within, short);
        each = omega (arith, e, so.each, takes.each, idle, before_end);
      }

-- or where it may have, and then isn't read: the turn may be the last
pub last_read : (was ended : Bool) (a b c : Option (List ℕ)) (r s t lines : ℕ) (before line after : List ℕ) (what : Taken) → length before ≤ 65537 → length after ≤ 65537 → ReadsLines lines was before a b r s →
    (was ≡ false → Takes b c s t ended before line after what) → (was ≡ true → (what ≡ taken.Finish) × (c ≡ b) × (t ≡ s)) → ReadsForLines (lines + 1) a c r t
last_read false ended a b c r s t lines before line after what short_before short_after so takes over = last_asked ended a b c r s t lines before line after what so (takes refl) short_after
last_read true ended a b c r s t lines before line after what short_before short_after so takes over =
    let same = over refl in
    subst (λ (left : Option (List ℕ)). ReadsForLines (lines + 1) a left r t) (sym same.1)
    (subst (λ (reads : ℕ). ReadsForLines (lines + 1) a b r reads) (sym same.2) (for_more_lines lines (lines + 1) a b r s (omega arith) (for_lines lines true before a b r s short_before so)))

-- it goes on only where there is a line
line_read : (was ended : Bool) (a b c : Option (List ℕ)) (r s t lines : ℕ) (before line after : List ℕ) (what : Taken) → ReadsLines lines was before a b r s → (was ≡ false → Takes b c s t ended before line after what) →
    (was ≡ true → (what ≡ taken.Finish) × (c ≡ b) × (t ≡ s)) → what ≡ taken.Line → ReadsLines (lines + 1) ended after a c r t
line_read false ended a b c r s t lines before line after what so takes over is = line_more ended a b c r s t lines before line after what so (takes refl) is
line_read true ended a b c r s t lines before line after what so takes over is = absurd (let finish = (over refl).0 in cc)

pub one_more_read : {E : Type 0} (was ended : Bool) (a b c : Option (List ℕ)) (r s t lines : ℕ) (before line after : List ℕ) (what : Taken) → length before ≤ 65537 → length after ≤ 65537 → ReadsLines lines was before a b r s →
    (was ≡ false → Takes b c s t ended before line after what) → (was ≡ true → (what ≡ taken.Finish) × (c ≡ b) × (t ≡ s)) → what ≡ taken.Line → (end : Option E) → ReadsOneMore lines ended after a c r t end
one_more_read was ended a b c r s t lines before line after what short_before short_after so takes over is None = line_read was ended a b c r s t lines before line after what so takes over is
one_more_read was ended a b c r s t lines before line after what short_before short_after so takes over is (Some end) = last_read was ended a b c r s t lines before line after what short_before short_after so takes over
