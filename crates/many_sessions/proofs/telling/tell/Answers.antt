use Rattle.std.proofs.Common.{◌≡◌, ℕ, Bool, List, [], ◌∷◌, ◌++◌, codes, Result, Ok, Err, is_ok, sym, ap, subst, ◌∙◌, append_assoc}
use Rattle.std.specs.Fmt.{decimal}
use Rattle.std.specs.Bool.{OnTrue, OnFalse}
use Rattle.std.specs.Result.{OnOk, OnErr}
use Rattle.std.specs.Io.KnownBytes.{Appends}
use Rattle.sp_outside.specs.Written.{AppendsFront}
use Rattle.session_lines.specs.Shown.{show}
use Rattle.session_lines.specs.Views.{names_of, shown_variables}
use Rattle.many_sessions.specs.declared.turning.Outcome.{Outcome}
use Rattle.many_sessions.specs.Turns.{reply_of}
use Rattle.many_sessions.proofs.telling.tell.Goals as goal

on_true : {T E : Type 0} (P : Type 0) (r : Result T E) (b : Bool) → b ≡ is_ok r → OnOk r P → OnTrue b P
on_true P (Ok x) b e whole = subst (λ (b : Bool). OnTrue b P) (sym e) whole
on_true P (Err x) b e whole = subst (λ (b : Bool). OnTrue b P) (sym e) tt

on_false : {T E : Type 0} (P : Type 0) (r : Result T E) (b : Bool) → b ≡ is_ok r → OnErr r P → OnFalse b P
on_false P (Ok x) b e part = subst (λ (b : Bool). OnFalse b P) (sym e) tt
on_false P (Err x) b e part = subst (λ (b : Bool). OnFalse b P) (sym e) part

pub returns-in-Ended-clause-part : goal.returns-in-Ended-clause-part
returns-in-Ended-clause-part g c =
    let w = c.write_numbered in
    on_false _ w.result c.is_ok.result c.is_ok.ensures.value
    (subst (λ (o : Outcome). OnErr w.result (AppendsFront (g.O.Sink.written c.args.output.now) (g.O.Sink.written w.new.output) (decimal c.args.number ++ (32 ∷ (reply_of (names_of c.args.lines.now) (shown_variables c.args.lines.now) o c.args.values.now ++ 10 ∷ [])))))
    (sym c.in-Ended.is) w.ensures.part)

pub returns-in-Refused-clause-part : goal.returns-in-Refused-clause-part
returns-in-Refused-clause-part g c =
    let w = c.write_numbered-in-Refused in
    on_false _ w.result c.is_ok-in-Refused.result c.is_ok-in-Refused.ensures.value
    (subst (λ (o : Outcome). OnErr w.result (AppendsFront (g.O.Sink.written c.args.output.now) (g.O.Sink.written w.new.output) (decimal c.args.number ++ (32 ∷ (reply_of (names_of c.args.lines.now) (shown_variables c.args.lines.now) o c.args.values.now ++ 10 ∷ [])))))
    (sym c.in-Refused.is) w.ensures.part)

pub returns-in-Broken-clause-whole : goal.returns-in-Broken-clause-whole
returns-in-Broken-clause-whole g c =
    let w = c.write_twice_numbered in
    let line = c.into.ensures in
    let shape = ap (λ (l : List ℕ). decimal c.args.number ++ (32 ∷ l)) (sym (append_assoc (codes "assumption broken #") (decimal c.in-Broken.label.line) (10 ∷ []))) in
    on_true _ w.result c.is_ok-in-Broken.result c.is_ok-in-Broken.ensures.value
    (subst (λ (o : Outcome). OnOk w.result (Appends (g.O.Sink.written c.args.output.now) (g.O.Sink.written w.new.output) (decimal c.args.number ++ (32 ∷ (reply_of (names_of c.args.lines.now) (shown_variables c.args.lines.now) o c.args.values.now ++ 10 ∷ [])))))
    (sym c.in-Broken.is) (subst (λ (l : List ℕ). OnOk w.result (Appends (g.O.Sink.written c.args.output.now) (g.O.Sink.written w.new.output) l)) shape (rw line at w.ensures.whole)))

pub returns-in-Broken-clause-part : goal.returns-in-Broken-clause-part
returns-in-Broken-clause-part g c =
    let w = c.write_twice_numbered in
    let line = c.into.ensures in
    let shape = ap (λ (l : List ℕ). decimal c.args.number ++ (32 ∷ l)) (sym (append_assoc (codes "assumption broken #") (decimal c.in-Broken.label.line) (10 ∷ []))) in
    on_false _ w.result c.is_ok-in-Broken.result c.is_ok-in-Broken.ensures.value
    (subst (λ (o : Outcome). OnErr w.result (AppendsFront (g.O.Sink.written c.args.output.now) (g.O.Sink.written w.new.output) (decimal c.args.number ++ (32 ∷ (reply_of (names_of c.args.lines.now) (shown_variables c.args.lines.now) o c.args.values.now ++ 10 ∷ [])))))
    (sym c.in-Broken.is) (subst (λ (l : List ℕ). OnErr w.result (AppendsFront (g.O.Sink.written c.args.output.now) (g.O.Sink.written w.new.output) l)) shape (rw line at w.ensures.part)))

pub returns-in-Moved-clause-part : goal.returns-in-Moved-clause-part
returns-in-Moved-clause-part g c =
    let line = show (names_of c.args.lines.now) (shown_variables c.args.lines.now) c.args.values.now ++ 10 ∷ [] in
    subst (λ (o : Outcome). OnFalse c.show.result (AppendsFront (g.O.Sink.written c.args.output.now) (g.O.Sink.written c.show.new.output) (decimal c.args.number ++ (32 ∷ (reply_of (names_of c.args.lines.now) (shown_variables c.args.lines.now) o c.args.values.now ++ 10 ∷ [])))))
    (sym c.in-Moved.is)
    (subst (λ (l : List ℕ). OnFalse c.show.result (AppendsFront (g.O.Sink.written c.args.output.now) (g.O.Sink.written c.show.new.output) l))
    (ap (λ (h : List ℕ). h ++ line) c.head_of-count.ensures.text ∙ append_assoc (decimal c.args.number) (32 ∷ []) line) c.show.ensures.part)
