use Rattle.std.proofs.Common.{◌≡◌, ◌≢◌, ◌<◌, ◌+◌, ◌++◌, [], ◌∷◌, List, ℕ, length, take, drop, arith, ap, sym, refl, ◌∙◌, append-nil}
use Rattle.std.proofs.lemmas.Bool.Decides.{Decides-eqb, not_from_Decides}
use Rattle.std.proofs.lemmas.List.{take-append-drop, length-take-le}
use Rattle.text_driver.proofs.Budgets.{smaller}
use Rattle.text_driver.proofs.Written.{put-same, put-more, put-none}
use Rattle.text_driver.proofs.Progress.{standing-start, bound-lines, progress-line, within, drives-on, drives-end, ends-wrong, ends-long, ends-last, ends-cut, stops-in, stops-behind}
use Rattle.text_driver.proofs.driving.take_lines.Goals as goal

empty_by : (xs : List ℕ) → length xs ≡ 0 → xs ≡ []
empty_by [] e = refl
empty_by (x ∷ xs) e = cc

pub loop-judge-init : goal.loop-judge-init
loop-judge-init g c = rw c.requires.start (standing-start _ _ _ _ _ c.requires.ready)

pub overflow_add-line : goal.overflow_add-line
overflow_add-line g c = omega (arith, bound-lines c.loop-judge.invariant.progress)

pub take-requires-clause-ready : goal.take-requires-clause-ready
take-requires-clause-ready g c =
    let t = c.in-Whole.ensures.found in
    let less = smaller c.loop-judge.source c.next_line-found.new.self t.0 t.2.0 t.2.3 in
    (c.loop-judge.line, omega (arith, less, bound-lines c.loop-judge.invariant.progress), c.loop-judge.invariant.can)

pub loop-judge-smaller : goal.loop-judge-smaller
loop-judge-smaller g c =
    let t = c.in-Whole.ensures.found in
    smaller c.loop-judge.source c.next_line-found.new.self t.0 t.2.0 t.2.3

pub loop-judge-preserved : goal.loop-judge-preserved
loop-judge-preserved g c =
    let h = c.loop-judge.invariant in
    let t = c.in-Whole.ensures.found in
    let a = rw (c.line.ensures, c.in-Good.is) at c.in-Ok.ensures.taken in
    let mid = c.next_line-found.new.output in
    record {
      answers = h.answers ++ a.0;
      progress = progress-line _ c.next_line-found.new.self _ t.0 a.0 h.progress t.1 t.2.0 t.2.1 t.2.2 t.2.3 a.1;
      puts = put-more _ mid c.take.new.out h.answers a.0 (put-same _ _ mid h.answers h.puts c.in-Whole.ensures.same)
          a.2;
      can = (rw c.in-Good.is at c.in-Ok.ensures.ready) c.loop-judge.line h.can;
    }

pub returns-in-Wrong : goal.returns-in-Wrong
returns-in-Wrong g c =
    let h = c.loop-judge.invariant in
    let t = c.in-Whole.ensures.found in
    let line = c.next_line-found.new.self.line in
    let a = rw (c.line.ensures, c.in-Wrong.is) at c.in-Ok.ensures.taken in
    let mid = c.next_line-found.new.output in
    let put = put-none _ mid c.take.new.out h.answers (put-same _ _ mid h.answers h.puts c.in-Whole.ensures.same) a.2 in
    record {
      name = put.name;
      start = put.start;
      lines = drives-on t.0 h.answers h.progress t.1 put.text refl (λ ys. ends-wrong g.J.Judge.wrong
          (c.loop-judge.line + 1) c.in-Wrong.fault c.loop-judge.judge c.take.new.self
          (c.loop-judge.source.waiting ++ t.0) line c.next_line-found.new.self.waiting ys t.2.0 t.2.1 t.2.2 a.1);
      written = tt;
      limit = within _ t.0 1073741824 h.progress t.1 (omega (arith, t.2.3));
      near = stops-behind _ c.next_line-found.new.self t.0 h.progress t.1 t.2.0 t.2.1 t.2.2 t.2.4;
    }

pub returns-in-Memory : goal.returns-in-Memory
returns-in-Memory g c =
    let h = c.loop-judge.invariant in
    let t = c.in-Whole.ensures.found in
    let a = rw (c.line.ensures, c.in-Memory.is) at c.in-Ok.ensures.taken in
    let mid = c.next_line-found.new.output in
    let put = put-none _ mid c.take.new.out h.answers (put-same _ _ mid h.answers h.puts c.in-Whole.ensures.same) a.2 in
    record {
      name = put.name;
      start = put.start;
      lines = drives-on t.0 h.answers h.progress t.1 put.text refl (λ ys. tt);
      written = tt;
      limit = within _ t.0 1073741824 h.progress t.1 (omega (arith, t.2.3));
      near = tt;
    }

pub returns-in-Long : goal.returns-in-Long
returns-in-Long g c =
    let h = c.loop-judge.invariant in
    let t = c.in-Long.ensures.found in
    let w = c.next_line-found.new.self.waiting in
    let long : 640 < length (take 641 w) = omega (arith, length-take-le 641 w t.2.2) in
    let put = put-same _ _ c.next_line-found.new.output h.answers h.puts c.in-Long.ensures.same in
    record {
      name = put.name;
      start = put.start;
      lines = drives-on t.0 h.answers h.progress t.1 put.text refl (λ ys. ends-long g.J.Judge.wrong
          (c.loop-judge.line + 1) c.loop-judge.judge (c.loop-judge.source.waiting ++ t.0) (take 641 w) (drop 641 w) ys
          (sym t.2.0.0 ∙ sym (take-append-drop 641 w)) t.2.1 long);
      written = tt;
      limit = within _ t.0 1073741824 h.progress t.1 (omega (arith, t.2.0.1));
      near = stops-in _ t.0 h.progress t.1 (omega (arith, ap length t.2.0.0, t.2.3));
    }

pub returns-then-is_empty : goal.returns-then-is_empty
returns-then-is_empty g c =
    let h = c.loop-judge.invariant in
    let t = c.in-Last.ensures.found in
    let line = c.next_line-found.new.self.line in
    let test = rw c.line-in-Last.ensures at c.if-is_empty.ensures in
    let empty = empty_by line ((Decides-eqb (length line) 0).0 (sym test)) in
    let put = put-same _ _ c.next_line-found.new.output h.answers h.puts c.in-Last.ensures.same in
    record {
      name = put.name;
      start = put.start;
      lines = drives-end t.0 h.answers h.progress t.1 t.2.2 put.text refl
          (ends-last g.J.Judge.wrong (c.loop-judge.line + 1) c.loop-judge.judge
          (c.loop-judge.source.waiting ++ t.0) line t.2.0 empty);
      written = tt;
      limit = within _ t.0 1073741824 h.progress t.1 (omega (arith, t.2.5));
      near = stops-in _ t.0 h.progress t.1 (omega (arith, ap length t.2.0, t.2.4));
    }

pub returns-in-Last : goal.returns-in-Last
returns-in-Last g c =
    let h = c.loop-judge.invariant in
    let t = c.in-Last.ensures.found in
    let line = c.next_line-found.new.self.line in
    let test = rw c.line-in-Last.ensures at c.if-is_empty.ensures in
    let not_empty : length line ≢ 0 = not_from_Decides _ (Decides-eqb (length line) 0) (sym test) in
    let put = put-same _ _ c.next_line-found.new.output h.answers h.puts c.in-Last.ensures.same in
    record {
      name = put.name;
      start = put.start;
      lines = drives-end t.0 h.answers h.progress t.1 t.2.2 put.text refl
          (ends-cut g.J.Judge.wrong (c.loop-judge.line + 1) c.loop-judge.judge
          (c.loop-judge.source.waiting ++ t.0) line t.2.0 t.2.3 (omega (arith, not_empty)) t.2.4);
      written = tt;
      limit = within _ t.0 1073741824 h.progress t.1 (omega (arith, t.2.5));
      near = stops-in _ t.0 h.progress t.1 (omega (arith, ap length t.2.0, t.2.4));
    }

pub returns-in-ReadFailed : goal.returns-in-ReadFailed
returns-in-ReadFailed g c =
    let h = c.loop-judge.invariant in
    let t = c.in-ReadFailed.ensures.found in
    let put = put-same _ _ c.next_line-found.new.output h.answers h.puts c.in-ReadFailed.ensures.same in
    record {
      name = put.name;
      start = put.start;
      lines = drives-on t.0 h.answers h.progress t.1 put.text refl (λ ys. tt);
      written = c.in-ReadFailed.ensures.written;
      limit = within _ t.0 1073741825 h.progress t.1 (omega (arith, t.2));
      near = tt;
    }

pub returns-in-FlushFailed : goal.returns-in-FlushFailed
returns-in-FlushFailed g c =
    let h = c.loop-judge.invariant in
    let t = c.in-FlushFailed.ensures.found in
    let put = put-same _ _ c.next_line-found.new.output h.answers h.puts c.in-FlushFailed.ensures.same in
    record {
      name = put.name;
      start = put.start;
      lines = drives-on t.0 h.answers h.progress t.1 put.text ([], sym (append-nil h.answers)) (λ ys. tt);
      written = tt;
      limit = within _ t.0 1073741824 h.progress t.1 (omega (arith, t.2.1));
      near = tt;
    }
