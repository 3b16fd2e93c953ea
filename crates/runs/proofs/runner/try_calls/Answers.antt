use Rattle.std.proofs.Common.{◌≡◌, ◌+◌, ◌<◌, length, take, drop, set, sym, ap, ◌∙◌, subst, arith, rules, length-take-le}
use Rattle.std.proofs.lemmas.List.{take_all, take_more_set, drop-set-lt, drop-drop}
use Rattle.runs.specs.Runs.{Ran}
use Rattle.runs.proofs.Loop.{Running, running_next, ran, agree, shape_then}
use Rattle.runs.proofs.runner.try_calls.Goals as goal

pub loop-i-preserved : goal.loop-i-preserved
loop-i-preserved g c =
    let inv = c.loop-i.invariant in
    let i = c.loop-i.i in
    let cs = take c.min-tried.result c.args.calls.now in
    let xs = c.loop-i.answers in
    let r = c.attempt.result in
    let tried = c.attempt.ensures inv.0 in
    let long = length-take-le c.min-tried.result c.args.calls.now (omega arith) in
    let room : i < length xs = omega arith in
    let next = running_next g.M.Word.Word.nought cs (take i xs) (take (i + 1) (set xs i r)) (g.M.Memory.meaning c.loop-i.m) (g.M.Memory.meaning c.attempt.new.m) i c.call-item.result r c.loop-i-test.true c.call-item.is (take_more_set xs i r room) inv.2 tried.1 in
    let rest : drop (i + 1) xs ≡ drop (i + 1) c.args.answers.now = sym (drop-drop 1 i xs) ∙ ap (drop 1) inv.3 ∙ drop-drop 1 i c.args.answers.now in
    (tried.0, shape_then inv.1 next.1, next.0, drop-set-lt (i + 1) xs i r (omega arith) ∙ rest)

pub returns : goal.returns
returns g c =
    let inv = c.loop-i.invariant in
    let xs = c.loop-i.answers in
    let n = c.min-tried.result in
    let cs = take n c.args.calls.now in
    let long : length cs ≡ n = length-take-le n c.args.calls.now (omega arith) in
    let end : c.loop-i.i ≡ n = omega arith in
    let z = g.M.Word.Word.nought in
    let m = g.M.Memory.meaning c.loop-i.m in
    let run : Running z (take n cs) (take n xs) m = subst (λ k. Running z (take k cs) (take k xs) m) end inv.2 in
    let whole : Ran z cs (take n xs) m = ran z _ _ m (subst (λ ds. Running z ds (take n xs) m) (take_all n cs (omega arith)) run) in
    record {
      tried = c.min-tried.ensures;
      order = inv.0;
      shape = λ o. inv.1;
      ran = whole;
      agrees = λ others second o h. agree z _ others _ second m o whole h;
      rest = subst (λ k. drop k xs ≡ drop k c.args.answers.now) end inv.3;
    }

pub offset_bounds-answers-i : goal.offset_bounds-answers-i
offset_bounds-answers-i g c =
    let long = length-take-le c.min-tried.result c.args.calls.now (omega arith) in
    let room : c.loop-i.i < length c.args.answers.now = omega arith in
    search rules
