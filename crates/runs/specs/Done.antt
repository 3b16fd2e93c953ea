-- What one run and two runs give.
use Rattle.std.specs.Prelude.{◌≡◌, ℕ, min, List, length, take, drop}
use Rattle.memory.specs.Meaning.{Meaning, SameShape}
use Rattle.runs.specs.declared.call.Answer.{Answer}
use Rattle.runs.specs.declared.call.Call.{Call}
use Rattle.runs.specs.Runs.{Ran}
use Rattle.runs.specs.Alike.{Agree}

-- one run on a memory: the memory before and after, the calls, the buffer for the answers before and after, and
-- how many calls were tried
pub record Trial (M W : Type 0) : Type 0 where
  pub before : M
  pub after : M
  pub calls : List (Call W)
  pub old : List (Answer W)
  pub new : List (Answer W)
  pub tried : ℕ

-- the calls of a run that were tried
abbrev pub tried_calls : {M W : Type 0} → Trial M W → List (Call W)
tried_calls t = take t.tried t.calls

-- the answers that they got
abbrev pub given_answers : {M W : Type 0} → Trial M W → List (Answer W)
given_answers t = take t.tried t.new

-- what one run gives
pub record OneRan {M W : Type 0} (zero : W) (ordered : M → Type 0) (meaning : M → Meaning W) (t : Trial M W) : Type 0 where
  -- as many calls are tried as the buffer has places for
  pub tried : t.tried ≡ min (length t.calls) (length t.old)
  -- the memory is in order after it, whatever it was before
  pub order : ordered t.after
  -- where it was in order, it keeps its ports, its depth and its plan
  pub shape : ordered t.before → SameShape (meaning t.before) (meaning t.after)
  -- the answers are by the rules, and the memory is as the run says
  pub ran : Ran zero (tried_calls t) (given_answers t) (meaning t.after)
  -- it agrees with every other run by the rules, on any memory
  pub agrees : (others : List (Call W)) (second : List (Answer W)) (n : Meaning W) → Ran zero others second n → Agree (tried_calls t) others (given_answers t) second (meaning t.after) n
  -- past the answers the buffer is as it was
  pub rest : drop t.tried t.new ≡ drop t.tried t.old

-- what two runs on two memories give: each what one run gives, and they agree
pub record BothRan {M N W : Type 0} (zero : W) (ordered_m : M → Type 0) (meaning_m : M → Meaning W) (ordered_n : N → Type 0) (meaning_n : N → Meaning W) (t : Trial M W) (u : Trial N W) : Type 0 where
  pub one : OneRan zero ordered_m meaning_m t
  pub two : OneRan zero ordered_n meaning_n u
  pub agree : Agree (tried_calls t) (tried_calls u) (given_answers t) (given_answers u) (meaning_m t.after) (meaning_n u.after)
