-- One call tried on a memory, by the memory's meaning before and after.
use Rattle.std.specs.Prelude.{Ok, Err}
use Rattle.memory.specs.Meaning.{Meaning}
use Rattle.memory.specs.Calls.{Read, Write, Edged}
use Rattle.runs.specs.declared.call.Answer.{Answer}
use Rattle.runs.specs.declared.call.Answer.TheVariants.{Word, Accepted, Edged as edged, Refused}
use Rattle.runs.specs.declared.call.Call.{Call}
use Rattle.runs.specs.declared.call.Call.TheVariants.{Read as read, Write as write, Edge as edge}

-- a call, the answer that it gets, and what it does to a memory; no other answer suits it
abbrev pub Tried : {W : Type 0} → Meaning W → Call W → Answer W → Meaning W → Type 0
Tried m (read p a) (Word w) m' = Read m p a (Ok w) m'
Tried m (read p a) (Refused n) m' = Read m p a (Err n) m'
Tried m (read p a) Accepted m' = ⊥
Tried m (read p a) edged m' = ⊥
Tried m (write p a w) Accepted m' = Write m p a w (Ok tt) m'
Tried m (write p a w) (Refused n) m' = Write m p a w (Err n) m'
Tried m (write p a w) (Word v) m' = ⊥
Tried m (write p a w) edged m' = ⊥
Tried m edge edged m' = Edged m m'
Tried m edge (Word w) m' = ⊥
Tried m edge Accepted m' = ⊥
Tried m edge (Refused n) m' = ⊥
