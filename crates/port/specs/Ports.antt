-- The write port of a macro: how events move it, and what it means beside its latch.
use Rattle.std.specs.Prelude.{ℕ, List, Some, None, Option, slice_set}
use Rattle.memory.specs.Meaning.{Port, free, holding}
use Rattle.port.specs.declared.WritePort.{WritePort}
use Rattle.port.specs.declared.WritePort.TheVariants.{Free, Holding}
use Rattle.port.specs.declared.Event.{Event}
use Rattle.port.specs.declared.Event.TheVariants.{Store, Edge}

-- where an event moves a port: a free one takes a store, a holding one keeps what it holds, and an edge frees either
abbrev pub stepped : WritePort → Event → WritePort
stepped Free (Store x) = Holding x
stepped (Holding y) (Store x) = Holding y
stepped Free Edge = Free
stepped (Holding y) Edge = Free

-- the address that a port holds
abbrev pub held : WritePort → Option ℕ
held Free = None
held (Holding x) = Some x

-- the words after a port's word has gone to the address that the port holds
abbrev pub landed : {W : Type 0} → WritePort → W → List W → List W
landed Free w ws = ws
landed (Holding x) w ws = slice_set ws x w

-- a port with the word in its latch
abbrev pub latched : {W : Type 0} → WritePort → W → Port W
latched Free w = free
latched (Holding x) w = holding x w
