-- The two steps of an array's edge, which no other crate sees.
use Rattle.std.specs.Prelude.{◌≡◌, false, vec_items, slice_index_or}
use Rattle.port.specs.declared.WritePort.TheVariants.{Free}
use Rattle.port.specs.Ports.{landed}
use Rattle.array.specs.declared.array.Array.{Array}

-- the held word is at its address, and nothing else has changed
pub record Landed {W : Type 0} (z : W) (s s' : Array W) : Type 0 where
  pub depth : s'.depth ≡ s.depth
  pub cells : vec_items s'.cells ≡ landed s.port (slice_index_or (vec_items s.cells) s.depth z) (vec_items s.cells)
  pub used : s'.used ≡ s.used
  pub port : s'.port ≡ s.port

-- both ports are free, and nothing else has changed
pub record Freed {W : Type 0} (s s' : Array W) : Type 0 where
  pub depth : s'.depth ≡ s.depth
  pub cells : vec_items s'.cells ≡ vec_items s.cells
  pub used : s'.used ≡ false
  pub port : s'.port ≡ Free
