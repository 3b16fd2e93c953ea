-- The numbers of a memory that is not void.
use Rattle.std.proofs.Common.{◌≤◌, List, arith}
use Rattle.word.specs.declared.Letter.{Letter}
use Rattle.node.specs.declared.node.Node.{Node}
use Rattle.node.specs.declared.node.Layer.TheVariants.{Replicate, Lvt, Xor, Depth, Width}
use Rattle.node.specs.declared.shape.Shape.{Shape}
use Rattle.node.specs.Limits.{max_ports, max_depth}
use Rattle.node.specs.Plans.{Plan, single, layered}
use Rattle.memory.specs.Meaning.{Meaning, Planned, whole, void}

-- ports and depth within their limits
pub record Ranged (s : Shape) : Type 0 where
  pub reads_low : 1 ≤ s.reads
  pub reads_high : s.reads ≤ max_ports
  pub writes_low : 1 ≤ s.writes
  pub writes_high : s.writes ≤ max_ports
  pub depth_low : 1 ≤ s.depth
  pub depth_high : s.depth ≤ max_depth

-- every plan's shape is within the limits
pub plan_ranged : {ns : List Node} {s : Shape} → Plan ns s → Ranged s
plan_ranged (single r) = record {
  reads_low = r.reads_low;
  reads_high = r.reads_high;
  writes_low = r.writes_low;
  writes_high = r.writes_high;
  depth_low = r.depth_low;
  depth_high = r.depth_high;
}
plan_ranged (layered Replicate p q f) =
    let a = plan_ranged p in
    let b = plan_ranged q in
    record { reads_low = omega arith; reads_high = omega arith; writes_low = omega arith; writes_high = omega arith; depth_low = omega arith; depth_high = omega arith }
plan_ranged (layered Lvt p q f) =
    let a = plan_ranged p in
    let b = plan_ranged q in
    record { reads_low = omega arith; reads_high = omega arith; writes_low = omega arith; writes_high = omega arith; depth_low = omega arith; depth_high = omega arith }
plan_ranged (layered Xor p q f) =
    let a = plan_ranged p in
    let b = plan_ranged q in
    record { reads_low = omega arith; reads_high = omega arith; writes_low = omega arith; writes_high = omega arith; depth_low = omega arith; depth_high = omega arith }
plan_ranged (layered Depth p q f) =
    let a = plan_ranged p in
    let b = plan_ranged q in
    record { reads_low = omega arith; reads_high = omega arith; writes_low = omega arith; writes_high = omega arith; depth_low = omega arith; depth_high = omega arith }
plan_ranged (layered Width p q f) =
    let a = plan_ranged p in
    let b = plan_ranged q in
    record { reads_low = omega arith; reads_high = omega arith; writes_low = omega arith; writes_high = omega arith; depth_low = omega arith; depth_high = omega arith }

-- no number of a memory is past its limit
pub record Small {W : Type 0} (m : Meaning W) : Type 0 where
  pub reads : m.reads ≤ max_ports
  pub writes : m.writes ≤ max_ports
  pub depth : m.depth ≤ max_depth

pub planned_small : {W : Type 0} {k : Letter} {m : Meaning W} → Planned k m → Small m
planned_small (whole p) = let r = plan_ranged p.1 in record { reads = omega arith; writes = omega arith; depth = omega arith }
planned_small (void n r w d) = record { reads = omega arith; writes = omega arith; depth = omega arith }
