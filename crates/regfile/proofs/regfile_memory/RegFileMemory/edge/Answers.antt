use Rattle.regfile.proofs.Edges.{edge_leaves}
use Rattle.regfile.proofs.regfile_memory.RegFileMemory.edge.Goals as goal

pub returns : goal.returns
returns c = record {
  order = tt;
  does = edge_leaves c.args.self.now c.land.new.self c.free.new.self c.land.ensures c.free.ensures;
}
