use Rattle.array.proofs.Edges.{edge_leaves, edge_spares}
use Rattle.array.proofs.array_memory.ArrayMemory.edge.Goals as goal

pub returns : goal.returns
returns g c =
    let z = g.W.Word.nought in
    let s = c.args.self.now in
    let mid = c.land.new.self in
    let s' = c.free.new.self in
    record {
      order = tt;
      does = edge_leaves g.W.Word.kind z s mid s' c.land.ensures c.free.ensures;
      spared = edge_spares g.W.Word.kind z s mid s' c.land.ensures c.free.ensures;
    }
