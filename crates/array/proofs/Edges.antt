-- What the edge leaves: the held word lands, and both ports are free.
use Rattle.std.proofs.Common.{◌≡◌, ℕ, cond, ltb, List, length, get_or, vec_items, ap, ◌∙◌, arith}
use Rattle.std.proofs.lemmas.Bool.Decides.{nat_tests}
use Rattle.word.specs.declared.Letter.{Letter}
use Rattle.memory.specs.Meaning.{SameShape, address}
use Rattle.memory.specs.Calls.{Edged}
use Rattle.port.specs.declared.WritePort.{WritePort}
use Rattle.port.specs.Ports.{landed, latched}
use Rattle.port.proofs.Ports.{holds_word, landed_here, landed_elsewhere, landed_nowhere, landed_length}
use Rattle.array.specs.declared.array.Array.{Array}
use Rattle.array.specs.Arrays.{Spared, meant, plan_of}
use Rattle.array.specs.Steps.{Freed, Landed}

-- from s by way of mid, in which the word has landed
module _ {W : Type 0} (k : Letter) (z : W) (s mid s' : Array W) (moved : Landed z s mid) (freed : Freed mid s') where
  depth_stays : s'.depth ≡ s.depth
  depth_stays = freed.depth ∙ moved.depth

  cells_are : vec_items s'.cells ≡ landed s.port (get_or (vec_items s.cells) s.depth z) (vec_items s.cells)
  cells_are = freed.cells ∙ moved.cells

  cell_is : (x : ℕ) → get_or (vec_items s'.cells) x z ≡ get_or (landed s.port (get_or (vec_items s.cells) s.depth z) (vec_items s.cells)) x z
  cell_is x = ap (λ (cells : List W). get_or cells x z) cells_are

  same_shape : SameShape (meant k z s) (meant k z s')
  same_shape = record {
    reads = ap (λ (d : ℕ). cond (ltb 0 d) 1 0) depth_stays;
    writes = ap (λ (d : ℕ). cond (ltb 0 d) 1 0) depth_stays;
    depth = depth_stays;
    plan = ap (plan_of k) depth_stays;
  }

  -- the edge of an array
  pub edge_leaves : Edged (meant k z s) (meant k z s')
  edge_leaves =
      let latch = get_or (vec_items s.cells) s.depth z in
      record {
        shape = same_shape;
        landed = λ q x w h e.
            let held = holds_word s.port latch w x e in
            let low = s.within x held.0 in
            let deep = s.deep in
            cell_is x ∙ landed_here s.port latch z (vec_items s.cells) x held.0 (omega arith) ∙ held.1;
        kept = λ x h idle.
            cell_is x
            ∙ landed_elsewhere s.port latch z (vec_items s.cells) x
            (λ e. idle 0 (grind (arith, nat_tests)) (ap (λ (p : WritePort). address (latched p latch)) e));
        used = λ q h. freed.used;
        ports = λ q h. ap (λ (p : WritePort). latched p (get_or (vec_items s'.cells) s'.depth z)) freed.port;
      }

  -- the cells above the depth stay, and so do those of a void array
  pub edge_spares : Spared z (vec_items s.cells) (vec_items s'.cells) s'.depth
  edge_spares =
      let latch = get_or (vec_items s.cells) s.depth z in
      let depth = depth_stays in
      record {
        length = ap length cells_are ∙ landed_length s.port latch (vec_items s.cells);
        above = λ x h.
            cell_is x ∙ landed_elsewhere s.port latch z (vec_items s.cells) x (λ e. let low = s.within x e in omega arith);
        void = λ none. cells_are ∙ landed_nowhere s.port latch (vec_items s.cells) (λ x e. let low = s.within x e in omega arith);
      }
