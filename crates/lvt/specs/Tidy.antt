-- The ports of the layer are tidy where those of its halves are: the lemma that its law cites.
use Rattle.std.specs.Prelude.{◌<◌, List}
use Rattle.std.proofs.Common.{sym, ap, ◌∙◌, arith}
use Rattle.word.specs.declared.Letter.{Letter}
use Rattle.node.specs.declared.node.Layer.TheVariants.{Lvt as own}
use Rattle.memory.specs.Meaning.{Meaning, address, Tidy}
use Rattle.joint.specs.declared.sizes.Joint.{Joint}
use Rattle.joint.specs.Piles.{Agreed}
use Rattle.joint.proofs.Piles.{live_write}
use Rattle.joint.proofs.Sides.{of_first, of_second, side}
use Rattle.lvt.specs.declared.Half.{Half}
use Rattle.lvt.specs.Lvt.{Paired, tabled}

-- an address that the layer holds is held in one half
pub tidy_layer : {W : Type 0} (k : Letter) (j : Joint) (marks : List Half) (a b : Meaning W) → (0 < j.own.depth → Tidy a × Tidy b × Agreed own k j a b × Paired a b) → Tidy (tabled j marks a b)
tidy_layer k j marks a b h = record {
  within = λ q x hq e. (
      let c = h (live_write j q hq) in
      let g = c.2 in
      let n = g.first.writes in
      let w = g.writes in
      let d = g.depth in
      let f = g.matches.fits in
      elim (side j.first.writes b.writes a.port b.port q (omega arith)) [
        | of_first l i ↦ (let t = c.0.within q x (omega arith) (ap address (sym i) ∙ e) in omega arith)
        | of_second o l m i ↦ (let t = c.1.within o x l (ap address (sym i) ∙ e) in omega arith)
      ]);
  apart = λ q q' x hq hq' e e'. (
      let c = h (live_write j q hq) in
      let g = c.2 in
      let n = g.first.writes in
      let w = g.writes in
      elim (side j.first.writes b.writes a.port b.port q (omega arith)) [
        | of_first l i ↦ elim (side j.first.writes b.writes a.port b.port q' (omega arith)) [
          | of_first l' i' ↦ c.0.apart q q' x (omega arith) (omega arith) (ap address (sym i) ∙ e) (ap address (sym i') ∙ e')
          | of_second o' l' m' i' ↦ absurd (c.3.apart q o' x (omega arith) l' (ap address (sym i) ∙ e) (ap address (sym i') ∙ e'))
        ]
        | of_second o l m i ↦ elim (side j.first.writes b.writes a.port b.port q' (omega arith)) [
          | of_first l' i' ↦ absurd (c.3.apart q' o x (omega arith) l (ap address (sym i') ∙ e') (ap address (sym i) ∙ e))
          | of_second o' l' m' i' ↦ (let same = c.1.apart o o' x l l' (ap address (sym i) ∙ e) (ap address (sym i') ∙ e') in omega arith)
        ]
      ]);
}
