use Rattle.std.proofs.Common.{[], ◌∷◌, ◌++◌, sym, ap, ◌∙◌}
use Rattle.node.specs.declared.node.Node.{Node}
use Rattle.text.proofs.Lines.{adds_first, adds_then, adds_is, adds_whole}
use Rattle.node_line.specs.Lines.{line_of}
use Rattle.node_line.proofs.Rendering.{layer_short}
use Rattle.node_line.proofs.render.Goals as goal

pub returns-in-Layer : goal.returns-in-Layer
returns-in-Layer c =
    let name = adds_is c.layer_name.ensures (adds_first c.new.ensures c.word.ensures) in
    adds_whole (adds_then name c.byte.ensures) (layer_short c.in-Layer.layer)
    ∙ ap (λ (n : Node). line_of n ++ (10 ∷ [])) (sym c.in-Layer.is)
