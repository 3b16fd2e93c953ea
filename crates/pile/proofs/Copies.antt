-- A plan copied node by node.
use Rattle.std.proofs.Common.{◌≡◌, ℕ, ◌+◌, ◌<◌, ◌≤◌, List, [], ◌∷◌, ◌++◌, length, take, set, Some, None, sym, ap, ◌∙◌, arith}
use Rattle.std.proofs.lemmas.List.{take_all, take_more, take_more_set}
use Rattle.std.proofs.lemmas.Option.{slice_get_cases, slice_get_within, get_or_from_slice_get}
use Rattle.std.specs.List.{slice_get}
use Rattle.word.specs.declared.Letter.{Letter}
use Rattle.node.specs.declared.node.Node.{Node}
use Rattle.node.specs.Limits.{max_nodes}
use Rattle.memory.specs.Meaning.{Meaning, Planned, whole, void}

-- one node more
pub copy_more : (plan nodes : List Node) (i : ℕ) (n : Node) → i < length nodes → slice_get plan i ≡ Some n → take i nodes ≡ take i plan → take (i + 1) (set nodes i n) ≡ take (i + 1) plan
copy_more plan nodes i n room e same =
    let next : take (i + 1) plan ≡ take i plan ++ (n ∷ []) =
    take_more plan i n (slice_get_within plan i n e) ∙ ap (λ (x : Node). take i plan ++ (x ∷ [])) (get_or_from_slice_get plan i n n e) in
    take_more_set nodes i n room ∙ ap (λ (t : List Node). t ++ (n ∷ [])) same ∙ sym next

-- no node is missing
pub node_there : (plan : List Node) (i : ℕ) → i < length plan → slice_get plan i ≡ None → ⊥
node_there plan i h e = grind (arith, slice_get_cases plan i)

-- a memory's plan has room in a buffer of as many nodes as a plan may have
pub plan_few : {W : Type 0} {k : Letter} {m : Meaning W} → Planned k m → length m.plan ≤ max_nodes
plan_few (whole p) = p.0
plan_few (void none r w d) = omega (arith, ap length none)

-- all nodes are copied
pub copy_all : (plan nodes : List Node) (i : ℕ) → length plan ≤ i → take i nodes ≡ take i plan → take i nodes ≡ plan
copy_all plan nodes i all same = same ∙ take_all i plan all
