-- The macros among the nodes of a plan, each of which is asked for by its place.
use Rattle.std.proofs.Common.{◌≡◌, ℕ, zero, suc, ◌+◌, List, [], ◌∷◌, length, filter, refl, ap, ◌∙◌, add-one}
use Rattle.std.specs.List.{slice_get, range_with_len, filter_map}
use Rattle.node.specs.declared.node.Node.{Node}
use Rattle.node.specs.Nodes.{is_macro}
use Rattle.node.specs.Plans.{macro_count}
use Rattle.node.proofs.Stacking.{length_macros}

-- the items from place a + 1 on are those of the tail from place a on
behind_first : (n : Node) (ns : List Node) (a k : ℕ) → filter_map (slice_get (n ∷ ns)) (range_with_len (a + 1) k) ≡ filter_map (slice_get ns) (range_with_len a k)
behind_first n ns a zero = refl
behind_first n ns a (suc k) =
    let here : slice_get (n ∷ ns) (a + 1) ≡ slice_get ns a = ap (slice_get (n ∷ ns)) (add-one a) in
    let rest = behind_first n ns (a + 1) k in
    cc

-- the items at all places are the list
each_place : (ns : List Node) → filter_map (slice_get ns) (range_with_len 0 (length ns)) ≡ ns
each_place [] = refl
each_place (n ∷ ns) = ap (λ (rest : List Node). n ∷ rest) (behind_first n ns 0 (length ns) ∙ each_place ns)

-- so the macros among them are those of the plan
pub counted : (plan : List Node) (n r : ℕ) → n ≡ length plan → r ≡ length (filter is_macro (filter_map (slice_get plan) (range_with_len 0 n))) → r ≡ macro_count plan
counted plan n r e h =
    let all : filter_map (slice_get plan) (range_with_len 0 n) ≡ plan = rw e (each_place plan) in
    h ∙ ap (λ (ns : List Node). length (filter is_macro ns)) all ∙ length_macros plan
