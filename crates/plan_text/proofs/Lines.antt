-- The text of nodes, line by line, and one turn of the reader.
use Rattle.std.proofs.Common.{◌≡◌, ℕ, ◌+◌, ◌<◌, ◌≤◌, List, [], ◌∷◌, ◌++◌, length, get_or, take, drop, set, sym, ap, ◌∙◌, append_assoc, arith}
use Rattle.std.proofs.lemmas.List.{flat_map_more, length_push, set_at, drop_more, take_more, take_all}
use Rattle.std.proofs.ByRecursion.{All-push}
use Rattle.text.proofs.Fronts.{text_push}
use Rattle.node.specs.declared.node.Node.{Node}
use Rattle.node_line.specs.Lines.{line_of, NodeInRange}
use Rattle.plan_text.specs.Texts.{Front, text_of}

-- a line is read into the next place
pub one_more : {text : List ℕ} {old new ns : List Node} {left : List ℕ} (l rest : List ℕ) (n : Node) (count : ℕ) → Front text old new ns left → count ≡ length ns → left ≡ l ++ (10 ∷ rest) → l ≡ line_of n → NodeInRange n → count < 64 → count < length old → (count + 1 ≡ length (ns ++ n ∷ [])) × Front text old (set new count n) (ns ++ n ∷ []) rest
one_more {text} {old} {new} {ns} {left} l rest n count f is cut line ok few room =
    let len = length_push ns n in (
      omega arith,
      record {
        split = f.split ∙ ap (λ t. text_of ns ++ t) (cut ∙ ap (λ t. t ++ (10 ∷ rest)) line) ∙ sym (text_push line_of ns n rest);
        ranged = All-push NodeInRange ns n f.ranged ok;
        few = omega arith;
        fits = omega arith;
        buffer =
            ap (λ b. set b count n) (f.buffer ∙ ap (λ t. ns ++ t) (drop_more old (length ns) n (omega arith)))
            ∙ set_at ns (get_or old (length ns) n) (drop (length ns + 1) old) n count (sym is)
            ∙ sym (append_assoc ns (n ∷ []) (drop (length ns + 1) old))
            ∙ ap (λ k. (ns ++ n ∷ []) ++ drop k old) (sym len);
      },
    )

-- the text of the first nodes
pub text_more : (ns : List Node) (i : ℕ) (d : Node) → i < length ns → text_of (take (i + 1) ns) ≡ text_of (take i ns) ++ (line_of (get_or ns i d) ++ (10 ∷ []))
text_more ns i d l = ap text_of (take_more ns i d l) ∙ sym (flat_map_more (λ m. line_of m ++ (10 ∷ [])) [] (take i ns) (get_or ns i d))

pub text_all : (ns : List Node) (i : ℕ) → length ns ≤ i → text_of (take i ns) ≡ text_of ns
text_all ns i l = ap text_of (take_all i ns l)
