use Rattle.std.proofs.Common.{◌≡◌, ℕ, ◌<◌, ◌≤◌, get_or, vec_items, vec_len}
use Rattle.array.proofs.array_memory.ArrayMemory.configure.Given as goal

-- the cells below the address are zero, the others as they were, and the rest of the array stays
abbrev pub invariant-loop-address : goal.invariant-loop-address
invariant-loop-address g l =
    (vec_len l.self.cells ≡ vec_len l.initial.self.cells)
    × (l.self.depth ≡ l.initial.self.depth)
    × (l.self.used ≡ l.initial.self.used)
    × (l.self.port ≡ l.initial.self.port)
    × ((x : ℕ) → x < l.address → get_or (vec_items l.self.cells) x g.W.Word.nought ≡ g.W.Word.nought)
    × ((x : ℕ) → l.address ≤ x → get_or (vec_items l.self.cells) x g.W.Word.nought ≡ get_or (vec_items l.initial.self.cells) x g.W.Word.nought)
    × (l.address ≡ 0 → vec_items l.self.cells ≡ vec_items l.initial.self.cells)
