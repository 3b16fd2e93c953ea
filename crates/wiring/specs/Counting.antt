-- The macros of a netlist, counted on its bytes.
use Rattle.std.specs.Prelude.{◌≡◌, ℕ, ◌+◌, Bool, true, false, cond, ◌&&◌, List, [], ◌∷◌, take, Ok, Err, codes, Option, Result, ◌==◌}
use Rattle.node.specs.declared.verdict.Top.{Top}
use Rattle.seal.specs.Sealing.{top_macros}
use Rattle.page.specs.declared.faults.RoomFault.{RoomFault}

-- whether bytes begin with others
abbrev pub begins : List ℕ → List ℕ → Bool
begins [] bs = true
begins (f ∷ fs) [] = false
begins (f ∷ fs) (b ∷ bs) = f == b && begins fs bs

-- 1 where a macro's line begins: with `macro` and a TAB
abbrev pub macro_here : List ℕ → ℕ
macro_here bs = cond (begins (codes "macro\t") bs) 1 0

-- the macros' lines that begin after the end of another (byte 10)
abbrev pub macros_later : List ℕ → ℕ
macros_later [] = 0
macros_later (b ∷ bs) = cond (b == 10) (macro_here bs) 0 + macros_later bs

-- the number of macros' lines of a text
abbrev pub macro_lines : List ℕ → ℕ
macro_lines bs = macro_here bs + macros_later bs

-- the text that is written has as many macros' lines as the plan has macros
abbrev pub MacrosCounted : Option Top → List ℕ → Result ℕ RoomFault → Type 0
MacrosCounted top new (Ok n) = macro_lines (take n new) ≡ top_macros top
MacrosCounted top new (Err f) = Unit {0}
