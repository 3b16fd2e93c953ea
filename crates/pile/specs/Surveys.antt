-- What a survey says of a memory's plan.
use Rattle.std.specs.Prelude.{◌≡◌, ℕ, ◌<◌, List, [], take, Some, None, Ok, Err, Option, Result}
use Rattle.word.specs.declared.Letter.{Letter}
use Rattle.node.specs.declared.node.Node.{Node}
use Rattle.node.specs.declared.verdict.Top.{Top}
use Rattle.node.specs.Plans.{macro_count}
use Rattle.seal.specs.Sealing.{Seals}
use Rattle.memory.specs.Meaning.{Meaning, shaped}
use Rattle.stock.specs.declared.stock.Stock.{Stock}
use Rattle.stock.specs.Texts.{StockRead}
use Rattle.planner.specs.declared.listing.Planned.{Planned}
use Rattle.planner.specs.Listings.{Listed}
use Rattle.page.specs.declared.faults.RoomFault.{RoomFault}
use Rattle.wiring.specs.Counting.{MacrosCounted, macro_lines}
use Rattle.wiring.specs.Netlists.{NetlistWritten}
use Rattle.pile.specs.declared.faults.PlanningFault.{PlanningFault}
use Rattle.pile.specs.declared.faults.PlanningFault.TheVariants as planning

-- the top of a memory's plan: the memory's own ports, depth and letter, and the number of its macros; a void memory
-- has none
abbrev pub TopOf : {W : Type 0} → Letter → Meaning W → Option Top → Type 0
TopOf k m (Some t) = (0 < m.depth) × (t.shape ≡ shaped k m) × (t.macros ≡ macro_count m.plan)
TopOf k m None = (m.depth ≡ 0) × (m.plan ≡ [])

-- the listing of a memory's plan against a stock text: the memory's own ports, depth and macro count, its needs by
-- kind, and what is short; or the text's fault, or no room
abbrev pub PlanListed : {W : Type 0} → Letter → Meaning W → List ℕ → List ℕ → List ℕ → Result Planned PlanningFault → Type 0
PlanListed k m text old new (Ok p) = (s : Stock) × (top : Option Top) × StockRead text (Ok s) × TopOf k m top × Listed m.plan top s old new (Ok p)
PlanListed k m text old new (Err (planning.Stock f)) = StockRead text (Err f) × (new ≡ old)
PlanListed k m text old new (Err (planning.Listing f)) = (s : Stock) × (top : Option Top) × StockRead text (Ok s) × TopOf k m top × Listed m.plan top s old new (Err f)

-- a written netlist has as many macro lines as the memory has macros, counted on the text
abbrev pub MacrosDrawn : {W : Type 0} → Meaning W → List ℕ → Result ℕ RoomFault → Type 0
MacrosDrawn m new (Ok n) = macro_lines (take n new) ≡ macro_count m.plan
MacrosDrawn m new (Err f) = Unit {0}

-- the netlist of a memory's plan
abbrev pub PlanDrawn : {W : Type 0} → Letter → Meaning W → List ℕ → List ℕ → Result ℕ RoomFault → Type 0
PlanDrawn k m old new r = (top : Option Top) × TopOf k m top × NetlistWritten m.plan top old new r × MacrosDrawn m new r

-- nodes that are sealed and then planned against a stock text
abbrev pub NodesListed : List Node → List ℕ → List ℕ → List ℕ → Result Planned PlanningFault → Type 0
NodesListed ns text old new (Ok p) = (s : Stock) × (kept : List Node) × (top : Option Top) × StockRead text (Ok s) × Seals ns kept top × Listed kept top s old new (Ok p)
NodesListed ns text old new (Err (planning.Stock f)) = StockRead text (Err f) × (new ≡ old)
NodesListed ns text old new (Err (planning.Listing f)) = (s : Stock) × (kept : List Node) × (top : Option Top) × StockRead text (Ok s) × Seals ns kept top × Listed kept top s old new (Err f)

-- nodes that are sealed and whose netlist is then written
abbrev pub NodesDrawn : List Node → List ℕ → List ℕ → Result ℕ RoomFault → Type 0
NodesDrawn ns old new r = (kept : List Node) × (top : Option Top) × Seals ns kept top × NetlistWritten kept top old new r × MacrosCounted top new r
