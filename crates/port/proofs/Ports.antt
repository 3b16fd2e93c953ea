-- What the state of a write port tells, and what a word that lands leaves.
use Rattle.std.proofs.Common.{◌≡◌, ℕ, ◌<◌, List, length, get_or, Some, refl, arith, length-set, get_or-set_other, get_or-set_same}
use Rattle.memory.specs.Meaning.{free, holding, address}
use Rattle.port.specs.declared.WritePort.{WritePort}
use Rattle.port.specs.declared.WritePort.TheVariants.{Free, Holding}
use Rattle.port.specs.declared.Event.TheVariants.{Store}
use Rattle.port.specs.Ports.{stepped, landed, latched}

-- a port with an address holds it
pub holds_address : {W : Type 0} (p : WritePort) (w : W) (x : ℕ) → address (latched p w) ≡ Some x → p ≡ Holding x
holds_address Free w x e = let clash : ◌≡◌ {A = ℕ} 0 1 = cc in absurd (omega arith)
holds_address (Holding y) w x e = cc

-- a port that holds an address and a word has that word in its latch
pub holds_word : {W : Type 0} (p : WritePort) (w v : W) (x : ℕ) → latched p w ≡ holding x v → (p ≡ Holding x) × (w ≡ v)
holds_word Free w v x e = let clash : ◌≡◌ {A = ℕ} 0 1 = cc in absurd (omega arith)
holds_word (Holding y) w v x e = (cc, cc)

-- a free port takes a store
pub store_holds : {W : Type 0} (p : WritePort) (w : W) (x : ℕ) → latched p w ≡ free → stepped p (Store x) ≡ Holding x
store_holds Free w x e = refl
store_holds (Holding y) w x e = let clash : ◌≡◌ {A = ℕ} 0 1 = cc in absurd (omega arith)

-- a word lands at the address that its port holds
pub landed_here : {W : Type 0} (p : WritePort) (w z : W) (ws : List W) (x : ℕ) → p ≡ Holding x → x < length ws → get_or (landed p w ws) x z ≡ w
landed_here Free w z ws x e room = let clash : ◌≡◌ {A = ℕ} 0 1 = cc in absurd (omega arith)
landed_here (Holding y) w z ws x e room =
    let same : y ≡ x = cc in
    rw same (get_or-set_same ws x w z room)

-- elsewhere the words stay
pub landed_elsewhere : {W : Type 0} (p : WritePort) (w z : W) (ws : List W) (x : ℕ) → (p ≡ Holding x → ⊥) → get_or (landed p w ws) x z ≡ get_or ws x z
landed_elsewhere Free w z ws x other = refl
landed_elsewhere (Holding y) w z ws x other = get_or-set_other ws y x w z (λ e. other (rw e refl))

-- no word lands where no address is held
pub landed_nowhere : {W : Type 0} (p : WritePort) (w : W) (ws : List W) → ((x : ℕ) → p ≡ Holding x → ⊥) → landed p w ws ≡ ws
landed_nowhere Free w ws none = refl
landed_nowhere (Holding y) w ws none = absurd (none y refl)

-- there are as many words as before
pub landed_length : {W : Type 0} (p : WritePort) (w : W) (ws : List W) → length (landed p w ws) ≡ length ws
landed_length Free w ws = refl
landed_length (Holding y) w ws = length-set ws y w
