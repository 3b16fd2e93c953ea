-- What holds after every port was made free.
use Rattle.std.proofs.Common.{◌≡◌, ℕ, zero, suc, Bool, false, cond, ltb, List, get_or, replicate, refl, ap, ◌∙◌}
use Rattle.memory.specs.Meaning.{SameShape, free}
use Rattle.port.specs.declared.WritePort.{WritePort}
use Rattle.port.specs.Ports.{latched}
use Rattle.regfile.specs.declared.regfile.RegFile.{RegFile}
use Rattle.regfile.specs.Limits.{read_ports, write_ports}
use Rattle.regfile.specs.Slots.{latch_at}
use Rattle.regfile.specs.RegFiles.{meant, plan_of}
use Rattle.regfile.specs.Steps.{Freed}

-- a list of one value has it at every place, and past the end too where that is the default
pub same_everywhere : {X : Type 0} (n i : ℕ) (x : X) → get_or (replicate n x) i x ≡ x
same_everywhere zero i x = refl
same_everywhere (suc n) zero x = refl
same_everywhere (suc n) (suc i) x = same_everywhere n i x

-- the depth makes the shape
pub same_shape : (s s' : RegFile) → s'.depth ≡ s.depth → SameShape (meant s) (meant s')
same_shape s s' depth = record {
  reads = ap (λ (d : ℕ). cond (ltb 0 d) read_ports 0) depth;
  writes = ap (λ (d : ℕ). cond (ltb 0 d) write_ports 0) depth;
  depth = depth;
  plan = ap plan_of depth;
}

module _ (s s' : RegFile) (freed : Freed s s') where
  pub reads_free : (q : ℕ) → get_or s'.used q false ≡ false
  reads_free q = ap (λ (us : List Bool). get_or us q false) freed.used ∙ same_everywhere read_ports q false

  pub writes_free : (q : ℕ) → (meant s').port q ≡ free
  writes_free q = ap (λ (p : WritePort). latched p (latch_at s'.slots q)) (freed.ports q)
