use Rattle.std.proofs.Common.{◌∙◌}
use Rattle.regfile.proofs.Clears.{wiped_cleared}
use Rattle.regfile.proofs.Frees.{same_shape}
use Rattle.regfile.proofs.regfile_memory.RegFileMemory.configure.Goals as goal

pub returns : goal.returns
returns c = record {
  order = tt;
  clear = wiped_cleared c.args.self.now c.wipe.new.self c.free.new.self c.wipe.ensures c.free.ensures;
  shape = same_shape c.args.self.now c.free.new.self (c.free.ensures.depth ∙ c.wipe.ensures.depth);
}
