-- What a configuration leaves.
use Rattle.std.proofs.Common.{List, get_or, ap, ◌∙◌}
use Rattle.kinds.specs.declared.bits64.Bits64.{Bits64}
use Rattle.kinds.specs.Bits.{bits64_zero}
use Rattle.memory.specs.Meaning.{Cleared}
use Rattle.regfile.specs.declared.regfile.RegFile.{RegFile}
use Rattle.regfile.specs.Limits.{max_words}
use Rattle.regfile.specs.RegFiles.{meant}
use Rattle.regfile.specs.Steps.{Freed, Wiped}
use Rattle.regfile.proofs.Frees.{same_everywhere, reads_free, writes_free}

-- one that was wiped and then made free
pub wiped_cleared : (s mid s' : RegFile) → Wiped s mid → Freed mid s' → Cleared bits64_zero (meant s')
wiped_cleared s mid s' wiped freed = record {
  words = λ x h. ap (λ (ws : List Bits64). get_or ws x bits64_zero) (freed.words ∙ wiped.words) ∙ same_everywhere max_words x bits64_zero;
  used = λ q h. reads_free mid s' freed q;
  ports = λ q h. writes_free mid s' freed q;
}
