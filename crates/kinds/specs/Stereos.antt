-- Stereo samples: their zero, their code, and their sum and difference, each side modulo 65,536.
use Rattle.std.specs.Prelude.{ℕ, ◌+◌, ◌-◌, ◌*◌, ◌%◌}
use Rattle.std.proofs.Common.{mod-lt, lit<}
use Rattle.kinds.specs.declared.stereo.Stereo.{Stereo}

-- silence on both sides
abbrev pub stereo_zero : Stereo
stereo_zero = record { left = 0; right = 0; small = (lit< tt, lit< tt) }

-- the code of two samples has the left one in its high half
abbrev pub stereo_code : Stereo → ℕ
stereo_code w = w.left * 65536 + w.right

-- two numbers as samples, each modulo 65,536
abbrev pub stereo_of : ℕ → ℕ → Stereo
stereo_of m n = record { left = m % 65536; right = n % 65536; small = (mod-lt m (lit< tt), mod-lt n (lit< tt)) }

-- the sum, side by side
abbrev pub stereo_plus : Stereo → Stereo → Stereo
stereo_plus u v = stereo_of (u.left + v.left) (u.right + v.right)

-- the difference, side by side
abbrev pub stereo_minus : Stereo → Stereo → Stereo
stereo_minus u v = stereo_of (u.left + (65536 - v.left)) (u.right + (65536 - v.right))
