-- Where a port or an address of a layer is.
use Rattle.std.specs.Prelude.{◌≡◌, ℕ, ◌+◌, ◌<◌}
use Rattle.joint.specs.declared.place.Place.{Place}
use Rattle.joint.specs.declared.place.Place.TheVariants.{First, Second}

-- where number x of a layer is: in A below the n that A has, in B from there on
abbrev pub PlacedAt : ℕ → ℕ → Place → Type 0
PlacedAt n x (First y) = (x < n) × (y ≡ x)
PlacedAt n x (Second y) = x ≡ n + y
