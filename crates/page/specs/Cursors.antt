-- What is put at a cursor.
use Rattle.std.specs.Prelude.{◌≡◌, ℕ, List, Some}
use Rattle.std.specs.Borrow.{MutBor}
use Rattle.page.specs.declared.cursor.Cursor.{Cursor}
use Rattle.page.specs.Pages.{Appended, Extends}

-- a cursor is at the start of a lent buffer
abbrev pub Starts : MutBor (List ℕ) → Cursor → Type 0
Starts out c = (c.out.ghost_name ≡ out.ghost_name) × (c.out.now ≡ out.now) × (c.end ≡ Some 0)

-- bytes are put at a cursor, which stays in its buffer
abbrev pub Appends : Cursor → List ℕ → Cursor → Type 0
Appends old bs new = (new.out.ghost_name ≡ old.out.ghost_name) × Appended old.out.now new.out.now old.end bs new.end

-- bytes are added to whatever text is before a cursor, which stays in its buffer
pub record Grows (old : Cursor) (bs : List ℕ) (new : Cursor) : Type 0 where
  pub stays : new.out.ghost_name ≡ old.out.ghost_name
  pub extends : Extends old.out.now new.out.now old.end bs new.end

-- what is added is one of some texts
abbrev pub Lays : Cursor → (List ℕ → Type 0) → Cursor → Type 0
Lays old Says new =
    (new.out.ghost_name ≡ old.out.ghost_name) × ((bs : List ℕ) × Says bs × Extends old.out.now new.out.now old.end bs new.end)
