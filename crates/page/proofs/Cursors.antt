-- A text grows piece by piece at a cursor.
use Rattle.std.proofs.Common.{◌≡◌, ℕ, List, [], ◌++◌, refl, ◌∙◌}
use Rattle.page.specs.declared.cursor.Cursor.{Cursor}
use Rattle.page.specs.Cursors.{Appends, Grows, Lays}
use Rattle.page.proofs.Pages.{extends_by, extends_then, extends_is, extends_none}

-- nothing more
pub grows_none : {c : Cursor} → Grows c [] c
grows_none = record { stays = refl; extends = extends_none }

-- one piece
pub grows_by : (old new : Cursor) {bs cs : List ℕ} → bs ≡ cs → Appends old bs new → Grows old cs new
grows_by old new {bs} is (stays, put) = record { stays = stays; extends = extends_is is (extends_by bs new.end put) }

-- one text after another
pub grows_then : {old mid new : Cursor} {bs cs : List ℕ} → Grows old bs mid → Grows mid cs new → Grows old (bs ++ cs) new
grows_then first second = record { stays = second.stays ∙ first.stays; extends = extends_then first.extends second.extends }

-- the same text in other words
pub grows_is : {old new : Cursor} {bs cs : List ℕ} → bs ≡ cs → Grows old bs new → Grows old cs new
grows_is is text = record { stays = text.stays; extends = extends_is is text.extends }

-- a whole text is laid
pub lays : {Says : List ℕ → Type 0} {old new : Cursor} {bs : List ℕ} → Says bs → Grows old bs new → Lays old Says new
lays says text = (text.stays, (_, says, text.extends))
