-- What the code's iterator over rows gives, in the words of the walk.
--   found_row r c, found_item i c == the row that the code reads, or none, and the cursor behind it
--   Gives a i b    == the iterator a gives the row i of nodes or elements, or none, and is b then
-- Definitions only.
use Rattle.std.specs.Prelude.{◌≡◌, Option, None, Some}
use Rattle.mesh_form.specs.declared.Cursor.{Cursor}
use Rattle.mesh_form.specs.declared.Item.{Item}
use Rattle.mesh_form.specs.declared.items.Found.{Found as FoundRow}
use Rattle.mesh_form.specs.declared.items.Items.{Items}
use Rattle.mesh_form.specs.Walk.{Found, Reads, kind_number, row_number}

abbrev pub found_row : Option FoundRow → Cursor → Found
found_row None c = record { kind = 0; at = c.at; next = c }
found_row (Some r) c = record { kind = row_number r.kind; at = r.at; next = c }

abbrev pub found_item : Option Item → Cursor → Found
found_item None c = record { kind = 0; at = c.at; next = c }
found_item (Some i) c = record { kind = kind_number i.kind; at = i.at; next = c }

pub record Gives (a : Items) (i : Option Item) (b : Items) : Type 0 where
  pub same : b.t ≡ a.t
  pub reads : Reads 2 a.t.now a.c (found_item i b.c)
