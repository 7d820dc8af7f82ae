-- A table's name as plain data, as views and fixed parts hold it.
use Rattle.std.specs.Prelude.{ℕ}
use Rattle.atomic_table.specs.Seated.{TableId}
use Rattle.turnstile.specs.declared.history.TableName.{TableName}
use Rattle.turnstile.specs.declared.history.HistoryName.{HistoryName}

-- the name of a table
abbrev pub name_of : TableId → TableName
name_of z = record { words = z.words; slots = z.slots; views_name = z.views_name; atom = z.atom; block = z.block; offset = z.offset; slot_names = z.slot_names }

-- the table of a name
abbrev pub id_of : TableName → TableId
id_of n = record { words = n.words; slots = n.slots; views_name = n.views_name; atom = n.atom; block = n.block; offset = n.offset; slot_names = n.slot_names }

-- the history's table, which was made for this many passes
abbrev pub history_of : ℕ → TableId → HistoryName
history_of passes z = record { table = name_of z; passes = passes }
