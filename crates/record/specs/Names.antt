-- How the records of a file are named: what a field names, as one number, and a record's key.
-- Assumes nothing.
use Rattle.std.specs.Prelude.{ℕ, ◌+◌, ◌*◌, ◌&&◌, eqb}
use Rattle.laws.specs.Row.{pick}
use Rattle.record.specs.declared.kind.Kind.{Kind}
use Rattle.record.specs.Table.{keys_of, own_at}
use Rattle.record.specs.Says.{Table, is_missing, number_in, key_in}

-- what field f of record i names; 0 where it is missing (a CODIGO is never NA or ND here: that is 24). Where a field is blank for which
-- the record's own id stands, that id is named: a blank TRAMO line id means the line with the tramo's own id
unfoldable pub name_at : Kind → Table → ℕ → ℕ → ℕ
name_at k t i f = pick (own_at k f && is_missing (t.says i f)) (key_in (t.says i 1)) (key_in (t.says i f))

-- a line and an order together, as one number: an order has five digits
abbrev pub vertex_key : ℕ → ℕ → ℕ
vertex_key line order = line * 100000 + order

-- the key of a record: CODIGO; own id; in VERTICE, whose key is two fields, line and order together
unfoldable pub key_of : Kind → Table → ℕ → ℕ
key_of k t i = pick (eqb (keys_of k) 2) (vertex_key (name_at k t i 1) (number_in (t.says i 2))) (name_at k t i 1)
