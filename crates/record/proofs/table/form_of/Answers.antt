-- `form_of` meets its contract: each digit is read off, and any other is the first.
-- Assumes nothing.
use Rattle.record.specs.machinery.Packed.{form_of}
use Rattle.record.proofs.PackedLaws.{form-rest}
use Rattle.record.proofs.table.form_of.Goals as goal

pub returns-in-1 : goal.returns-in-1
unfolding form_of
returns-in-1 c = rw c.in-1.is

pub returns-in-2 : goal.returns-in-2
unfolding form_of
returns-in-2 c = rw c.in-2.is

pub returns-in-3 : goal.returns-in-3
unfolding form_of
returns-in-3 c = rw c.in-3.is

pub returns-in-4 : goal.returns-in-4
unfolding form_of
returns-in-4 c = rw c.in-4.is

pub returns-in_default : goal.returns-in_default
returns-in_default c = form-rest _ c.in_default.in_default-own.rest
