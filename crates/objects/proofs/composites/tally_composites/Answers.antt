-- `objects::composites::tally_composites` meets its contract. 70's cell, and no other of the file has a rule.
-- Assumes nothing.
use Prim.Native.Nat.{ℕ}
use mathlib.Core.List.{map}
use mathlib.Core.Path.{◌≡◌}
use native.Mathlib.Omega.{arith}
use lib.ListN.{length, replicate, length-replicate}
use Rattle.record.specs.Files.{files_of}
use Rattle.record.proofs.ColumnLaws.{read-fills}
use Rattle.keys.proofs.LentLaws.{table-within}
use Rattle.objects.proofs.SeventyLaws.{composites-tally}
use Rattle.objects.proofs.composites.tally_composites.Goals as goal

zeros-long : (n : ℕ) → length {A = ℕ} (replicate n 0) ≡ n
zeros-long n = length-replicate n _

pub prepare-ids-requires : goal.prepare-ids-requires
prepare-ids-requires g c = let room = zeros-long g.row.N in
    let n = table-within (files_of (map (λ x. x.now) c.args.files)) c.file_of-ob_comp.ensures c.requires.within room in
    let f = read-fills n c.fill_names-n.ensures in
    (omega (arith, f.count, f.small), omega (arith, f.count, f.long), omega (arith, f.count, n))

pub mark_idle_composites-requires : goal.mark_idle_composites-requires
mark_idle_composites-requires g c = let room = zeros-long g.row.N in
    let n = table-within (files_of (map (λ x. x.now) c.args.files)) c.file_of-ob_comp.ensures c.requires.within room in
    let f = read-fills n c.fill_names-n.ensures in
    let ids = c.prepare-ids.ensures in (
      rw (ids.keys, ids.n) (rw c.file_of-ob_comp.ensures at f),
      omega (arith, f.count, n, ids.n),
      omega (arith, f.count, n, ids.n),
      λ k. omega (arith, c.requires.within.each k, room),
    )

pub with_marks-requires : goal.with_marks-requires
with_marks-requires g c = let room = zeros-long g.row.N in
    let n = table-within (files_of (map (λ x. x.now) c.args.files)) c.file_of-ob_comp.ensures c.requires.within room in
    let f = read-fills n c.fill_names-n.ensures in
    (rw c.no_tally.ensures (omega arith), omega (arith, f.count, n, c.mark_idle_composites.ensures.long), omega (arith, f.count, f.small))

pub returns : goal.returns
returns g c = let room = zeros-long g.row.N in
    let n = table-within (files_of (map (λ x. x.now) c.args.files)) c.file_of-ob_comp.ensures c.requires.within room in
    let f = read-fills n c.fill_names-n.ensures in
    composites-tally _ (rw c.file_of-ob_comp.ensures at f.count) c.no_tally.ensures c.mark_idle_composites.ensures c.with_marks.ensures
