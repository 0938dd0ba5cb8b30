-- `keys::group::tally_field` meets its contract. By what the field refers to.
-- Assumes nothing.
use mathlib.Core.List.{map}
use mathlib.Core.Path.{refl, sym, ◌∙◌}
use native.Mathlib.Omega.{arith}
use Rattle.record.proofs.TableLaws.{sane}
use Rattle.record.specs.Files.{files_of}
use Rattle.keys.proofs.KeyTallies.{field-small, field-free, field-absent, field-to, field-nodes, field_codes}
use Rattle.keys.proofs.LentLaws.{table-within, hand-room}
use Rattle.keys.proofs.group.tally_field.Goals as goal

pub tally_codes-requires : goal.tally_codes-requires
tally_codes-requires g c = let files = files_of (map (λ x. x.now) c.args.files) in
    let own = c.file_of-own.ensures in
    let hand = c.requires.2 in
    let lent = c.requires.3 in (
      field-small files _ _ _ c.requires.0 c.requires.1,
      omega (arith, c.requires.0, sane c.args.k),
      table-within files own lent (omega (arith, c.args.room.now.long)),
      table-within files own lent (omega (arith, c.args.room.now.long)),
      table-within files own lent (omega (arith, c.args.room.now.long)),
      hand.typed.long,
      omega (arith, c.args.room.now.long, hand-room hand.catalogue (lent.each _)),
    )

pub returns-then-refers_to_catalogue : goal.returns-then-refers_to_catalogue
returns-then-refers_to_catalogue g c = let hand = c.requires.2 in
    field_codes _ _ _ c.target-target.ensures c.requires.1 c.file_of-own.ensures refl (sym c.refers_to_catalogue.ensures ∙ c.if-refers_to_catalogue.true)
    hand.catalogue.fills hand.typed c.letter-wanted.ensures c.tally_codes.ensures

pub tally_known-requires : goal.tally_known-requires
tally_known-requires g c = let a = c.args in
    let files = files_of (map (λ x. x.now) a.files) in
    let own = c.file_of-own.ensures in (
      omega (arith, field-small files a.k a.f a.t c.requires.0 c.requires.1),
      table-within files own c.requires.3 (omega (arith, c.args.room.now.long)),
      table-within files own c.requires.3 (omega (arith, c.args.room.now.long)),
    )

pub returns-then-refers_to_nodes : goal.returns-then-refers_to_nodes
returns-then-refers_to_nodes g c = field-nodes _ _ _ c.target-target.ensures c.requires.1 c.file_of-own.ensures refl (sym c.refers_to_catalogue.ensures ∙ c.if-refers_to_catalogue.false)
    (sym c.refers_to_nodes.ensures ∙ c.if-refers_to_nodes.true) c.requires.2.named.fills c.tally_known.ensures

pub tally_present-requires : goal.tally_present-requires
tally_present-requires g c = let a = c.args in
    let files = files_of (map (λ x. x.now) a.files) in
    (omega (arith, field-small files a.k a.f a.t c.requires.0 c.requires.1), table-within files c.file_of-own.ensures c.requires.3 (omega (arith, c.args.room.now.long)))

pub overflow_mul-f-in-To : goal.overflow_mul-f-in-To
overflow_mul-f-in-To g c = omega (arith, c.requires.0, sane c.args.k)

pub tally_dangling-requires : goal.tally_dangling-requires
tally_dangling-requires g c = let a = c.args in
    let files = files_of (map (λ x. x.now) a.files) in
    let own = c.file_of-own.ensures in
    let other = c.file_of-to.ensures in
    let lent = c.requires.3 in (
      omega (arith, field-small files a.k a.f a.t c.requires.0 c.requires.1),
      table-within files own lent (omega (arith, c.args.room.now.long)),
      table-within files own lent (omega (arith, c.args.room.now.long)),
      table-within files other lent (omega (arith, c.args.room.now.long)),
      table-within files other lent (omega (arith, c.args.room.now.long)),
    )

pub returns-in-Free : goal.returns-in-Free
returns-in-Free g c = field-free _ _ _ c.target-target.ensures c.requires.1 c.in-Free.is

pub returns-in-Nowhere : goal.returns-in-Nowhere
returns-in-Nowhere g c = field-absent _ _ _ c.target-target.ensures c.requires.1 c.file_of-own.ensures refl c.in-Nowhere.is c.tally_present.ensures

pub returns-in-To : goal.returns-in-To
returns-in-To g c = field-to _ _ _ c.target-target.ensures c.requires.1 c.file_of-own.ensures refl (sym c.refers_to_catalogue.ensures ∙ c.if-refers_to_catalogue.false) c.in-To.is
    c.file_of-to.ensures c.tally_dangling.ensures
