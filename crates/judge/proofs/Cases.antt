-- Document 01's 14 cases (specs/Cases.antt), by computation: one theorem over the table. And no files at all.
-- Assumes nothing.
use mathlib.Core.List.{[], map}
use mathlib.Core.Path.{◌≡◌, refl}
use Rattle.laws.specs.Count.{how_many}
use Rattle.laws.specs.Find.{first_of, first_index, any}
use Rattle.laws.specs.Nest.{run}
use Rattle.laws.specs.Row.{row, each}
use Rattle.field.specs.Bytes.{all_of}
use Rattle.field.specs.Digits.{digits_number, number_written}
use Rattle.field.specs.Texts.{padded, trim_to, trimmed, edged_by, lawful_text, first_bytes, not_given, base256, word_of}
use Rattle.std.specs.Prelude.{Ok}
use Rattle.record.specs.Table.{col_at, form_at, width_at, must_at, back_at, ahead_at, domain_at, own_at, offset_at, which_of, target_of}
use Rattle.record.specs.Files.{files_of}
use Rattle.record.specs.Cut.{count_of, record_of, text_of}
use Rattle.record.specs.Rules.{breaks10, breaks11, breaks20, breaks21, not_number, not_text, breaks22, breaks23, missing_in, partners_blank, breaks24, word_within, number_within, in_domain, outside, breaks25}
use Rattle.record.specs.Breaks.{at_place, shape_breaks, record_breaks, field_breaks_at, field_breaks, shape_finding, fields_finding}
use Rattle.record.specs.Says.{said_as, said_in}
use Rattle.codec.specs.Values.{value_at, values_say, value_of}
use Rattle.codec.specs.Writes.{joined}
use Rattle.codec.specs.Refusals.{refuses62, bad_text, refuses63, blank_at, partners_missing, refuses64, refuses65, value_breaks, values_finding}
use Rattle.codec.specs.Calls.{answer_in}
use Rattle.record.specs.Names.{name_at, key_of}
use Rattle.keys.specs.Rules.{repeats, breaks30, dangles, breaks40, typed_in, mistyped, breaks41, key_tests, key_reasons}
use Rattle.keys.specs.machinery.Findings.{keys_in, keys_finding}
use Rattle.keys.specs.machinery.Groups.{cell_break, group_finding, over_files}
use Rattle.topology.specs.Rules.{placed, node_in, highest_in, meets, gap, breaks50, unpaired, breaks51, start_elsewhere, breaks52, end_elsewhere, breaks53, same_place, placed_before, breaks54, point_elsewhere, breaks55, ends_tramo, namers, node_idle, breaks56, object_idle, breaks57, is_tip, vertex_with, is_end, is_middle, agrees, disagrees, breaks58, breaks59, fifties, fifty_reasons}
use Rattle.fifties.specs.machinery.Findings.{topology_in, topology_finding}
use Rattle.objects.specs.Rules.{named_by, composite_idle, breaks70, seventies}
use Rattle.judge.specs.Broken.{said_tests, tests_of, reason_of, breaks_in, breaks_of, breaks, counts_of}
use Rattle.judge.specs.Verdict.{judged, verdict_of}
use Rattle.judge.specs.Cases.{ascii, Case, Outcome, outcome, table}

-- THE THEOREM
pub cases : map (λ (c : Case × Outcome). outcome c.0) table ≡ map (λ (c : Case × Outcome). c.1) table
unfolding
    ascii first_of first_index any run row each all_of edged_by lawful_text digits_number number_written padded trim_to trimmed first_bytes not_given base256 word_of
    col_at form_at width_at must_at back_at ahead_at domain_at own_at offset_at which_of files_of count_of record_of text_of
    breaks10 breaks11 breaks20 breaks21 not_number not_text breaks22 breaks23 missing_in partners_blank breaks24 word_within number_within in_domain outside breaks25
    at_place shape_breaks record_breaks field_breaks_at field_breaks shape_finding fields_finding said_as said_in
    value_at values_say value_of joined refuses62 bad_text refuses63 blank_at partners_missing refuses64 refuses65 value_breaks values_finding answer_in
    name_at key_of target_of repeats breaks30 dangles breaks40 typed_in mistyped breaks41 key_tests key_reasons cell_break group_finding over_files keys_in keys_finding
    placed node_in highest_in meets gap breaks50 unpaired breaks51 start_elsewhere breaks52 end_elsewhere breaks53 same_place placed_before breaks54
    point_elsewhere breaks55 ends_tramo how_many namers node_idle breaks56 object_idle breaks57 is_tip vertex_with is_end is_middle agrees disagrees breaks58 breaks59 fifties fifty_reasons topology_in topology_finding
    named_by composite_idle breaks70 seventies
    said_tests tests_of reason_of breaks_in breaks_of breaks judged counts_of verdict_of
cases = refl

-- NO FILES: nothing is broken
pub no-files : judged (files_of []) ≡ Ok tt
unfolding
    first_of run which_of files_of count_of breaks10 breaks11
    said_tests tests_of reason_of breaks_in breaks_of breaks judged
no-files = refl
