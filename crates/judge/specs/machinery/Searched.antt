-- Machinery: the first break as the code searches for it, a ten after the other and in each file by file; and what is broken by each
-- crate's own tests. No promise cites this file.
-- Assumes nothing.
use Rattle.std.specs.Prelude.{ℕ, ◌+◌, ◌/◌, Bool, false, [], ◌∷◌, get_or}
use Rattle.laws.specs.Find.{first_of}
use Rattle.record.specs.declared.kind.Kind.{Kind}
use Rattle.record.specs.Breaks.{Finding}
use Rattle.std.specs.Prelude.{Ok}
use Rattle.record.specs.Files.{Files, delivery_of}
use Rattle.record.specs.Breaks.{finding_of, shape_finding, fields_finding, broken}
use Rattle.keys.specs.machinery.Groups.{break_in, over_files}
use Rattle.keys.specs.machinery.Findings.{keys_finding, keys_broken}
use Rattle.fifties.specs.machinery.Findings.{topology_finding, topology_broken}
use Rattle.objects.specs.machinery.Findings.{objects_finding, objects_broken}
use Rattle.judge.specs.Broken.{last_ten}

-- the first break of the reasons of a ten
unfoldable pub group_at : Files → ℕ → Finding
group_at files t =
    get_or
    (Ok tt
    ∷ over_files (λ k. shape_finding (files k) k)
    ∷ over_files (λ k. fields_finding (files k) k)
    ∷ keys_finding 3 (delivery_of files)
    ∷ keys_finding 4 (delivery_of files)
    ∷ topology_finding (delivery_of files)
    ∷ Ok tt
    ∷ objects_finding (delivery_of files)
    ∷ [])
    t (Ok tt)

-- the first break, the tens in their order
unfoldable pub searched : Files → Finding
searched files = finding_of (first_of (λ t. break_in (group_at files t)) (last_ten + 1))

-- the test of the reason with the number n, as its crate has it
unfoldable pub broken_in : Files → ℕ → Kind → ℕ → ℕ → Bool
broken_in files n k i f =
    get_or
    (false
    ∷ broken (files k) k n i f
    ∷ broken (files k) k n i f
    ∷ keys_broken (delivery_of files) k n i f
    ∷ keys_broken (delivery_of files) k n i f
    ∷ topology_broken (delivery_of files) k n i f
    ∷ false
    ∷ objects_broken (delivery_of files) k n i f
    ∷ [])
    (n / 10) false
