-- The verdict on a delivery: the eight counts and the first break, by the tens of the reason, then file, record, field and reason.
-- Assumes nothing.
use Rattle.laws.specs.Nest.{run}
use Rattle.record.specs.Breaks.{Finding}
use Rattle.record.specs.Files.{Files}
use Rattle.record.specs.Breaks.{finding_of}
use Rattle.judge.specs.declared.judge.Verdict.{Verdict}
use Rattle.judge.specs.Broken.{breaks, counts_of}

-- the first of all breaks
unfoldable pub judged : Files → Finding
judged files = finding_of (run (breaks files))

-- THE VERDICT
unfoldable pub verdict_of : Files → Verdict
verdict_of files = record { finding = judged files; counts = counts_of files }
