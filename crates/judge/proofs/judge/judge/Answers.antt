-- `judge::judge::judge` meets its contract: THE VERDICT.
-- Assumes nothing.
use Rattle.judge.specs.Verdict.{verdict_of}
use Rattle.judge.proofs.Exact.{searched-is}
use Rattle.judge.proofs.judge.judge.Goals as goal

pub returns : goal.returns
unfolding verdict_of
returns c = rw (c.first_break-finding.ensures, searched-is, c.count_all-counts.ensures)
