-- `judge::judge::check_group` meets its contract, by the ten.
-- Assumes nothing.
use borrow.Author.Rules.{rules}
use Rattle.judge.specs.machinery.Searched.{group_at}
use Rattle.judge.proofs.JudgeLaws.{group-else}
use Rattle.judge.proofs.judge.check_group.Goals as goal

pub returns-in-1 : goal.returns-in-1
unfolding group_at
returns-in-1 c = rw c.in-1.is (c.first_of_files.ensures _ (λ k v e. search rules))

pub returns-in-2 : goal.returns-in-2
unfolding group_at
returns-in-2 c = rw c.in-2.is (c.first_of_files-in-2.ensures _ (λ k v e. search rules))

pub returns-in-3 : goal.returns-in-3
unfolding group_at
returns-in-3 c = rw c.in-3.is c.check_keys.ensures

pub returns-in-4 : goal.returns-in-4
unfolding group_at
returns-in-4 c = rw c.in-4.is c.check_keys-in-4.ensures

pub returns-in-5 : goal.returns-in-5
unfolding group_at
returns-in-5 c = rw c.in-5.is c.check_topology.ensures

pub returns-in-7 : goal.returns-in-7
unfolding group_at
returns-in-7 c = rw c.in-7.is c.check_objects.ensures

pub returns-in_default : goal.returns-in_default
returns-in_default c = group-else _ _ c.in_default.in_default-own.rest
