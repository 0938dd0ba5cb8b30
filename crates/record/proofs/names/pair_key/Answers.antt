-- `record::names::pair_key` meets its contract.
-- Assumes nothing.
use native.Mathlib.Omega.{arith}
use Rattle.record.proofs.TableLaws.{pair-key}
use Rattle.record.proofs.NameLaws.{key-pair}
use Rattle.record.proofs.names.pair_key.Goals as goal

pub overflow_mul-result : goal.overflow_mul-result
overflow_mul-result c = let n = (pair-key c.args.k c.requires).0 in let h = c.name.ensures.narrow n n in omega arith

pub overflow_add-result : goal.overflow_add-result
overflow_add-result c = let n = (pair-key c.args.k c.requires).0 in let h = c.name.ensures.narrow n n in omega arith

pub returns : goal.returns
returns c = key-pair _ _ _ c.requires c.name.ensures.value c.number.ensures.value
