-- `metadata::line::is_fichero` meets its contract.
-- Assumes nothing.
use mathlib.Core.Path.{◌≡◌, refl, ap}
use Prim.Native.Nat.{ℕ, ◌-◌}
use lib.ListN.{length, take, drop}
use native.Mathlib.Omega.{arith}
use Rattle.metadata.proofs.LineLaws.{fichero-short, fichero-long}
use Rattle.metadata.proofs.line.is_fichero.Goals as goal

pub returns-then-n-le9 : goal.returns-then-n-le9
returns-then-n-le9 c = fichero-short c.args.t.now c.if-n-le9.true

pub returns : goal.returns
returns c = let t = c.args.t.now in
    let e : length t - 1 - 8 ≡ length t - 9 = omega arith in
    fichero-long t (λ l. omega arith) refl (ap (λ (n : ℕ). take n (drop 8 t)) e) c.is_word.ensures c.all.ensures
